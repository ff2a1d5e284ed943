use Rattle.std.proofs.Common.{refl, FitsSigned, w64}
use Rattle.std.proofs.lemmas.Int.{to_z-of_z}
use Rattle.port_io.proofs.PutLemmas.{PutOn-then, PutOn-stop}
use Rattle.bsss_cli.proofs.output.write_near_text.Goals as goal

pub returns-in_err-write_near_head : goal.returns-in_err-write_near_head
returns-in_err-write_near_head g c =
    let fits : FitsSigned w64 c.args.cost = c.ranges.cost in
    let head = simp (to_z-of_z, c.level_below.ensures) at c.in_err-write_near_head.ensures in
    PutOn-stop _ refl c.from_residual.ensures.0 head

pub returns-in_err-write_near : goal.returns-in_err-write_near
returns-in_err-write_near g c =
    let fits : FitsSigned w64 c.args.cost = c.ranges.cost in
    let head = simp (to_z-of_z, c.level_below.ensures) at c.in_ok-write_near_head.ensures in
    let squares = simp to_z-of_z at c.in_err-write_near.ensures in
    PutOn-then head (PutOn-stop _ refl c.from_residual-in_err-write_near.ensures.0 squares)

pub returns : goal.returns
returns g c =
    let fits : FitsSigned w64 c.args.cost = c.ranges.cost in
    let head = simp (to_z-of_z, c.level_below.ensures) at c.in_ok-write_near_head.ensures in
    let squares = simp to_z-of_z at c.in_ok-write_near.ensures in
    let end = rw c.requires.count at c.write_near_end.ensures in
    PutOn-then head (PutOn-then squares end)
