use Rattle.std.proofs.Common.{rules, FitsSigned, w64}
use Rattle.std.proofs.lemmas.Int.{to_z-of_z}
use Rattle.port_io.proofs.PutLemmas.{Wrote-finish}
use Rattle.bsss_cli.proofs.output.put_near.Goals as goal

pub returns : goal.returns
returns g c =
    let fits : FitsSigned w64 c.args.cost = c.ranges.cost in
    let put = simp to_z-of_z at c.in_ok-write_near_text.ensures.put in
    Wrote-finish c.new-out.ensures.stage put c.finish.ensures (search rules)
