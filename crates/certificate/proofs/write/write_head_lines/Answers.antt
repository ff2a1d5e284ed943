use Rattle.std.proofs.Common.{refl, rules, FitsSigned, w64}
use Rattle.std.proofs.lemmas.Int.{to_z-of_z}
use Rattle.port_io.proofs.PutLemmas.{PutOn-then, PutOn-stop}
use Rattle.certificate.proofs.Written.{head_text-parts}
use Rattle.certificate.proofs.write.write_head_lines.Goals as goal

pub returns-in_err-write_limits : goal.returns-in_err-write_limits
returns-in_err-write_limits g c =
    let fits : FitsSigned w64 c.head.inside.gap = search rules in
    let limits = simp to_z-of_z at c.in_err-write_limits.ensures in
    rw (head_text-parts c.args.head.now, ← c.head.view_is) (PutOn-stop _ refl c.from_residual.ensures.0 limits)

pub returns-in_err-write_best : goal.returns-in_err-write_best
returns-in_err-write_best g c =
    let fits : FitsSigned w64 c.head.inside.gap = search rules in
    let limits = simp to_z-of_z at c.in_ok-write_limits.ensures in
    rw (head_text-parts c.args.head.now, ← c.head.view_is)
    (PutOn-then limits (PutOn-stop _ refl c.from_residual-in_err-write_best.ensures.0 c.in_err-write_best.ensures))

pub returns-in_err-write_bound : goal.returns-in_err-write_bound
returns-in_err-write_bound g c =
    let fits : FitsSigned w64 c.head.inside.gap = search rules in
    let limits = simp to_z-of_z at c.in_ok-write_limits.ensures in
    rw (head_text-parts c.args.head.now, ← c.head.view_is)
    (PutOn-then limits
    (PutOn-then c.in_ok-write_best.ensures (PutOn-stop _ refl c.from_residual-in_err-write_bound.ensures.0 c.in_err-write_bound.ensures)))

pub returns-in_err-write_outcome : goal.returns-in_err-write_outcome
returns-in_err-write_outcome g c =
    let fits : FitsSigned w64 c.head.inside.gap = search rules in
    let limits = simp to_z-of_z at c.in_ok-write_limits.ensures in
    rw (head_text-parts c.args.head.now, ← c.head.view_is)
    (PutOn-then limits
    (PutOn-then c.in_ok-write_best.ensures
    (PutOn-then c.in_ok-write_bound.ensures
    (PutOn-stop _ refl c.from_residual-in_err-write_outcome.ensures.0 c.in_err-write_outcome.ensures))))

pub returns : goal.returns
returns g c =
    let fits : FitsSigned w64 c.head.inside.gap = search rules in
    let limits = simp to_z-of_z at c.in_ok-write_limits.ensures in
    let root = rw c.root.ensures at c.write_root.ensures in
    rw (head_text-parts c.args.head.now, ← c.head.view_is)
    (PutOn-then limits
    (PutOn-then c.in_ok-write_best.ensures (PutOn-then c.in_ok-write_bound.ensures (PutOn-then c.in_ok-write_outcome.ensures root))))
