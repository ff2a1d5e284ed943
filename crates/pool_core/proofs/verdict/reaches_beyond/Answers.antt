use Rattle.std.proofs.Common.{◌≡◌, pos, ◌+ℤ◌, ◌-ℤ◌, FitsSigned, w64, sym, ap, ◌∙◌, rules, ℤ}
use Rattle.std.proofs.Math.IntN.{+ℤ_assoc}
use Rattle.std.proofs.lemmas.Int.{to_z-of_z}
use Rattle.siting_definitions.specs.Marks as marks
use Rattle.pool_core.proofs.verdict.reaches_beyond.Goals as goal

pub returns : goal.returns
returns c =
    let bound : FitsSigned w64 c.args.bound = c.ranges.bound in
    let weight : FitsSigned w64 c.args.weight = c.ranges.weight in
    let gap : FitsSigned w64 c.args.gap = c.ranges.gap in
    let less : FitsSigned w64 (c.args.weight -ℤ pos 1) = search rules in
    let far : FitsSigned w64 ((c.args.weight -ℤ pos 1) +ℤ c.args.gap) = search rules in
    let is : c.reaches.result ≡ marks.reaches c.args.least (c.args.bound +ℤ ((c.args.weight -ℤ pos 1) +ℤ c.args.gap)) = c.reaches.ensures ∙ simp to_z-of_z in
    is ∙ ap (marks.reaches c.args.least) (sym (+ℤ_assoc c.args.bound (c.args.weight -ℤ pos 1) c.args.gap) ∙ ap (λ (z : ℤ). z +ℤ c.args.gap) (sym (+ℤ_assoc c.args.bound c.args.weight _)))
