use mir.Syntax.{w128}
use Rattle.std.proofs.Common.{◌+ℤ◌, FitsSigned, w64, rules}
use Rattle.std.proofs.Math.Facts.{sfits_widen}
use Rattle.std.proofs.lemmas.Int.{to_z-of_z}
use Rattle.objectives.proofs.gap.is_at_most.Goals as goal

pub returns : goal.returns
returns c =
    let upper : FitsSigned w64 c.args.upper = c.ranges.upper in
    let bound : FitsSigned w64 c.args.bound = c.ranges.bound in
    let gap : FitsSigned w64 c.args.gap = c.ranges.gap in
    let wide_upper : FitsSigned w128 c.args.upper = sfits_widen tt upper in
    let wide_bound : FitsSigned w128 c.args.bound = sfits_widen tt bound in
    let wide_gap : FitsSigned w128 c.args.gap = sfits_widen tt gap in
    let sum : FitsSigned w128 (c.args.bound +ℤ c.args.gap) = search rules in
    simp to_z-of_z
