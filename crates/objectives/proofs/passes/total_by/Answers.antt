use Rattle.std.proofs.Common.{◌∙◌, FitsSigned, ap, rules, arith}
use mir.Syntax.{w64, w128}
use Rattle.std.specs.Prelude.{unsigned_abs, sum_by, take}
use Rattle.std.proofs.lemmas.Int.{to_z-of_z}
use Rattle.std.proofs.lemmas.List.Sums.{sum_by-take-le}
use Rattle.std.proofs.lemmas.Grind.{common_steps}
use Rattle.siting_definitions.specs.Instance.{DemandPt}
use Rattle.objectives.proofs.Sizes.{so_far_small, total_small}
use Rattle.objectives.proofs.JoinedTerms.{joined_more, joined_small, unwrap_small}
use Rattle.objectives.proofs.passes.total_by.Goals as goal

pub join-requires-clause-so_far : goal.join-requires-clause-so_far
join-requires-clause-so_far g c =
    so_far_small _ _ _ g.R.Radii.limit c.loop-point.invariant.small (sum_by-take-le (λ (d : DemandPt). unsigned_abs d.w) c.args.points.now c.loop-point.point-index) c.requires g.met.R.Radii.is_small

pub loop-point-preserved : goal.loop-point-preserved
loop-point-preserved g c =
    let fits : FitsSigned w128 c.join.result = search rules in
    let weight_fits : FitsSigned w64 c.point.inside.w = search rules in
    let is = to_z-of_z w128 c.join.result fits ∙ c.join.ensures in
    let weight = to_z-of_z w64 c.point.inside.w weight_fits ∙ ap (λ (d : DemandPt). d.w) c.point.view_is in
    record {
      joined = joined_more g.T.Total.joined (g.R.Radii.radius_of c.args.radii.now) c.args.points.now c.loop-point.point-index c.point-item.result c.loop-point.so_far _ _ c.radius.result c.loop-point-test.true c.point-item.is weight c.radius.ensures.value c.loop-point.invariant.joined is;
      small = joined_small g.T.Total.joined c.args.points.now c.loop-point.point-index c.point-item.result c.loop-point.so_far _ _ c.radius.result g.R.Radii.limit g.met.T.Total.law c.loop-point-test.true c.point-item.is weight c.radius.ensures.size c.loop-point.invariant.small is;
    }

pub returns-clause-value : goal.returns-clause-value
returns-clause-value g c =
    let h = c.unwrap_or.ensures in let k = c.loop-point.invariant.joined in grind (arith, common_steps)

pub returns-clause-size : goal.returns-clause-size
returns-clause-size g c =
    let fits : FitsSigned w128 c.unwrap_or.result = search rules in
    rw (to_z-of_z w128 c.unwrap_or.result fits, c.unwrap_or.ensures)
    (total_small _ (sum_by (λ (d : DemandPt). unsigned_abs d.w) (take c.loop-point.point-index c.args.points.now)) _ g.R.Radii.limit (omega (arith, unwrap_small c.loop-point.so_far, c.loop-point.invariant.small)) (sum_by-take-le (λ (d : DemandPt). unsigned_abs d.w) c.args.points.now c.loop-point.point-index) c.requires)
