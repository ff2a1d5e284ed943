use Rattle.std.proofs.Common.{◌*◌, ◌∙◌, FitsSigned, ap, rules}
use mir.Syntax.{w64, w128}
use Rattle.std.specs.Prelude.{unsigned_abs}
use Rattle.std.proofs.lemmas.Int.{to_z-of_z}
use Rattle.std.proofs.lemmas.List.Sums.{sum_by-take-le}
use Rattle.siting_definitions.specs.Instance.{DemandPt}
use Rattle.dist_bounds.specs.Limits.{longest}
use Rattle.objectives.proofs.Sizes.{so_far_small}
use Rattle.objectives.proofs.JoinedTerms.{joined_more, joined_small}
use Rattle.objectives.proofs.passes.totals_by.Goals as goal

pub join-requires-clause-so_far : goal.join-requires-clause-so_far
join-requires-clause-so_far g c =
    so_far_small _ _ _ g.R.TwoRadii.first_limit c.loop-point.invariant.first_small (sum_by-take-le (λ (d : DemandPt). unsigned_abs d.w) c.args.points.now c.loop-point.point-index) c.requires g.met.R.TwoRadii.is_small

pub loop-point-preserved : goal.loop-point-preserved
loop-point-preserved g c =
    let joined = g.T.Total.joined in
    let points = c.args.points.now in
    let radii = c.args.radii.now in
    let i = c.loop-point.point-index in
    let point = c.point-item.result in
    let both = c.radii-one.result in
    let first_fits : FitsSigned w128 c.join.result = search rules in
    let second_fits : FitsSigned w128 c.join-in-loop-point.result = search rules in
    let weight_fits : FitsSigned w64 c.point.inside.w = search rules in
    let first = to_z-of_z w128 c.join.result first_fits ∙ c.join.ensures in
    let second = to_z-of_z w128 c.join-in-loop-point.result second_fits ∙ c.join-in-loop-point.ensures in
    let weight = to_z-of_z w64 c.point.inside.w weight_fits ∙ ap (λ (d : DemandPt). d.w) c.point.view_is in
    record {
      first = joined_more joined (g.R.TwoRadii.first_of radii) points i point c.loop-point.first _ _ both.0 c.loop-point-test.true c.point-item.is weight c.radii-one.ensures.first c.loop-point.invariant.first first;
      second = joined_more joined (g.R.TwoRadii.second_of radii) points i point c.loop-point.second _ _ both.1 c.loop-point-test.true c.point-item.is weight c.radii-one.ensures.second c.loop-point.invariant.second second;
      first_small = joined_small joined points i point c.loop-point.first _ _ both.0 g.R.TwoRadii.first_limit g.met.T.Total.law c.loop-point-test.true c.point-item.is weight c.radii-one.ensures.first_size c.loop-point.invariant.first_small first;
      second_small = joined_small joined points i point c.loop-point.second _ _ both.1 (65536 * longest) g.met.T.Total.law c.loop-point-test.true c.point-item.is weight c.radii-one.ensures.second_size c.loop-point.invariant.second_small second;
    }
