use Rattle.std.proofs.Common.{◌∙◌, ◌^◌, pos, ◌≤ℤ◌, ap, to_z, of_z, rules, arith}
use mir.Syntax.{w64, w128}
use Rattle.std.specs.Int.{int_div_euclid}
use Rattle.std.proofs.lemmas.Int.{to_z-of_z}
use borrow.Author.Differences.{ints}
use Rattle.siting_definitions.specs.Square.{Square}
use Rattle.objectives.proofs.Sizes.{weights_small}
use Rattle.centre_bound.proofs.ClosedForm.{cut-is, cut_most}
use Rattle.centre_bound.proofs.cut.cut.Goals as goal

pub sum_of_terms-sum-requires-clause-weight : goal.sum_of_terms-sum-requires-clause-weight
sum_of_terms-sum-requires-clause-weight c =
    weights_small c.args.instance.now c.points.result.now c.points.ensures.limits c.points.ensures.value

pub returns-clause-value : goal.returns-clause-value
returns-clause-value c =
    let side = to_z-of_z w64 c.side_len.result (search rules) ∙ c.side_len.ensures.value ∙ ap (λ (s : Square). pos (2 ^ s.level)) c.quarter.ensures in
    let divided = c.div_euclid.ensures ∙ ap (λ z. int_div_euclid z (pos 1048576)) (to_z-of_z w128 c.least_at_corners.result (search rules)) in
    to_z-of_z w128 c.div_euclid.result (search rules)
    ∙ cut-is c.args.instance.now c.args.square c.centre-centre.result c.points.result.now _ _ _ _ _ _ c.requires c.centre-centre.ensures c.points.ensures.value c.sum_of_terms-sum.ensures.at_centre c.sum_of_terms-sum.ensures.right c.sum_of_terms-sum.ensures.upper side c.least_at_corners.ensures divided

pub returns-clause-most : goal.returns-clause-most
returns-clause-most c =
    let side = to_z-of_z w64 c.side_len.result (search rules) ∙ c.side_len.ensures.value in
    let least : (pos 0) ≤ℤ (to_z w64 (of_z w64 c.side_len.result)) = rw side (omega (arith, ints)) in
    let divided = c.div_euclid.ensures ∙ ap (λ z. int_div_euclid z (pos 1048576)) (to_z-of_z w128 c.least_at_corners.result (search rules)) in
    rw (to_z-of_z w128 c.div_euclid.result (search rules))
    (cut_most _ _ _ _ _ c.sum_of_terms-sum.ensures.small.at_centre least c.least_at_corners.ensures divided)
