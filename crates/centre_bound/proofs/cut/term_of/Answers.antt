use Rattle.std.proofs.Common.{◌∙◌, ap, subst, rules, refl, arith}
use mir.Syntax.{w64, w128}
use Rattle.std.proofs.lemmas.Int.{to_z-of_z}
use borrow.Author.Differences.{ints, same_in}
use Rattle.siting_definitions.specs.Instance.{DemandPt}
use Rattle.centre_bound.specs.Sizes.{IsSmall}
use Rattle.centre_bound.proofs.Computed.{term-straight, slope-straight-x, slope-straight-y, term-other, slope-other-x, slope-other-y, other_small}
use Rattle.centre_bound.proofs.cut.term_of.Goals as goal

pub returns-then-is_straight-clause-at_centre : goal.returns-then-is_straight-clause-at_centre
returns-then-is_straight-clause-at_centre c =
    let weight = to_z-of_z w64 c.point.inside.w (search rules) ∙ ap (λ (d : DemandPt). d.w) c.point.view_is in
    term-straight c.args.square c.args.centre c.args.point _ _ _ c.if-is_straight.ensures c.requires.centre c.place_of.ensures weight c.straight_term.ensures.at_centre

pub returns-then-is_straight-clause-right : goal.returns-then-is_straight-clause-right
returns-then-is_straight-clause-right c =
    let weight = to_z-of_z w64 c.point.inside.w (search rules) ∙ ap (λ (d : DemandPt). d.w) c.point.view_is in
    slope-straight-x c.args.square c.args.centre c.args.point _ _ _ c.if-is_straight.ensures c.requires.centre c.place_of.ensures weight c.straight_term.ensures.right

pub returns-then-is_straight-clause-upper : goal.returns-then-is_straight-clause-upper
returns-then-is_straight-clause-upper c =
    let weight = to_z-of_z w64 c.point.inside.w (search rules) ∙ ap (λ (d : DemandPt). d.w) c.point.view_is in
    slope-straight-y c.args.square c.args.centre c.args.point _ _ _ c.if-is_straight.ensures c.requires.centre c.place_of.ensures weight c.straight_term.ensures.upper

pub returns-then-is_straight-clause-small : goal.returns-then-is_straight-clause-small
returns-then-is_straight-clause-small c =
    let weight = to_z-of_z w64 c.point.inside.w (search rules) ∙ ap (λ (d : DemandPt). d.w) c.point.view_is in
    subst (IsSmall c.straight_term.result) weight c.straight_term.ensures.small

pub returns-else-is_straight-clause-at_centre : goal.returns-else-is_straight-clause-at_centre
returns-else-is_straight-clause-at_centre c =
    let weight = to_z-of_z w64 c.point-else-is_straight.inside.w (search rules) ∙ ap (λ (d : DemandPt). d.w) c.point-else-is_straight.view_is in
    to_z-of_z w128 c.product.result (search rules)
    ∙ term-other c.args.square c.args.centre c.args.point _ _ _ c.fine_radius.result c.product.ensures c.if-is_straight.ensures weight c.fine_radius.ensures.value (same_in _ _ (omega (arith, ints, c.fine_radius.ensures.size)))

pub returns-else-is_straight-clause-right : goal.returns-else-is_straight-clause-right
returns-else-is_straight-clause-right c = slope-other-x c.args.square c.args.point c.if-is_straight.ensures

pub returns-else-is_straight-clause-upper : goal.returns-else-is_straight-clause-upper
returns-else-is_straight-clause-upper c = slope-other-y c.args.square c.args.point c.if-is_straight.ensures

pub returns-else-is_straight-clause-small : goal.returns-else-is_straight-clause-small
returns-else-is_straight-clause-small c =
    let weight = to_z-of_z w64 c.point-else-is_straight.inside.w (search rules) ∙ ap (λ (d : DemandPt). d.w) c.point-else-is_straight.view_is in
    subst (IsSmall _) weight
    (other_small _ _ c.fine_radius.result _ c.fine_radius.ensures.size (same_in _ _ (omega (arith, ints, c.fine_radius.ensures.size))) (to_z-of_z w128 c.product.result (search rules) ∙ c.product.ensures) refl refl)
