use Rattle.std.proofs.Common.{◌∙◌, rules}
use mir.Syntax.{w64, w128}
use Rattle.std.proofs.lemmas.Int.{to_z-of_z}
use Rattle.centre_bound.proofs.Computed.{weighed-along, weighed-is, straight_small}
use Rattle.centre_bound.proofs.cut.straight_term.Goals as goal

pub returns-clause-at_centre : goal.returns-clause-at_centre
returns-clause-at_centre c =
    to_z-of_z w128 c.product.result (search rules)
    ∙ weighed-along c.args.place c.args.centre c.args.w c.scalar_product-along.result _ _ _ _ _ c.ranges.w (search rules) c.product.ensures c.scalar_product-along.ensures c.direction-direction.ensures.x c.direction-direction.ensures.y c.way_to.ensures.x c.way_to.ensures.y

pub returns-clause-right : goal.returns-clause-right
returns-clause-right c =
    to_z-of_z w64 c.slope.result (search rules)
    ∙ weighed-is c.args.w c.direction-direction.result.x _ _ c.ranges.w (search rules) c.slope.ensures c.direction-direction.ensures.x

pub returns-clause-upper : goal.returns-clause-upper
returns-clause-upper c =
    to_z-of_z w64 c.slope-2.result (search rules)
    ∙ weighed-is c.args.w c.direction-direction.result.y _ _ c.ranges.w (search rules) c.slope-2.ensures c.direction-direction.ensures.y

pub returns-clause-small : goal.returns-clause-small
returns-clause-small c =
    straight_small c.args.place c.args.centre c.args.w _ c.direction-direction.ensures.distance (returns-clause-at_centre c) (returns-clause-right c) (returns-clause-upper c)
