use Rattle.std.proofs.Common.{rules}
use Rattle.siting_definitions.specs.Point.{point_of}
use Rattle.objectives.proofs.BoundLemmas.{lower_of-bounds, upper_of-bounds}
use Rattle.objectives.proofs.CostOrder.{cost_order}
use Rattle.objectives.proofs.Computed.{lower-from, upper-from}
use Rattle.objectives.proofs.costs.cost_of.Goals as goal

pub returns-clause-lower : goal.returns-clause-lower
returns-clause-lower c =
    lower-from c.args.instance.now c.args.site c.totals_of-lower.result.0 c.round_down.result (search rules) (search rules) c.totals_of-lower.ensures.first c.round_down.ensures.value

pub returns-clause-upper : goal.returns-clause-upper
returns-clause-upper c =
    upper-from c.args.instance.now c.args.site c.totals_of-lower.result.1 c.round_up.result (search rules) (search rules) c.totals_of-lower.ensures.second c.round_up.ensures.value

pub returns-clause-at_least : goal.returns-clause-at_least
returns-clause-at_least c = rw (returns-clause-lower c) (lower_of-bounds c.args.instance.now c.args.site)

pub returns-clause-at_most : goal.returns-clause-at_most
returns-clause-at_most c = rw (returns-clause-upper c) (upper_of-bounds c.args.instance.now c.args.site)

pub returns-clause-ordered : goal.returns-clause-ordered
returns-clause-ordered c =
    cost_order c.args.instance.now (point_of c.args.site) _ _ (returns-clause-at_least c) (returns-clause-at_most c)
