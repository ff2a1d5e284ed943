use Rattle.objectives.proofs.CostOrder.{cost_order}
use Rattle.objectives.proofs.laws.costs_are_ordered.Goals as goal

pub returns : goal.returns
returns c = cost_order
