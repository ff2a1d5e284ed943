use Rattle.objectives.proofs.BoundLemmas.{lower_of-bounds, upper_of-bounds}
use Rattle.objectives.proofs.laws.costs_enclose.Goals as goal

pub returns-clause-at_least : goal.returns-clause-at_least
returns-clause-at_least c = lower_of-bounds

pub returns-clause-at_most : goal.returns-clause-at_most
returns-clause-at_most c = upper_of-bounds
