use Rattle.near_set.proofs.NearLemmas.{larger_set}
use Rattle.near_set.proofs.laws.greater_costs_have_larger_sets.Goals as goal

pub returns : goal.returns
returns c = larger_set
