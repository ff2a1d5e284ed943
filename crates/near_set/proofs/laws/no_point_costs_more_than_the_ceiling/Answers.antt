use Rattle.near_set.proofs.CeilingLemmas.{ceiling_of-bounds}
use Rattle.near_set.proofs.laws.no_point_costs_more_than_the_ceiling.Goals as goal

pub returns : goal.returns
returns c = ceiling_of-bounds
