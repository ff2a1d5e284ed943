use Rattle.centre_bound.proofs.CutLemmas.{centre_bound_of-bounds}
use Rattle.centre_bound.proofs.laws.centre_bound_is_a_bound.Goals as goal

pub returns : goal.returns
returns c = centre_bound_of-bounds
