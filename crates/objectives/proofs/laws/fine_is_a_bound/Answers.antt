use Rattle.objectives.proofs.BoundLemmas.{fine_of-bounds}
use Rattle.objectives.proofs.laws.fine_is_a_bound.Goals as goal

pub returns : goal.returns
returns c = fine_of-bounds
