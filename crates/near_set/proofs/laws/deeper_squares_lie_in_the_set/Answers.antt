use Rattle.near_set.proofs.NearLemmas.{deeper_set}
use Rattle.near_set.proofs.laws.deeper_squares_lie_in_the_set.Goals as goal

pub returns : goal.returns
returns c = deeper_set
