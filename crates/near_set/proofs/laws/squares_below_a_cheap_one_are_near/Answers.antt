use Rattle.near_set.proofs.NearLemmas.{cheap_squares_near}
use Rattle.near_set.proofs.laws.squares_below_a_cheap_one_are_near.Goals as goal

pub returns : goal.returns
returns c = cheap_squares_near
