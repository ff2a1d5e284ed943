use Rattle.near_set.proofs.NearLemmas.{near_points_held}
use Rattle.near_set.proofs.laws.near_points_are_held.Goals as goal

pub returns : goal.returns
returns c = near_points_held
