use Rattle.centre_bound.proofs.CutLemmas.{fine_of-le}
use Rattle.centre_bound.proofs.laws.centre_bound_is_at_least_fine.Goals as goal

pub returns : goal.returns
returns c = fine_of-le
