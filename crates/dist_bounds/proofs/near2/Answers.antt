use Rattle.dist_bounds.proofs.DistanceLemmas.{near2-below}
use Rattle.dist_bounds.proofs.near2.Goals as goal

pub returns-clause-encloses : goal.returns-clause-encloses
returns-clause-encloses c = rw c.near_or_far2.ensures.value (near2-below c.args.sq c.args.a)
