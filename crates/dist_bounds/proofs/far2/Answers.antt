use Rattle.dist_bounds.proofs.DistanceLemmas.{far2-above}
use Rattle.dist_bounds.proofs.far2.Goals as goal

pub returns-clause-encloses : goal.returns-clause-encloses
returns-clause-encloses c = rw c.near_or_far2.ensures.value (far2-above c.args.sq c.args.a)
