use Rattle.objectives.proofs.CoarseLemmas.{coarse_of-le-fine_of, fine_of-le-coarse_of}
use Rattle.objectives.proofs.Sizes.{weight-positive}
use Rattle.objectives.proofs.laws.coarse_is_below_fine.Goals as goal

pub returns-clause-below : goal.returns-clause-below
returns-clause-below c = coarse_of-le-fine_of

pub returns-clause-near : goal.returns-clause-near
returns-clause-near c i s limits = fine_of-le-coarse_of i s (weight-positive i limits)
