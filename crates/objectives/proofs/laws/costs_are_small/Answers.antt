use Rattle.objectives.proofs.SiteSizes.{upper_of-IsCost}
use Rattle.objectives.proofs.laws.costs_are_small.Goals as goal

pub returns : goal.returns
returns c = upper_of-IsCost
