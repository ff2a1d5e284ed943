use Rattle.objectives.proofs.QuarterLemmas.{fine_of-quarter}
use Rattle.objectives.proofs.laws.quarters_are_bounded_higher.Goals as goal

pub returns : goal.returns
returns c = fine_of-quarter
