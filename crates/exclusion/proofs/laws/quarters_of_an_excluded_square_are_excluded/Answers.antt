use Rattle.exclusion.proofs.ExcludedLemmas.{excluded-quarter}
use Rattle.exclusion.proofs.laws.quarters_of_an_excluded_square_are_excluded.Goals as goal

pub returns : goal.returns
returns c = excluded-quarter
