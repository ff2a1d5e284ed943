use Rattle.candidate_sites.proofs.OpeningLemmas.{opening-first, opening-none}
use Rattle.candidate_sites.proofs.laws.the_opening_is_the_first_of_least_cost.Goals as goal

pub returns-clause-first : goal.returns-clause-first
returns-clause-first c = opening-first

pub returns-clause-none : goal.returns-clause-none
returns-clause-none c = opening-none
