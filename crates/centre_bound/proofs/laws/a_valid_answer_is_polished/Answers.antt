use Rattle.centre_bound.proofs.PolishLemmas.{polished_bounds, valid_fine}
use Rattle.centre_bound.proofs.laws.a_valid_answer_is_polished.Goals as goal

pub returns-clause-polished : goal.returns-clause-polished
returns-clause-polished c = polished_bounds

pub returns-clause-fine : goal.returns-clause-fine
returns-clause-fine c = valid_fine
