use Rattle.answer_model.proofs.TallyLemmas.{tally_of-append}
use Rattle.answer_model.proofs.tally.tallies_join.Goals as goal

pub returns : goal.returns
returns c = tally_of-append
