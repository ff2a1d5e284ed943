use Rattle.certificate.proofs.AnswerTextLemmas.{answer_text_injective}
use Rattle.certificate.proofs.laws.no_text_is_of_two_answers.Goals as goal

pub returns : goal.returns
returns c = answer_text_injective
