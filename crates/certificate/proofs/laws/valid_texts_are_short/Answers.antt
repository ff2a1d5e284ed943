use Rattle.certificate.proofs.LengthLemmas.{few_marks, valid-short, length-answer_text}
use Rattle.certificate.proofs.laws.valid_texts_are_short.Goals as goal

pub returns-clause-marks : goal.returns-clause-marks
returns-clause-marks c = few_marks

pub returns-clause-bytes : goal.returns-clause-bytes
returns-clause-bytes c = valid-short

pub returns-clause-by_marks : goal.returns-clause-by_marks
returns-clause-by_marks c = length-answer_text
