use Rattle.cert_checker.proofs.CutLemmas.{items_of-cut, take_marks-append, take_marks-tally}
use Rattle.cert_checker.proofs.laws.a_check_is_cut_in_two.Goals as goal

pub returns-clause-marks : goal.returns-clause-marks
returns-clause-marks c = take_marks-append

pub returns-clause-tally : goal.returns-clause-tally
returns-clause-tally c = take_marks-tally

pub returns-clause-lines : goal.returns-clause-lines
returns-clause-lines c = items_of-cut
