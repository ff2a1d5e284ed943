use Rattle.cert_checker.proofs.CheckLemmas.{answers_of, rose_of, later_of, heard_of}
use Rattle.cert_checker.proofs.checking.check.Goals as goal

pub returns-clause-answers : goal.returns-clause-answers
returns-clause-answers g c = answers_of _ _ _ c.check_text.ensures.read

pub returns-clause-read_fault : goal.returns-clause-read_fault
returns-clause-read_fault g c = rose_of _ _ _ c.check_text.ensures.counts

pub returns-clause-later : goal.returns-clause-later
returns-clause-later g c = later_of _ _ _ c.check_text.ensures.counts

pub returns-clause-heard : goal.returns-clause-heard
returns-clause-heard g c = heard_of _ _ _ c.check_text.ensures.counts
