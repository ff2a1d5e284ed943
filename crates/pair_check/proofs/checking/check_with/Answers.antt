use Rattle.pair_check.proofs.ReadingLemmas.{answers_of, rose_of, later_of, heard_of, no_room}
use Rattle.pair_check.proofs.checking.check_with.Goals as goal

pub returns-in-Ok-clause-answers : goal.returns-in-Ok-clause-answers
returns-in-Ok-clause-answers g c = answers_of _ _ _ c.check_text.ensures.read

pub returns-in-Ok-clause-read_fault : goal.returns-in-Ok-clause-read_fault
returns-in-Ok-clause-read_fault g c = rose_of _ _ _ c.check_text.ensures.counts

pub returns-in-Ok-clause-later : goal.returns-in-Ok-clause-later
returns-in-Ok-clause-later g c = later_of _ _ _ c.check_text.ensures.counts

pub returns-in-Ok-clause-heard : goal.returns-in-Ok-clause-heard
returns-in-Ok-clause-heard g c = heard_of _ _ _ c.check_text.ensures.counts

pub returns-in-Err-clause-answers : goal.returns-in-Err-clause-answers
returns-in-Err-clause-answers g c =
    let S = g.S.Source in
    let done = no_room (S.left c.args.source.now) (S.faults c.args.source.now) S.is_strict in
    answers_of _ _ _ done.read

pub returns-in-Err-clause-read : goal.returns-in-Err-clause-read
returns-in-Err-clause-read g c =
    let S = g.S.Source in
    let done = no_room (S.left c.args.source.now) (S.faults c.args.source.now) S.is_strict in
    done.read
