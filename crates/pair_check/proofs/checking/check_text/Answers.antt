use Rattle.std.proofs.Common.{rules}
use Rattle.cert_checker.proofs.ReadLemmas.{past_then}
use Rattle.cert_checker.proofs.CheckLemmas.{has_head, no_head, head_fails, head_passes, finish_fails, accepts}
use Rattle.pair_check.proofs.ReadingLemmas.{answers_error, batches_over, batches_stopped, of_done, read_stopped}
use Rattle.pair_check.proofs.checking.check_text.Goals as goal

pub returns-in_err-head : goal.returns-in_err-head
returns-in_err-head g c =
    let S = g.S.Source in
    let done = of_done _ _ _ (no_head _ _ _ _ c.in_err-head.field-0.0 (rw c.new-reader.ensures.stream at c.in_err-head.ensures.read)) in
    batches_over S.left S.faults S.is_strict _ _ _ _ _ (search rules) (answers_error _ _ _ _ c.from_residual.ensures.1 done)

pub returns-in_err-opening : goal.returns-in_err-opening
returns-in_err-opening g c =
    let S = g.S.Source in
    let head = has_head _ _ _ _ c.in_ok-head.head (rw c.new-reader.ensures.stream at c.in_ok-head.ensures.read) in
    let done = of_done _ _ _ (head_fails _ _ _ _ c.in_ok-head.head c.in_err-opening.field-0.0 head c.in_err-opening.ensures.fault) in
    batches_over S.left S.faults S.is_strict _ _ _ _ _ (search rules) (answers_error _ _ _ _ c.from_residual-in_err-opening.ensures.1 done)

pub returns-in_err-tally : goal.returns-in_err-tally
returns-in_err-tally g c =
    let S = g.S.Source in
    let head = has_head _ _ _ _ c.in_ok-head.head (rw c.new-reader.ensures.stream at c.in_ok-head.ensures.read) in
    let clean = head_passes _ _ _ _ c.in_ok-head.head head c.in_ok-opening.ensures.fault in
    let done = batches_stopped _ _ _ _ _ (read_stopped _ _ _ _ _ clean c.in_err-tally.field-0.0 c.in_err-tally.ensures.reads) in
    batches_over S.left S.faults S.is_strict _ _ _ _ _ (search rules) (answers_error _ _ _ _ c.from_residual-in_err-tally.ensures.1 done)

pub returns-in_err-finish : goal.returns-in_err-finish
returns-in_err-finish g c =
    let S = g.S.Source in
    let head = has_head _ _ _ _ c.in_ok-head.head (rw c.new-reader.ensures.stream at c.in_ok-head.ensures.read) in
    let clean = head_passes _ _ _ _ c.in_ok-head.head head c.in_ok-opening.ensures.fault in
    let marks = past_then _ _ _ _ _ clean _ c.in_ok-tally.ensures.reads in
    let done = of_done _ _ _ (finish_fails _ _ _ _ _ c.in_ok-head.head c.in_ok-tally.tally c.in_err-finish.field-0.0 marks c.in_err-finish.ensures.read) in
    batches_over S.left S.faults S.is_strict _ _ _ _ _ (search rules) (answers_error _ _ _ _ c.from_residual-in_err-finish.ensures.1 done)

pub returns : goal.returns
returns g c =
    let S = g.S.Source in
    let head = has_head _ _ _ _ c.in_ok-head.head (rw c.new-reader.ensures.stream at c.in_ok-head.ensures.read) in
    let clean = head_passes _ _ _ _ c.in_ok-head.head head c.in_ok-opening.ensures.fault in
    let marks = past_then _ _ _ _ _ clean _ c.in_ok-tally.ensures.reads in
    let done = of_done _ _ _ (accepts _ _ _ _ _ c.in_ok-head.head c.in_ok-tally.tally _ marks c.in_ok-finish.ensures.read c.accepted_of.ensures) in
    batches_over S.left S.faults S.is_strict _ _ _ _ _ (search rules) done
