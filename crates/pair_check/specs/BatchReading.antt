-- What a check reads that reads in batches: of the bytes that it read it says what `check` does,
-- but it may have read more of them than were needed.
use Rattle.std.specs.Prelude.{◌≡◌, ℕ, ◌≤◌, ◌==◌, List, ◌++◌, length, count_by, Option}
use Rattle.std.specs.Prelude.{Result, Ok, Err, ⊤}
use Rattle.std.specs.Io.KnownBytes.{Consumes}
use Rattle.port_io.specs.Bytes.{piece_size}
use Rattle.port_io.specs.Faults.{Rose}
use Rattle.siting_definitions.specs.Marks.{Tally}
use Rattle.siting_definitions.specs.Answer.{Head}
use Rattle.line_stream.specs.Coming.{Coming}
use Rattle.line_stream.specs.Stream.{LinesState, Stream, IsCalm, IsNeeded}
use Rattle.certificate.specs.HeadReading.{answer_limit}
use Rattle.certificate.specs.Beginnings.{nothing_read}
use Rattle.cert_checker.specs.declared.faults.CheckError.{CheckError}
use Rattle.cert_checker.specs.declared.faults.CheckError.TheVariants.{Fault, ReadFault, TooLong}
use Rattle.cert_checker.specs.declared.faults.CheckError.TheVariants.{NoMemory}
use Rattle.cert_checker.specs.declared.checking.Accepted.{Accepted}
use Rattle.cert_checker.specs.Checking.{check_in}
use Rattle.cert_checker.specs.CheckReading.{SaysOf, CheckStopsAs, IsPast, after_root, at_last}
use Rattle.pair_check.specs.declared.taking.TheConstants.{BATCH_LINES}

-- how many line feeds these bytes have
abbrev pub feeds : List ℕ → ℕ
feeds bytes = count_by (λ b. b == 10) bytes

-- What was read: no more bytes than were needed, then at most 65,536 lines, and then at most one
-- piece of 4,096.
pub record IsAhead (wanted : Coming → Result Accepted CheckError) (lines : LinesState)
    (got : List ℕ) : Type 0 where
  pub first : List ℕ
  pub batch : List ℕ
  pub piece : List ℕ
  pub parts : got ≡ first ++ (batch ++ piece)
  pub needed : IsNeeded answer_limit wanted TooLong lines first
  pub few_lines : feeds batch ≤ BATCH_LINES
  pub few : length piece ≤ piece_size

-- the same of a whole check
abbrev pub IsAheadSoFar : List ℕ → Type 0
IsAheadSoFar got = IsAhead check_in nothing_read got

-- What is known of the bytes that were read of a source that had these left before and after.
pub record BatchesRead (before after : Option (List ℕ)) (result : Result Accepted CheckError)
    : Type 0 where
  pub got : List ℕ
  pub consumes : Consumes before after got
  pub ahead : IsAheadSoFar got
  pub says : SaysOf before after got result

-- what holds where neither a fault nor `ReadFault` is answered
abbrev pub UnlessFault : Result Accepted CheckError → Type 0 → Type 0
UnlessFault (Ok accepted) holds = holds
UnlessFault (Err (Fault fault)) holds = ⊤
UnlessFault (Err ReadFault) holds = ⊤
UnlessFault (Err TooLong) holds = holds
UnlessFault (Err NoMemory) holds = holds

-- A call answers that the source failed only where the count of faults rose in it. Where it answers
-- a fault the source may have failed after it, and else only where no call of the source failed.
abbrev pub BlamesAhead : Stream → Stream → CheckError → Type 0
BlamesAhead before after (Fault fault) = before.faults ≤ after.faults
BlamesAhead before after TooLong = IsCalm before after
BlamesAhead before after ReadFault =
    (before.faults ≤ after.faults) × Rose before.faults after.faults
BlamesAhead before after NoMemory = IsCalm before after

abbrev pub CountsAhead : Stream → Stream → Result Accepted CheckError → Type 0
CountsAhead before after (Ok accepted) = IsCalm before after
CountsAhead before after (Err error) = BlamesAhead before after error

-- a whole check, and what it says of the source's count
pub record BatchesDone (before after : Stream) (result : Result Accepted CheckError)
    : Type 0 where
  pub read : BatchesRead before.left after.left result
  pub counts : CountsAhead before after result

-- the check of what was wanted ended with this error
pub record IsStoppedAt (wanted : Coming → Result Accepted CheckError) (before after : Stream)
    (error : CheckError) : Type 0 where
  pub got : List ℕ
  pub consumes : Consumes before.left after.left got
  pub ahead : IsAhead wanted before.lines got
  pub stops : CheckStopsAs wanted before after got error
  pub counts : BlamesAhead before after error

-- What the reading of the lines to "end" answers: at `Ok` the tally of the marks, with what comes
-- after it still to come, and no more was read than was needed; at `Err` the error.
abbrev pub MarksChecked : Head → Stream → Stream → Result Tally CheckError → Type 0
MarksChecked h before after (Ok t) = IsPast (after_root h) (at_last h t) before after
MarksChecked h before after (Err error) = IsStoppedAt (after_root h) before after error
