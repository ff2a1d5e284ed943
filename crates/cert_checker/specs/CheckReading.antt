-- How far a check reads, and what it says of the bytes that it read.
use Rattle.std.specs.Prelude.{◌≡◌, ℕ, ◌≤◌, ◌⊎◌, Bool, false, List, ◌++◌, Option, Result, Ok}
use Rattle.std.specs.Prelude.{Err, ⊤}
use Rattle.std.specs.Io.KnownBytes.{Consumes}
use Rattle.port_io.specs.Faults.{Rose}
use Rattle.siting_definitions.specs.Marks.{Tally}
use Rattle.siting_definitions.specs.Answer.{Head}
use Rattle.line_stream.specs.Coming.{Coming}
use Rattle.line_stream.specs.Stream.{Stream, IsCalm, AreTaken, coming_in, Settles, LeavesOpen}
use Rattle.line_stream.specs.Stream.{IsNeeded, EndsHere}
use Rattle.certificate.specs.declared.reader.AnswerError.TheVariants.{TooLong as TextTooLong}
use Rattle.certificate.specs.HeadReading.{answer_limit, head_reading, end_of}
use Rattle.certificate.specs.Beginnings.{nothing_read}
use Rattle.cert_checker.specs.declared.faults.CheckError.{CheckError}
use Rattle.cert_checker.specs.declared.faults.CheckError.TheVariants.{Fault, ReadFault, TooLong}
use Rattle.cert_checker.specs.declared.faults.CheckError.TheVariants.{NoMemory}
use Rattle.cert_checker.specs.declared.checking.Accepted.{Accepted}
use Rattle.cert_checker.specs.Checking.{accepted_of, check_in, checking, items_of, read_ok}
use Rattle.cert_checker.specs.Checking.{start_of}

-- ---- a whole check
-- These bytes are within the limit, and hold no fault so far: of an answer that goes on after them
-- a check says that it is too long.
abbrev pub IsOpenSoFar : List ℕ → Type 0
IsOpenSoFar got = LeavesOpen answer_limit check_in TooLong nothing_read got

-- a check says this of these bytes, whatever comes after them
abbrev pub IsSettled : List ℕ → Result Accepted CheckError → Type 0
IsSettled got answer = (rest : List ℕ) → checking (got ++ rest) ≡ answer

-- No more bytes were read than a check needs: all those before the last piece, of at most 4,096,
-- are within the limit and hold no fault so far.
abbrev pub IsNeededSoFar : List ℕ → Type 0
IsNeededSoFar got = IsNeeded answer_limit check_in TooLong nothing_read got

-- no more bytes were read than the head needs
abbrev pub IsInHead : List ℕ → Type 0
IsInHead got = IsNeeded answer_limit head_reading TextTooLong nothing_read got

-- What is known of the bytes that were read: at `Ok` they are the whole text of the answer. A fault
-- stands in them, whatever follows, or is found where the input ends. They are too long, or hold no
-- fault so far, or are of the head, which alone takes memory.
abbrev pub SaysOf : Option (List ℕ) → Option (List ℕ) → List ℕ → Result Accepted CheckError → Type 0
SaysOf before after got (Ok accepted) =
    (checking got ≡ Ok accepted) × EndsHere before after
SaysOf before after got (Err (Fault fault)) =
    IsSettled got (Err (Fault fault))
    ⊎ ((checking got ≡ Err (Fault fault)) × EndsHere before after)
SaysOf before after got (Err TooLong) = IsSettled got (Err TooLong)
SaysOf before after got (Err ReadFault) = IsOpenSoFar got
SaysOf before after got (Err NoMemory) = IsInHead got

-- What a check reads of a source that had these bytes left before and after. Where the source
-- doesn't tell them, the bytes read are some that it may have given.
pub record CheckRead (before after : Option (List ℕ)) (result : Result Accepted CheckError)
    : Type 0 where
  pub got : List ℕ
  pub consumes : Consumes before after got
  pub needed : IsNeededSoFar got
  pub says : SaysOf before after got result

-- what holds where something else than `ReadFault` is answered
abbrev pub UnlessCheckReadFault : {T : Type 0} → Result T CheckError → Type 0 → Type 0
UnlessCheckReadFault (Ok value) holds = holds
UnlessCheckReadFault (Err (Fault fault)) holds = holds
UnlessCheckReadFault (Err ReadFault) holds = ⊤
UnlessCheckReadFault (Err TooLong) holds = holds
UnlessCheckReadFault (Err NoMemory) holds = holds

-- ---- a check step by step
-- a call answers that the source failed only where the count of faults rose in it, and that it
-- didn't only where no call of the source failed
abbrev pub CheckBlamesAs : Stream → Stream → CheckError → Type 0
CheckBlamesAs before after (Fault fault) = IsCalm before after
CheckBlamesAs before after TooLong = IsCalm before after
CheckBlamesAs before after ReadFault =
    (before.faults ≤ after.faults) × Rose before.faults after.faults
CheckBlamesAs before after NoMemory = IsCalm before after

abbrev pub CheckCountsAs : {T : Type 0} → Stream → Stream → Result T CheckError → Type 0
CheckCountsAs before after (Ok value) = IsCalm before after
CheckCountsAs before after (Err error) = CheckBlamesAs before after error

-- a whole check, and what it says of the source's count
pub record CheckDone (before after : Stream) (result : Result Accepted CheckError) : Type 0 where
  pub read : CheckRead before.left after.left result
  pub counts : CheckCountsAs before after result

-- What was `wanted` of an answer is what is wanted `later` of what is still to come of it: no fault
-- stands in the bytes between.
pub record IsPast (wanted later : Coming → Result Accepted CheckError) (before after : Stream)
    : Type 0 where
  pub got : List ℕ
  pub consumes : Consumes before.left after.left got
  pub needed : IsNeeded answer_limit wanted TooLong before.lines got
  pub same : (more : Bool) (rest : List ℕ)
      → wanted (coming_in more answer_limit before.lines (got ++ rest))
      ≡ later (coming_in more answer_limit after.lines rest)
  pub count : AreTaken before.lines after.lines got
  pub calm : IsCalm before after

-- what is known at an error of what was wanted, as in `SaysOf`; no memory is wanted
abbrev pub CheckStopsAs : (Coming → Result Accepted CheckError) → Stream → Stream → List ℕ
    → CheckError → Type 0
CheckStopsAs wanted before after got (Fault fault) =
    Settles answer_limit wanted before.lines got (Err (Fault fault))
    ⊎ ((wanted (coming_in false answer_limit before.lines got) ≡ Err (Fault fault))
    × EndsHere before.left after.left)
CheckStopsAs wanted before after got TooLong =
    Settles answer_limit wanted before.lines got (Err TooLong)
CheckStopsAs wanted before after got ReadFault =
    LeavesOpen answer_limit wanted TooLong before.lines got
CheckStopsAs wanted before after got NoMemory = ⊥

-- the check of what was wanted ended with this error
pub record IsCheckStopped (wanted : Coming → Result Accepted CheckError) (before after : Stream)
    (error : CheckError) : Type 0 where
  pub got : List ℕ
  pub consumes : Consumes before.left after.left got
  pub needed : IsNeeded answer_limit wanted TooLong before.lines got
  pub stops : CheckStopsAs wanted before after got error
  pub counts : CheckBlamesAs before after error

-- what the lines after the head say, where there is no fault in the head
abbrev pub after_root : Head → Coming → Result Accepted CheckError
after_root h r = items_of h (start_of h) r r.input.lines

-- what the end of the input says after the line "end", with the tally of all marks
abbrev pub at_last : Head → Tally → Coming → Result Accepted CheckError
at_last h t r = read_ok (end_of r) (λ _. Ok (accepted_of h t))

-- What the reading of the lines to "end" answers: at `Ok` the tally of the marks, with what comes
-- after it still to come; at `Err` the fault.
abbrev pub MarksRead : Head → Stream → Stream → Result Tally CheckError → Type 0
MarksRead h before after (Ok t) = IsPast (after_root h) (at_last h t) before after
MarksRead h before after (Err error) = IsCheckStopped (after_root h) before after error
