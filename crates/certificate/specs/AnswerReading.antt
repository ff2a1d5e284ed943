-- What a call reads of an answer: how far it goes on, and what it answers.
use Rattle.std.specs.Prelude.{◌≡◌, ℕ, ◌≤◌, ◌⊎◌, Bool, true, false, List, ◌++◌, Result, Ok, Err}
use Rattle.std.specs.Prelude.{IfOk, ⊤}
use Rattle.std.specs.Io.KnownBytes.{Consumes}
use Rattle.port_io.specs.Faults.{Rose}
use Rattle.line_stream.specs.Coming.{Coming}
use Rattle.line_stream.specs.Stream.{Stream, IsCalm, AreTaken, coming_in, Settles, LeavesOpen}
use Rattle.line_stream.specs.Stream.{IsNeeded, EndsHere}
use Rattle.line_stream.specs.LineReading.{IsEnd}
use Rattle.certificate.specs.declared.reader.AnswerError.{AnswerError}
use Rattle.certificate.specs.declared.reader.AnswerError.TheVariants.{Form, Instance as BadInstance}
use Rattle.certificate.specs.declared.reader.AnswerError.TheVariants.{TooLong, ReadFault, NoMemory}
use Rattle.certificate.specs.HeadReading.{answer_limit, end_of}

-- What is known at an error of what was wanted, where these bytes were read of the source: it is
-- that error, whatever comes after them, or as the input ended after them; or the source failed
-- while what was wanted was still open; or memory was wanted, where any is taken.
abbrev pub TextStopsAs : {T : Type 0} → Bool → (Coming → Result T AnswerError) → Stream → Stream
    → List ℕ → AnswerError → Type 0
TextStopsAs takes wanted before after got (Form line) =
    Settles answer_limit wanted before.lines got (Err (Form line))
    ⊎ ((wanted (coming_in false answer_limit before.lines got) ≡ Err (Form line))
    × EndsHere before.left after.left)
TextStopsAs takes wanted before after got BadInstance =
    Settles answer_limit wanted before.lines got (Err BadInstance)
TextStopsAs takes wanted before after got TooLong =
    Settles answer_limit wanted before.lines got (Err TooLong)
TextStopsAs takes wanted before after got ReadFault =
    LeavesOpen answer_limit wanted TooLong before.lines got
TextStopsAs takes wanted before after got NoMemory = takes ≡ true

-- at `Ok` the value, whatever comes after the bytes that were read, with those still to come
abbrev pub ReadsAs : {T : Type 0} → Bool → (Coming → Result (T × Coming) AnswerError) → Stream
    → Stream → List ℕ → Result T AnswerError → Type 0
ReadsAs takes wanted before after got (Ok value) =
    (more : Bool) (rest : List ℕ) → wanted (coming_in more answer_limit before.lines (got ++ rest))
    ≡ Ok (value, coming_in more answer_limit after.lines rest)
ReadsAs takes wanted before after got (Err error) = TextStopsAs takes wanted before after got error

-- a call answers that the source failed only where the count of faults rose in it, and that it
-- didn't only where no call of the source failed
abbrev pub TextBlamesAs : Stream → Stream → AnswerError → Type 0
TextBlamesAs before after (Form line) = IsCalm before after
TextBlamesAs before after BadInstance = IsCalm before after
TextBlamesAs before after TooLong = IsCalm before after
TextBlamesAs before after ReadFault =
    (before.faults ≤ after.faults) × Rose before.faults after.faults
TextBlamesAs before after NoMemory = IsCalm before after

abbrev pub TextCountsAs : {T : Type 0} → Stream → Stream → Result T AnswerError → Type 0
TextCountsAs before after (Ok value) = IsCalm before after
TextCountsAs before after (Err error) = TextBlamesAs before after error

-- What a call does that has this to read, and takes memory or none: no more bytes of the source
-- are read than needed, and they settle what it answers.
pub record ReadWith {T : Type 0} (takes : Bool) (wanted : Coming → Result (T × Coming) AnswerError)
    (before after : Stream) (result : Result T AnswerError) : Type 0 where
  pub got : List ℕ
  pub consumes : Consumes before.left after.left got
  pub needed : IsNeeded answer_limit wanted TooLong before.lines got
  pub reads : ReadsAs takes wanted before after got result
  pub count : IfOk result (λ _. AreTaken before.lines after.lines got)
  pub counts : TextCountsAs before after result

-- a call that takes no memory
abbrev pub Read : {T : Type 0} → (Coming → Result (T × Coming) AnswerError) → Stream → Stream
    → Result T AnswerError → Type 0
Read wanted before after result = ReadWith false wanted before after result

-- a call that takes memory
abbrev pub ReadInMemory : {T : Type 0} → (Coming → Result (T × Coming) AnswerError) → Stream
    → Stream → Result T AnswerError → Type 0
ReadInMemory wanted before after result = ReadWith true wanted before after result

-- no end was read: a byte comes, or the source failed
pub record IsNoEnd (before after : Stream) (error : AnswerError) : Type 0 where
  pub got : List ℕ
  pub consumes : Consumes before.left after.left got
  pub needed : IsNeeded answer_limit end_of TooLong before.lines got
  pub stops : TextStopsAs false end_of before after got error
  pub counts : TextBlamesAs before after error

-- what a call reads where the answer is to end
abbrev pub EndRead : Stream → Stream → Result ⊤ AnswerError → Type 0
EndRead before after (Ok done) = IsEnd answer_limit before after
EndRead before after (Err error) = IsNoEnd before after error
