-- What contracts see of a reader of an answer: what is still to come of the answer, and what a call
-- reads of it.
use Rattle.std.specs.Prelude.{◌≡◌, ℕ, Bool, false, List, [], Option, Some, option_map, Result, Ok}
use Rattle.std.specs.Prelude.{Err, ⊤}
use Rattle.siting_definitions.specs.Answer.{Head}
use Rattle.line_stream.specs.Coming.{Coming}
use Rattle.line_stream.specs.Stream.{Stream, stream, coming_in}
use Rattle.certificate.specs.declared.reader.AnswerReader.{AnswerReader}
use Rattle.certificate.specs.declared.reader.AnswerError.{AnswerError}
use Rattle.certificate.specs.declared.reader.AnswerError.TheVariants.{Form, Instance as BadInstance}
use Rattle.certificate.specs.declared.reader.AnswerError.TheVariants.{TooLong, ReadFault, NoMemory}
use Rattle.certificate.specs.HeadReading.{answer_limit}

-- what is still to come of the answer, where the reader's source, with these members, tells its
-- bytes
abbrev pub coming : {S : Type 0} → (S → Option (List ℕ)) → AnswerReader S → Option Coming
coming left reader = option_map (coming_in false answer_limit reader.lines) (left reader.source.now)

-- the stream of the reader's lines over a source with these members
abbrev pub stream_over : {S : Type 0} → (S → Option (List ℕ)) → (S → ℕ) → Bool → AnswerReader S
    → S → Stream
stream_over left faults is_strict reader source =
    stream left faults is_strict reader.lines source

-- the same, over the source that it reads
abbrev pub stream_of : {S : Type 0} → (S → Option (List ℕ)) → (S → ℕ) → Bool → AnswerReader S
    → Stream
stream_of left faults is_strict reader =
    stream_over left faults is_strict reader reader.source.now

-- which `&mut` to a source the reader reads
abbrev pub source_of : {S : Type 0} → AnswerReader S → ℕ
source_of reader = reader.source.ghost_name

-- the number of the last line read
abbrev pub line_of : {S : Type 0} → AnswerReader S → ℕ
line_of reader = reader.lines.line

-- the source's count of faults
abbrev pub faults_of : {S : Type 0} → (S → ℕ) → AnswerReader S → ℕ
faults_of faults reader = faults reader.source.now

-- the error is the one that was to be found; a source that fails and want of memory may come in its
-- place
abbrev pub FailsAs : {T : Type 0} → Result T AnswerError → AnswerError → Type 0
FailsAs wanted (Form line) = wanted ≡ Err (Form line)
FailsAs wanted BadInstance = wanted ≡ Err BadInstance
FailsAs wanted TooLong = wanted ≡ Err TooLong
FailsAs wanted ReadFault = ⊤
FailsAs wanted NoMemory = ⊤

-- what a call answers that had this to read: at `Ok` its value, with what comes after it still to
-- come; at `Err` its error
abbrev pub ReadsTo : {T : Type 0} → Result (T × Coming) AnswerError → Option Coming
    → Result T AnswerError → Type 0
ReadsTo wanted after (Ok value) =
    (rest : Coming) × (wanted ≡ Ok (value, rest)) × (after ≡ Some rest)
ReadsTo wanted after (Err error) = FailsAs wanted error

-- the same of a call that also makes the reader
abbrev pub BeginsAs : {S : Type 0} → (S → Option (List ℕ)) → Result (Head × Coming) AnswerError
    → Result (AnswerReader S × Head) AnswerError → Type 0
BeginsAs left wanted (Ok begun) =
    (rest : Coming) × (wanted ≡ Ok (begun.1, rest)) × (coming left begun.0 ≡ Some rest)
BeginsAs left wanted (Err error) = FailsAs wanted error

-- the input ends here, with nothing left in the source, or has an error here
abbrev pub EndsAs : Result ⊤ AnswerError → Option (List ℕ) → Result ⊤ AnswerError → Type 0
EndsAs wanted left (Ok done) = (wanted ≡ Ok tt) × (left ≡ Some [])
EndsAs wanted left (Err error) = FailsAs wanted error

-- no memory is wanted
abbrev pub TakesNone : {T : Type 0} → Result T AnswerError → Type 0
TakesNone (Ok value) = ⊤
TakesNone (Err (Form line)) = ⊤
TakesNone (Err BadInstance) = ⊤
TakesNone (Err TooLong) = ⊤
TakesNone (Err ReadFault) = ⊤
TakesNone (Err NoMemory) = ⊥
