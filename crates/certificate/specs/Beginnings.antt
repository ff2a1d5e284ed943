-- What contracts see of the beginning of an answer.
use Rattle.std.specs.Prelude.{◌≡◌, ℕ, Bool, false, List, [], Option, Some, option_map, Result, Ok}
use Rattle.std.specs.Prelude.{Err, ⊤}
use Rattle.siting_definitions.specs.Answer.{Head}
use Rattle.certificate.specs.declared.reader.beginning.Beginning.{Beginning}
use Rattle.certificate.specs.declared.reader.AnswerError.{AnswerError}
use Rattle.line_stream.specs.Coming.{Coming}
use Rattle.line_stream.specs.Stream.{LinesState, Stream, coming_in}
use Rattle.certificate.specs.declared.reader.AnswerReader.{AnswerReader}
use Rattle.certificate.specs.HeadReading.{answer_limit, head_reading}
use Rattle.certificate.specs.AnswerReading.{ReadInMemory}
use Rattle.certificate.specs.ReaderView.{stream_of, FailsAs}

-- what is still to come after a beginning, where these bytes are left in the source
abbrev pub coming_then : Option (List ℕ) → Beginning → Option Coming
coming_then left beginning = option_map (coming_in false answer_limit beginning.lines) left

-- what a call answers that reads a beginning: at `Ok` its head, with what comes after it still to
-- come; at `Err` its error
abbrev pub ReadsHead : Result (Head × Coming) AnswerError → Option (List ℕ)
    → Result Beginning AnswerError → Type 0
ReadsHead wanted left (Ok beginning) =
    (rest : Coming) × (wanted ≡ Ok (beginning.head, rest))
    × (coming_then left beginning ≡ Some rest)
ReadsHead wanted left (Err error) = FailsAs wanted error

-- the lines of a source of which nothing was read yet
abbrev pub nothing_read : LinesState
nothing_read = record { read = 0; line = 0; ahead = []; kept = [] }

-- a source of which nothing was read yet, with these bytes left and this count of faults
abbrev pub start_of : Option (List ℕ) → ℕ → Bool → Stream
start_of left faults is_strict =
    record {
      lines = nothing_read;
      left = left;
      faults = faults;
      is_strict = is_strict;
    }

-- what a call read of the head that answers this error, with these bytes left then and this count
abbrev pub NoHead : Stream → Option (List ℕ) → ℕ → AnswerError → Type 0
NoHead start left faults error =
    let r : Result Head AnswerError = Err error in
    ReadInMemory head_reading start (start_of left faults start.is_strict) r

-- what a call read that reads a beginning
abbrev pub BeginRead : Stream → Option (List ℕ) → ℕ → Result Beginning AnswerError → Type 0
BeginRead start left faults (Ok beginning) =
    ReadInMemory head_reading start
    (record { lines = beginning.lines; left = left; faults = faults; is_strict = start.is_strict })
    (Ok beginning.head)
BeginRead start left faults (Err error) = NoHead start left faults error

-- what a call read of the head that also makes the reader
abbrev pub HeadRead : {S : Type 0} → (S → Option (List ℕ)) → (S → ℕ) → Stream
    → AnswerReader S × Head → Type 0
HeadRead left faults start begun =
    ReadInMemory head_reading start (stream_of left faults start.is_strict begun.0) (Ok begun.1)

-- the same at an error, where the reader is gone
abbrev pub LeavesAs : {T : Type 0} → Stream → Option (List ℕ) → ℕ → Result T AnswerError → Type 0
LeavesAs start left faults (Ok begun) = ⊤
LeavesAs start left faults (Err error) = NoHead start left faults error
