-- The reading of the lines of the instance.
use Rattle.std.specs.Prelude.{◌≡◌, ℕ, ◌+◌, Bool, List, ◌∷◌, [], ◌++◌, length, codes, Option}
use Rattle.std.specs.Prelude.{Some, None, option_and_then, bytes_eq, Result, Ok, Err, ⊤}
use Rattle.port_io.specs.Bytes.{told}
use Rattle.line_stream.specs.Input.{bytes_of}
use Rattle.line_stream.specs.Coming.{Coming}
use Rattle.line_stream.specs.Stream.{Stream}
use Rattle.siting_definitions.specs.Instance.{Instance}
use Rattle.instance_text.specs.Reading.{reading}
use Rattle.certificate.specs.declared.reader.AnswerError.{AnswerError}
use Rattle.certificate.specs.declared.reader.AnswerError.TheVariants.{Form, Instance as BadInstance}
use Rattle.certificate.specs.declared.reader.AnswerError.TheVariants.{TooLong, ReadFault, NoMemory}
use Rattle.certificate.specs.HeadReading.{answer_line, missing, part_of, if_canonical}
use Rattle.certificate.specs.AnswerReading.{ReadInMemory}

-- how many bytes of the instance are kept
abbrev pub part_limit : ℕ
part_limit = 400000

-- what is kept of these bytes
abbrev pub kept_part : List ℕ → Option (List ℕ)
kept_part bytes = told (Some part_limit) bytes

-- what is kept where these bytes come after those that were kept
abbrev pub part_with : Option (List ℕ) → List ℕ → Option (List ℕ)
part_with part bytes = option_and_then (λ kept. kept_part (kept ++ bytes)) part

-- these bytes came after those of a part
abbrev pub Grows : Option (List ℕ) → Option (List ℕ) → List ℕ → Type 0
Grows part now bytes =
    (before : List ℕ) → part ≡ kept_part before → now ≡ kept_part (before ++ bytes)

-- the bytes of the lines up to the first that is "end", and what comes after them
abbrev pub lines_in : Option (List (List ℕ) × List (List ℕ)) → Coming
    → Result (List ℕ × Coming) AnswerError
lines_in None r = Err (missing r.input (r.line + length r.input.lines + 1))
lines_in (Some parts) r =
    Ok (
      bytes_of parts.0,
      record { input = record r.input { lines = parts.1 }; line = r.line + length parts.0 },
    )

abbrev pub part_reading : Coming → Result (List ℕ × Coming) AnswerError
part_reading r = lines_in (part_of r.input.lines) r

-- these bytes before those of the part that is read, where one is
abbrev pub after_part : List ℕ → Result (List ℕ × Coming) AnswerError
    → Result (List ℕ × Coming) AnswerError
after_part bytes (Ok read) = Ok (bytes ++ read.0, read.1)
after_part bytes (Err error) = Err error

-- a line was read, and is kept with its line feed
pub record LineInPart (before after : Stream) (part now : Option (List ℕ)) (line : List ℕ)
    : Type 0 where
  pub reads : ReadInMemory answer_line before after (Ok line)
  pub grows : Grows part now (line ++ 10 ∷ [])

-- no line was read
abbrev pub NoLine : Stream → Stream → AnswerError → Type 0
NoLine before after error =
    let r : Result (List ℕ) AnswerError = Err error in ReadInMemory answer_line before after r

abbrev pub RestRead : Stream → Stream → Option (List ℕ) → Option (List ℕ) → Result ⊤ AnswerError
    → Type 0
RestRead before after part now (Ok done) = (line : List ℕ) × LineInPart before after part now line
RestRead before after part now (Err error) = NoLine before after error

-- the same, and whether the line is "end"
abbrev pub PartLineRead : Stream → Stream → Option (List ℕ) → Option (List ℕ)
    → Result Bool AnswerError → Type 0
PartLineRead before after part now (Ok is_end) =
    (line : List ℕ) × LineInPart before after part now line × (is_end ≡ bytes_eq line (codes "end"))
PartLineRead before after part now (Err error) = NoLine before after error

-- the lines of the instance were read and kept
abbrev pub PartRead : Stream → Stream → Result (Option (List ℕ)) AnswerError → Type 0
PartRead before after (Ok part) =
    (bytes : List ℕ) × ReadInMemory part_reading before after (Ok bytes) × (part ≡ kept_part bytes)
PartRead before after (Err error) =
    let r : Result (List ℕ) AnswerError = Err error in ReadInMemory part_reading before after r

-- what is answered of these bytes: the instance of which they are the canonical text, or that they
-- are none
abbrev pub Canonical : Bool → List ℕ → Result Instance AnswerError → Type 0
Canonical second bytes (Ok instance) = if_canonical second bytes (reading bytes) ≡ Some instance
Canonical second bytes (Err (Form line)) = ⊥
Canonical second bytes (Err BadInstance) = if_canonical second bytes (reading bytes) ≡ None
Canonical second bytes (Err TooLong) = ⊥
Canonical second bytes (Err ReadFault) = ⊥
Canonical second bytes (Err NoMemory) = ⊤

-- the errors of an instance
abbrev pub IsInstanceError : Result Instance AnswerError → Type 0
IsInstanceError (Ok instance) = ⊤
IsInstanceError (Err (Form line)) = ⊥
IsInstanceError (Err BadInstance) = ⊤
IsInstanceError (Err TooLong) = ⊥
IsInstanceError (Err ReadFault) = ⊥
IsInstanceError (Err NoMemory) = ⊤
