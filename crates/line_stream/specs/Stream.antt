-- What contracts see of the lines of a source.
use Rattle.std.specs.Prelude.{◌≡◌, ℕ, ◌+◌, ◌-◌, ◌≤◌, ◌⊎◌, Bool, true, List, [], ◌++◌, length}
use Rattle.std.specs.Prelude.{Option, Some, IfSome, IsTrue, Result, Err}
use Rattle.port_io.specs.Bytes.{piece_size}
use Rattle.line_stream.specs.Input.{input_of, with_more}
use Rattle.line_stream.specs.Coming.{Coming}

-- a `Lines`: how many bytes and how many whole lines were read, the bytes that were read ahead,
-- and the line that was kept
pub record LinesState : Type 0 where
  pub read : ℕ
  pub line : ℕ
  pub ahead : List ℕ
  pub kept : List ℕ

-- a `Lines`, the bytes that its source has left, the source's count of faults, and whether that
-- stays in each call of the source that doesn't fail
pub record Stream : Type 0 where
  pub lines : LinesState
  pub left : Option (List ℕ)
  pub faults : ℕ
  pub is_strict : Bool

-- the stream of a `Lines` and a source with these members
abbrev pub stream : {S : Type 0} → (S → Option (List ℕ)) → (S → ℕ) → Bool → LinesState → S → Stream
stream left faults is_strict lines source =
    record { lines = lines; left = left source; faults = faults source; is_strict = is_strict }

-- No call of the source failed: its count hasn't fallen, and if it is strict, hasn't risen.
pub record IsCalm (before after : Stream) : Type 0 where
  pub later : before.faults ≤ after.faults
  pub same : after.is_strict ≡ before.is_strict
  pub quiet : IsTrue before.is_strict → after.faults ≡ before.faults

-- what is still to come where these bytes come next of the source, and, where `more` holds,
-- others after them
abbrev pub coming_in : Bool → ℕ → LinesState → List ℕ → Coming
coming_in more limit lines bytes =
    record {
      input = with_more more (input_of (limit - lines.read) (lines.ahead ++ bytes));
      line = lines.line;
    }

-- how many bytes a `Lines` has of its source: those that were read, and those read ahead
abbrev pub taken : LinesState → ℕ
taken lines = lines.read + length lines.ahead

-- these bytes of the source were taken between two states of a `Lines`
abbrev pub AreTaken : LinesState → LinesState → List ℕ → Type 0
AreTaken before after got = taken after ≡ taken before + length got

-- What is answered where these bytes were read is settled: it is that whatever comes after them.
abbrev pub Settles : {T : Type 0} → ℕ → (Coming → T) → LinesState → List ℕ → T → Type 0
Settles limit wanted lines got answer =
    (more : Bool) (rest : List ℕ) → wanted (coming_in more limit lines (got ++ rest)) ≡ answer

-- What was wanted is open after these bytes, which are within the limit. That it is open is what an
-- input answers that goes on after them.
pub record LeavesOpen {T E : Type 0} (limit : ℕ) (wanted : Coming → Result T E) (open_ : E)
    (lines : LinesState) (got : List ℕ) : Type 0 where
  pub undecided : wanted (coming_in true limit lines got) ≡ Err open_
  pub within : taken lines + length got ≤ limit

-- Bytes were read in pieces of at most 4,096, and those before the last piece left open what was
-- wanted.
pub record IsLastPiece {T E : Type 0} (limit : ℕ) (wanted : Coming → Result T E) (open_ : E)
    (lines : LinesState) (got : List ℕ) : Type 0 where
  pub front : List ℕ
  pub piece : List ℕ
  pub parts : got ≡ front ++ piece
  pub few : length piece ≤ piece_size
  pub before : LeavesOpen limit wanted open_ lines front

-- no more bytes were read than were needed
abbrev pub IsNeeded : {T E : Type 0} → ℕ → (Coming → Result T E) → E → LinesState → List ℕ → Type 0
IsNeeded limit wanted open_ lines got = (got ≡ []) ⊎ IsLastPiece limit wanted open_ lines got

-- the source ends here, where it tells its bytes
abbrev pub EndsHere : Option (List ℕ) → Option (List ℕ) → Type 0
EndsHere before after = IfSome before (λ _. after ≡ Some [])
