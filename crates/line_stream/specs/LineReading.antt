-- What the calls of a `Lines` read.
use Rattle.std.specs.Prelude.{◌≡◌, ℕ, ◌+◌, ◌-◌, ◌<◌, ◌≤◌, ◌==◌, ◌⊎◌, Bool, true, false}
use Rattle.std.specs.Prelude.{if◌then◌else◌, List, [], ◌++◌, length, Result, Ok, Err, ⊤}
use Rattle.std.specs.Io.KnownBytes.{Consumes}
use Rattle.port_io.specs.Bytes.{piece_size}
use Rattle.port_io.specs.Faults.{Rose}
use Rattle.port_io.specs.declared.ports.Failed.{Failed}
use Rattle.line_stream.specs.declared.lines.LineError.{LineError}
use Rattle.line_stream.specs.declared.lines.LineError.TheVariants.{Missing, Surplus, TooLong}
use Rattle.line_stream.specs.declared.lines.LineError.TheVariants.{Failed as SourceFailed}
use Rattle.line_stream.specs.Coming.{Coming, next_line, input_end}
use Rattle.line_stream.specs.Stream.{LinesState, Stream, IsCalm, taken, AreTaken, coming_in}
use Rattle.line_stream.specs.Stream.{Settles}
use Rattle.line_stream.specs.Stream.{LeavesOpen, IsNeeded, EndsHere}

-- a call answers that the source failed only where the count of faults rose in it, and that it
-- didn't only where no call of the source failed
abbrev pub LineBlames : Stream → Stream → LineError → Type 0
LineBlames before after (Missing line) = IsCalm before after
LineBlames before after (Surplus line) = IsCalm before after
LineBlames before after TooLong = IsCalm before after
LineBlames before after SourceFailed =
    (before.faults ≤ after.faults) × Rose before.faults after.faults

-- What is known at an error of what was wanted: it is what was to be found, whatever comes after
-- the bytes read; or the input ended after them; or the source failed, while it was still open.
abbrev pub LineStopsAs : {T : Type 0} → ℕ → (Coming → Result T LineError) → Stream → Stream → List ℕ
    → LineError → Type 0
LineStopsAs limit wanted before after got (Missing line) =
    (wanted (coming_in false limit before.lines got) ≡ Err (Missing line))
    × EndsHere before.left after.left
LineStopsAs limit wanted before after got (Surplus line) =
    Settles limit wanted before.lines got (Err (Surplus line))
LineStopsAs limit wanted before after got TooLong =
    Settles limit wanted before.lines got (Err TooLong)
LineStopsAs limit wanted before after got SourceFailed =
    LeavesOpen limit wanted TooLong before.lines got

-- these bytes before the line that is read, where one is
abbrev pub after_front : List ℕ → Result (List ℕ × Coming) LineError
    → Result (List ℕ × Coming) LineError
after_front front (Ok read) = Ok (front ++ read.0, read.1)
after_front front (Err error) = Err error

-- where nothing was held, a piece of the source is held now; else nothing was read
abbrev pub FilledAs : Stream → Stream → List ℕ → Result Bool Failed → Type 0
FilledAs before after got (Ok true) = (0 < length after.lines.ahead) × IsCalm before after
FilledAs before after got (Ok false) =
    (before.lines.ahead ≡ []) × (got ≡ []) × EndsHere before.left after.left × IsCalm before after
FilledAs before after got (Err failed) =
    (before.lines.ahead ≡ []) × (got ≡ []) × (before.faults ≤ after.faults)
    × Rose before.faults after.faults

pub record Filled (limit : ℕ) (before after : Stream) (result : Result Bool Failed) : Type 0 where
  pub got : List ℕ
  pub within : before.lines.read ≤ limit
  pub consumes : Consumes before.left after.left got
  pub lines : after.lines ≡ record before.lines { ahead = before.lines.ahead ++ got }
  pub few : (got ≡ []) ⊎ ((before.lines.ahead ≡ []) × (length got ≤ piece_size))
  pub fills : FilledAs before after got result

-- a front of the line that comes was kept, and its line feed was read or not
pub record FrontRead (limit : ℕ) (before after : LinesState) (feed : Bool) : Type 0 where
  pub front : List ℕ
  pub keeps : after.kept ≡ before.kept ++ front
  pub reads : (more : Bool) (rest : List ℕ) → next_line (coming_in more limit before rest)
      ≡ (if feed then Ok (front, coming_in more limit after rest)
      else after_front front (next_line (coming_in more limit after rest)))
  pub some : feed ≡ false → 0 < length before.ahead → before.read < limit
      → length before.kept < piece_size → 0 < length front
  pub few : length after.kept ≤ piece_size
  pub count : before.read + (length front + (if feed then 1 else 0)) ≡ after.read
  pub within : after.read ≤ limit
  pub held : taken after ≡ taken before

-- these bytes are the front of the line that comes, and no more of it was read
pub record InLine (limit : ℕ) (before after : Stream) (front : List ℕ) : Type 0 where
  pub got : List ℕ
  pub consumes : Consumes before.left after.left got
  pub needed : IsNeeded limit next_line TooLong before.lines got
  pub reads : (more : Bool) (rest : List ℕ)
      → next_line (coming_in more limit before.lines (got ++ rest))
      ≡ after_front front (next_line (coming_in more limit after.lines rest))
  pub count : AreTaken before.lines after.lines got
  pub calm : IsCalm before after

-- this line was read
pub record IsLine (limit : ℕ) (before after : Stream) (line : List ℕ) : Type 0 where
  pub got : List ℕ
  pub consumes : Consumes before.left after.left got
  pub needed : IsNeeded limit next_line TooLong before.lines got
  pub reads : (more : Bool) (rest : List ℕ)
      → next_line (coming_in more limit before.lines (got ++ rest))
      ≡ Ok (line, coming_in more limit after.lines rest)
  pub count : AreTaken before.lines after.lines got
  pub calm : IsCalm before after

-- no line was read, or the input was to end
pub record IsLineStopped {T : Type 0} (limit : ℕ) (wanted : Coming → Result T LineError)
    (before after : Stream) (error : LineError) : Type 0 where
  pub got : List ℕ
  pub consumes : Consumes before.left after.left got
  pub needed : IsNeeded limit wanted TooLong before.lines got
  pub stops : LineStopsAs limit wanted before after got error
  pub blames : LineBlames before after error

-- what a call reads that keeps a piece of a line: at `true` it is the whole line, at `false` its
-- front
abbrev pub PieceRead : ℕ → Stream → Stream → Result Bool LineError → Type 0
PieceRead limit before after (Ok true) = IsLine limit before after after.lines.kept
PieceRead limit before after (Ok false) = InLine limit before after after.lines.kept
PieceRead limit before after (Err error) = IsLineStopped limit next_line before after error

-- what a call reads that skips a line
abbrev pub RestRead : ℕ → Stream → Stream → Result ⊤ LineError → Type 0
RestRead limit before after (Ok done) =
    (line : List ℕ) × IsLine limit before after line × (after.lines.kept ≡ [])
RestRead limit before after (Err error) = IsLineStopped limit next_line before after error

-- a line was kept, or is a long one and nothing is kept
abbrev pub IsKept : List ℕ → List ℕ → Type 0
IsKept kept line = (kept ≡ line) ⊎ ((kept ≡ []) × (piece_size ≤ length line))

-- what a call reads that keeps a line
abbrev pub LineRead : ℕ → Stream → Stream → Result ⊤ LineError → Type 0
LineRead limit before after (Ok done) =
    (line : List ℕ) × IsLine limit before after line × IsKept after.lines.kept line
LineRead limit before after (Err error) = IsLineStopped limit next_line before after error

-- the error of a byte that comes where the input was to end
abbrev pub surplus_of : ℕ → LinesState → LineError
surplus_of limit lines = if limit - lines.read == 0 then TooLong else Surplus (lines.line + 1)

-- the input ends
pub record IsEnd (limit : ℕ) (before after : Stream) : Type 0 where
  pub ends : input_end (coming_in false limit before.lines []) ≡ Ok tt
  pub consumes : Consumes before.left after.left []
  pub left : EndsHere before.left after.left
  pub calm : IsCalm before after

-- what a call reads where the input is to end
abbrev pub LinesEndRead : ℕ → Stream → Stream → Result ⊤ LineError → Type 0
LinesEndRead limit before after (Ok done) = IsEnd limit before after
LinesEndRead limit before after (Err error) = IsLineStopped limit input_end before after error
