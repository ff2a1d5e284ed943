-- What is still to come of an input: its lines one after another, and its end.
use Rattle.std.specs.Prelude.{ℕ, ◌+◌, if◌then◌else◌, List, [], ◌∷◌, Result, Ok, Err, ⊤}
use Rattle.line_stream.specs.declared.lines.LineError.{LineError}
use Rattle.line_stream.specs.declared.lines.LineError.TheVariants.{Missing, Surplus, TooLong}
use Rattle.line_stream.specs.Input.{Input}

-- what is still to come, and the number of the last line read
pub record Coming : Type 0 where
  pub input : Input
  pub line : ℕ

-- the error where no whole line comes: the input is too long, or the line is missing
abbrev pub missing_line : Input → ℕ → LineError
missing_line input line = if input.goes_on then TooLong else Missing line

abbrev pub first_line : List (List ℕ) → Coming → Result (List ℕ × Coming) LineError
first_line [] r = Err (missing_line r.input (r.line + 1))
first_line (line ∷ lines) r =
    Ok (line, record { input = record r.input { lines = lines }; line = r.line + 1 })

-- the next line, and what comes after it
abbrev pub next_line : Coming → Result (List ℕ × Coming) LineError
next_line r = first_line r.input.lines r

-- Ok where the input ends here, and else the error: a byte that comes makes a line too many
abbrev pub input_end : Coming → Result ⊤ LineError
input_end r = end_at r.input.lines r.input.partial
  where
    end_at : List (List ℕ) → List ℕ → Result ⊤ LineError
    end_at [] [] = if r.input.goes_on then Err TooLong else Ok tt
    end_at [] (b ∷ bs) = Err (Surplus (r.line + 1))
    end_at (line ∷ lines) partial = Err (Surplus (r.line + 1))
