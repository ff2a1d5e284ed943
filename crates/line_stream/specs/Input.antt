-- The bytes of an input as lines, where no more than so many may be read.
use Rattle.std.specs.Prelude.{ℕ, zero, suc, ◌==◌, Bool, true, false, ◌||◌, if◌then◌else◌, List, []}
use Rattle.std.specs.Prelude.{◌∷◌, ◌++◌, flat_map}

-- The lines, each without its line feed; the bytes after the last line feed; and whether the
-- input goes on after the last byte that may be read.
pub record Input : Type 0 where
  pub lines : List (List ℕ)
  pub partial : List ℕ
  pub goes_on : Bool

abbrev pub onto_lines : ℕ → List (List ℕ) → Input → Input
onto_lines b [] i = record i { partial = b ∷ i.partial }
onto_lines b (line ∷ lines) i = record i { lines = (b ∷ line) ∷ lines }

-- a byte before an input
abbrev pub input_from : ℕ → Input → Input
input_from b i = if b == 10 then record i { lines = [] ∷ i.lines } else onto_lines b i.lines i

-- the input of these bytes, of which so many may be read
unfoldable pub input_of : ℕ → List ℕ → Input
input_of limit [] = record { lines = []; partial = []; goes_on = false }
input_of zero (b ∷ bs) = record { lines = []; partial = []; goes_on = true }
input_of (suc limit) (b ∷ bs) = input_from b (input_of limit bs)

-- an input of which this much has come, and, where `more` holds, there is more to come
abbrev pub with_more : Bool → Input → Input
with_more more i = record i { goes_on = more || i.goes_on }

-- the bytes of lines, each with a line feed after it
abbrev pub bytes_of : List (List ℕ) → List ℕ
bytes_of lines = flat_map (λ (line : List ℕ). line ++ 10 ∷ []) lines
