-- Fields that are words, and lines of words.
use Rattle.std.specs.Prelude.{ℕ, nat_lt, Bool, false, ◌&&◌, IsTrue, List, [], ◌∷◌, ◌++◌, map}
use Rattle.std.specs.List.{list_all}
use Rattle.text_lines.specs.Lines.{lines_of, fields_of}

-- not empty, and each byte above that of the space
abbrev pub is_word : List ℕ → Bool
is_word [] = false
is_word (b ∷ bs) = nat_lt 32 b && list_all (λ c. nat_lt 32 c) bs

abbrev pub are_words : List (List ℕ) → Bool
are_words fields = list_all is_word fields

-- each field of each line is a word
pub record AreWords (lines : List (List (List ℕ))) : Type 0 where
  pub test : IsTrue (list_all are_words lines)

-- the bytes of a line with these fields, without its line feed
abbrev pub line_bytes : List (List ℕ) → List ℕ
line_bytes [] = []
line_bytes (field ∷ []) = field
line_bytes (field ∷ next ∷ fields) = field ++ 32 ∷ line_bytes (next ∷ fields)

-- the fields of each line of a text
abbrev pub rows_of : List ℕ → List (List (List ℕ))
rows_of bytes = map fields_of (lines_of bytes)
