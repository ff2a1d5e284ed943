-- Texts of lines: one space between fields, and a line feed after each line.
use Rattle.std.specs.Prelude.{ℕ, List, [], ◌∷◌, ◌++◌, flat_map}

-- the bytes of a line with these fields
abbrev pub line_text : List (List ℕ) → List ℕ
line_text [] = 10 ∷ []
line_text (field ∷ []) = field ++ 10 ∷ []
line_text (field ∷ next ∷ fields) = field ++ 32 ∷ line_text (next ∷ fields)

-- the bytes of lines, one after another
abbrev pub text_of : List (List (List ℕ)) → List ℕ
text_of lines = flat_map line_text lines
