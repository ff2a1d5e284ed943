-- Lines of bytes, and the fields of a line.
use Rattle.std.specs.Prelude.{ℕ, ◌-◌, ◌==◌, Bool, true, ◌||◌, if◌then◌else◌, List, [], ◌∷◌, length}
use Rattle.std.specs.Prelude.{take, map, slice_index}

-- a byte put before the first of some pieces
abbrev pub onto : ℕ → List (List ℕ) → List (List ℕ)
onto b [] = (b ∷ []) ∷ []
onto b (piece ∷ pieces) = (b ∷ piece) ∷ pieces

-- the pieces of a byte and of what comes after it
abbrev pub pieces_from : ℕ → List (List ℕ) → List (List ℕ)
pieces_from b pieces = if b == 10 then [] ∷ pieces else onto b pieces

-- the pieces that end with a line feed, each without it, and what comes after the last line feed
-- where that isn't empty
abbrev pub pieces_of : List ℕ → List (List ℕ)
pieces_of [] = []
pieces_of (b ∷ bs) = pieces_from b (pieces_of bs)

-- a piece without the carriage return at its end, where it has one
abbrev pub without_return : List ℕ → List ℕ
without_return piece =
    if slice_index piece (length piece - 1) == 13 then take (length piece - 1) piece else piece

-- the lines of a text
abbrev pub lines_of : List ℕ → List (List ℕ)
lines_of bytes = map without_return (pieces_of bytes)

-- a space or a tab
abbrev pub is_gap : ℕ → Bool
is_gap b = (b == 32) || (b == 9)

-- whether a field that stands before these bytes ends there
abbrev pub begins_with_gap : List ℕ → Bool
begins_with_gap [] = true
begins_with_gap (b ∷ bs) = is_gap b

-- the fields of a byte and of the bytes after it, of the fields of these
abbrev pub fields_from : ℕ → List ℕ → List (List ℕ) → List (List ℕ)
fields_from b bs fields =
    if is_gap b then fields
    else if begins_with_gap bs then (b ∷ []) ∷ fields
    else onto b fields

-- the fields of a line: the longest runs of bytes other than space and tab
abbrev pub fields_of : List ℕ → List (List ℕ)
fields_of [] = []
fields_of (b ∷ bs) = fields_from b bs (fields_of bs)

-- whether the first byte of a field is '#'
abbrev pub begins_comment : List ℕ → Bool
begins_comment field = slice_index field 0 == 35

-- whether a line with these fields is blank or a comment
abbrev pub is_passed_over : List (List ℕ) → Bool
is_passed_over [] = true
is_passed_over (field ∷ fields) = begins_comment field
