-- The forms of the lines of an answer, each with the value that a line of the form has. A number is
-- in canonical decimal, and in its range.
use Rattle.std.specs.Prelude.{ℕ, ◌+◌, ◌-◌, ◌^◌, ◌==◌, nat_eq, ℤ, pos, int_le, neg_ℤ, Bool, true}
use Rattle.std.specs.Prelude.{false, ◌&&◌, if◌then◌else◌, List, [], ◌∷◌, ◌++◌, drop, length}
use Rattle.std.specs.Prelude.{slice_index, codes, Option, Some, None}
use Rattle.std.specs.Option.{option_map, option_and_then}
use Rattle.std.specs.List.{starts_with}
use Rattle.std.specs.Str.{bytes_eq}
use Rattle.std.specs.Fmt.{signed_decimal}
use Rattle.text_lines.specs.Numbers.{number_of}
use Rattle.text_lines.specs.Words.{line_bytes}
use Rattle.siting_definitions.specs.declared.TheConstants.{GAP_LIMIT, BUDGET_LIMIT, POOL_LIMIT}
use Rattle.siting_definitions.specs.declared.Mark.{Mark}
use Rattle.siting_definitions.specs.declared.Mark.TheVariants.{Split, Shut, Bounded}
use Rattle.siting_definitions.specs.declared.Mark.TheVariants.{Floor as FloorMark, Left}
use Rattle.siting_definitions.specs.declared.Word.{Word}
use Rattle.siting_definitions.specs.declared.Word.TheVariants.{Solved, PoolFull, Budget, Floor}
use Rattle.siting_definitions.specs.declared.Word.TheVariants.{Empty}
use Rattle.siting_definitions.specs.Point.{Pt}
use Rattle.siting_definitions.specs.Square.{Square}
use Rattle.siting_definitions.specs.Answer.{Best}
use Rattle.siting_definitions.specs.AnswerText.{root_line}
use Rattle.certificate.specs.declared.reader.Item.{Item}
use Rattle.certificate.specs.declared.reader.Item.TheVariants.{Node, End}

-- how far a coordinate of a site may be from 0, in grid units
abbrev pub farthest : ℕ
farthest = 2 ^ 38

-- v, where the test holds
abbrev pub only_if : {T : Type 0} → Bool → T → Option T
only_if test v = if test then Some v else None

-- z, where it is from low to high
abbrev pub ranged : ℤ → ℤ → ℤ → Option ℤ
ranged low high z = only_if (int_le low z && int_le z high) z

-- the number of a field that is written so: no other digits and signs than its canonical ones
abbrev pub canonical : List ℕ → Option ℤ
canonical field =
    option_and_then (λ z. only_if (bytes_eq (signed_decimal z) field) z) (number_of field)

-- the same, from low to high
abbrev pub canonical_within : ℤ → ℤ → List ℕ → Option ℤ
canonical_within low high field = option_and_then (ranged low high) (canonical field)

-- the same, of 64 bits
abbrev pub canonical_64 : List ℕ → Option ℤ
canonical_64 field = canonical_within (neg_ℤ (pos (2 ^ 63))) (pos (2 ^ 63 - 1)) field

-- what stands after a word and one space
abbrev pub after_word : List ℕ → List ℕ → Option (List ℕ)
after_word word line =
    only_if (starts_with nat_eq line (word ++ 32 ∷ [])) (drop (length word + 1) line)

-- what stands before the first space, and what after it
abbrev pub at_space : List ℕ → Option (List ℕ × List ℕ)
at_space [] = None
at_space (b ∷ bs) =
    if b == 32 then Some ([], bs) else option_map (λ parts. (b ∷ parts.0, parts.1)) (at_space bs)

-- a line of a word and a number from low to high
abbrev pub number_form : List ℕ → ℤ → ℤ → List ℕ → Option ℤ
number_form word low high line = option_and_then (canonical_within low high) (after_word word line)

-- two numbers with one space between them, each by its own form
abbrev pub two_numbers : (List ℕ → Option ℤ) → List ℕ → Option (ℤ × ℤ)
two_numbers number rest =
    option_and_then
    (λ parts. option_and_then (λ a. option_map (λ b. (a, b)) (number parts.1)) (number parts.0))
    (at_space rest)

abbrev pub is_none : List ℕ → Bool
is_none rest = bytes_eq rest (codes "none")

-- a number of 64 bits, or the word "none"
abbrev pub optional_number : List ℕ → Option (Option ℤ)
optional_number rest = if is_none rest then Some None else option_map Some (canonical_64 rest)

-- "siting answer 1" or "siting answer 2": whether it is version 2
abbrev pub version_form : List ℕ → Option Bool
version_form line =
    if bytes_eq line (codes "siting answer 1") then Some false
    else (if bytes_eq line (codes "siting answer 2") then Some true else None)

abbrev pub gap_form : List ℕ → Option ℤ
gap_form line = number_form (codes "gap") (pos 0) (pos GAP_LIMIT) line

abbrev pub budget_form : List ℕ → Option ℤ
budget_form line = number_form (codes "budget") (pos 0) (pos BUDGET_LIMIT) line

abbrev pub pool_form : List ℕ → Option ℤ
pool_form line = number_form (codes "pool") (pos 1) (pos POOL_LIMIT) line

-- each coordinate is at most 2 ^ 38 in size
abbrev pub site_number : List ℕ → Option ℤ
site_number field = canonical_within (neg_ℤ (pos farthest)) (pos farthest) field

abbrev pub site_in : List ℕ → Option (Option Pt)
site_in rest =
    if is_none rest then Some None
    else option_map (λ (c : ℤ × ℤ). Some (record { x = c.0; y = c.1 }))
    (two_numbers site_number rest)

abbrev pub site_form : List ℕ → Option (Option Pt)
site_form line = option_and_then site_in (after_word (codes "site") line)

-- the costs of the site: none exactly where there is no site
abbrev pub costs_in : Option Pt → List ℕ → Option (Option Best)
costs_in None rest = only_if (is_none rest) None
costs_in (Some z) rest =
    option_map (λ (c : ℤ × ℤ). Some (record { site = z; lower = c.0; upper = c.1 }))
    (two_numbers canonical_64 rest)

abbrev pub cost_form : Option Pt → List ℕ → Option (Option Best)
cost_form site line = option_and_then (costs_in site) (after_word (codes "cost") line)

abbrev pub bound_form : List ℕ → Option (Option ℤ)
bound_form line = option_and_then optional_number (after_word (codes "bound") line)

abbrev pub word_in : List ℕ → Option Word
word_in rest =
    if bytes_eq rest (codes "solved") then Some Solved
    else (if bytes_eq rest (codes "pool_full") then Some PoolFull
    else (if bytes_eq rest (codes "budget") then Some Budget
    else (if bytes_eq rest (codes "floor") then Some Floor
    else (if bytes_eq rest (codes "empty") then Some Empty else None))))

abbrev pub word_form : List ℕ → Option Word
word_form line = option_and_then word_in (after_word (codes "answer") line)

abbrev pub open_form : List ℕ → Option ℤ
open_form line = number_form (codes "open") (pos 0) (pos POOL_LIMIT) line

abbrev pub leases_form : List ℕ → Option ℤ
leases_form line = number_form (codes "leases") (pos 0) (pos BUDGET_LIMIT) line

-- the line of the root
abbrev pub root_form : Square → List ℕ → Option Square
root_form root line = only_if (bytes_eq line (line_bytes (root_line root))) root

-- the letter that a text is
abbrev pub letter_of : List ℕ → ℕ
letter_of text = slice_index text 0

-- the mark with this letter and this number
abbrev pub lettered : ℕ → ℤ → Option Mark
lettered letter z =
    if letter == letter_of (codes "S") then Some (Split (Some z))
    else (if letter == letter_of (codes "B") then Some (Bounded z)
    else (if letter == letter_of (codes "F") then Some (FloorMark z)
    else (if letter == letter_of (codes "O") then Some (Left z) else None)))

-- the mark of a line of a letter, a space and a number
abbrev pub numbered_mark : List ℕ → Option Mark
numbered_mark [] = None
numbered_mark (letter ∷ []) = None
numbered_mark (letter ∷ space ∷ rest) =
    if space == 32 then option_and_then (lettered letter) (canonical_64 rest) else None

-- a node line, or the line "end"
abbrev pub item_form : List ℕ → Option Item
item_form line =
    if bytes_eq line (codes "end") then Some End
    else (if bytes_eq line (codes "X") then Some (Node Shut)
    else (if bytes_eq line (codes "S -") then Some (Node (Split None))
    else option_map Node (numbered_mark line)))
