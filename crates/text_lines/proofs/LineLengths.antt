-- How long lines are, and texts of lines.
use Rattle.std.proofs.Common.{◌≡◌, ℕ, suc, ◌+◌, ◌*◌, ◌^◌, ◌<◌, ◌≤◌, ℤ, pos, negsuc, List, [], ◌∷◌, ◌++◌, length, map, ap, ◌∙◌, arith}
use Rattle.std.specs.Prelude.{unsigned_abs, All}
use Rattle.std.specs.Fmt.{signed_decimal}
use Rattle.std.proofs.lemmas.Fmt.{length-decimal-le}
use Rattle.std.proofs.lemmas.List.{length-append}
use Rattle.std.proofs.lemmas.List.Concat.{flat_map-append}
use Rattle.std.proofs.lemmas.List.Elements.{All-head, All-tail}
use Rattle.siting_definitions.specs.Line.{line_text, text_of}

-- ---- numbers
-- a number from 0 of at most k digits
pub count_length : (k n : ℕ) → 0 < k → n < 10 ^ k → n < 2 ^ 64 → length (signed_decimal (pos n)) ≤ k
count_length k n some few small = length-decimal-le k n some few small

-- a number of at most k digits, with its sign
pub number_length : (k : ℕ) (z : ℤ) → 0 < k → unsigned_abs z < 10 ^ k → unsigned_abs z < 2 ^ 64 → length (signed_decimal z) ≤ k + 1
number_length k (pos n) some few small = omega (arith, count_length k n some few small)
number_length k (negsuc n) some few small = omega (arith, length-decimal-le k (suc n) some few small)

-- ---- lines
-- the bytes of fields, each with the byte after it
unfoldable pub width : List (List ℕ) → ℕ
width [] = 0
width (field ∷ fields) = length field + 1 + width fields

pub length-line_text : (field : List ℕ) (fields : List (List ℕ)) → length (line_text (field ∷ fields)) ≡ width (field ∷ fields)
unfolding width
length-line_text field [] = omega (arith, length-append field (10 ∷ []))
length-line_text field (next ∷ fields) = omega (arith, length-append field (32 ∷ line_text (next ∷ fields)), length-line_text next fields)

-- the line of a word and a field
pub one_length : (word field : List ℕ) (most : ℕ) → length field ≤ most → length (line_text (word ∷ field ∷ [])) ≤ length word + most + 2
unfolding width
one_length word field most short = omega (arith, length-line_text word (field ∷ []))

-- the line of a word and two fields
pub two_length : (word field other : List ℕ) (most : ℕ) → length field ≤ most → length other ≤ most
    → length (line_text (word ∷ field ∷ other ∷ [])) ≤ length word + 2 * most + 3
unfolding width
two_length word field other most short small = omega (arith, length-line_text word (field ∷ other ∷ []))

-- ---- texts
pub length-text_of-append : (lines more : List (List (List ℕ))) → length (text_of (lines ++ more)) ≡ length (text_of lines) + length (text_of more)
length-text_of-append lines more =
    ap length (flat_map-append line_text lines more) ∙ length-append (text_of lines) (text_of more)

pub length-text_of-cons : (line : List (List ℕ)) (lines : List (List (List ℕ)))
    → length (text_of (line ∷ lines)) ≡ length (line_text line) + length (text_of lines)
length-text_of-cons line lines = length-append (line_text line) (text_of lines)

-- lines of the same kind, each of at most this many bytes
pub lines_length : {X : Type 0} (P : X → Type 0) (line : X → List (List ℕ)) (most : ℕ) → ((x : X) → P x → length (line_text (line x)) ≤ most)
    → (xs : List X) → All P xs → length (text_of (map line xs)) ≤ most * length xs
lines_length P line most each [] are = omega arith
lines_length P line most each (x ∷ xs) are =
    let first = each x (All-head P x xs are) in
    let rest = lines_length P line most each xs (All-tail P x xs are) in
    omega (arith, length-text_of-cons (line x) (map line xs))
