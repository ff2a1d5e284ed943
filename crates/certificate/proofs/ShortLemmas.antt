-- A line that has a form is short.
use Rattle.std.proofs.Common.{◌≡◌, ℕ, suc, ◌+◌, ◌-◌, ◌^◌, ◌≤◌, ◌<◌, ◌≢◌, ◌≤ℤ◌, ◌+ℤ◌, eqb, Bool, true, false, cond, List, [], ◌∷◌, ◌++◌, length, drop, refl, ap, arith, Option, Some, None, option_map, option_and_then, ℤ, pos, negsuc, neg_ℤ, int_le, FitsSigned, bytes_eq, codes, decimal, rules, ◌⊎◌, inl, inr}
use Rattle.std.specs.Prelude.{◌&&◌, nat_eq, nat_le}
use Rattle.std.specs.List.{starts_with}
use Rattle.std.specs.Int.{w64}
use Rattle.std.specs.Fmt.{signed_decimal}
use Rattle.std.proofs.lemmas.Int.{ints}
use Rattle.std.proofs.lemmas.List.{length-drop, length-append}
use Rattle.std.proofs.lemmas.Fmt.{length-decimal-le}
use Rattle.text_lines.specs.Numbers.{number_of}
use Rattle.text_lines.specs.Words.{line_bytes}
use Rattle.siting_definitions.specs.Point.{Pt}
use Rattle.siting_definitions.specs.Square.{Square, IsSquare}
use Rattle.siting_definitions.specs.AnswerText.{root_line}
use Rattle.siting_definitions.proofs.Integers.{int_le-true}
use Rattle.certificate.specs.Forms.{only_if, ranged, canonical_within, canonical_64, after_word, at_space, two_numbers, number_form, version_form, site_in, site_form, costs_in, cost_form, optional_number, bound_form, word_in, word_form, root_form, lettered, numbered_mark, item_form}
use Rattle.certificate.proofs.FormLemmas.{most_64, least_64, and_first, and_second}

-- ---- numbers
short_decimal : (z : ℤ) → negsuc (2 ^ 63 - 1) ≤ℤ z → z ≤ℤ pos (2 ^ 63 - 1) → length (signed_decimal z) ≤ 20
short_decimal (pos n) least most =
    let below : n < 2 ^ 63 = omega (arith, ints) in
    length-decimal-le 20 n (omega arith) (omega arith) (omega arith)
short_decimal (negsuc n) least most =
    let below : n < 2 ^ 63 = omega (arith, ints) in
    let short : length (decimal (suc n)) ≤ 19 = length-decimal-le 19 (suc n) (omega arith) (omega arith) (omega arith) in
    omega arith

pub not_word : (xs ys : List ℕ) → length xs ≢ length ys → bytes_eq xs ys ≡ false
not_word [] [] h = absurd (h refl)
not_word [] (y ∷ ys) h = refl
not_word (x ∷ xs) [] h = refl
not_word (x ∷ xs) (y ∷ ys) h = rw (not_word xs ys (λ e. h (ap suc e))) (and_false (eqb x y))
  where
    and_false : (t : Bool) → (t && false) ≡ false
    and_false true = refl
    and_false false = refl

pub canonical_short : (low high : ℤ) (field : List ℕ) → FitsSigned w64 low → FitsSigned w64 high → 100 ≤ length field → canonical_within low high field ≡ None
canonical_short low high field lo hi long = by_number (number_of field)
  where
    by_tests : (z : ℤ) (t u : Bool) → (int_le low z && int_le z high) ≡ t → bytes_eq (signed_decimal z) field ≡ u → option_and_then (ranged low high) (only_if u z) ≡ None
    by_tests z t false within written = refl
    by_tests z false true within written = rw within refl
    by_tests z true true within written =
        let least : low ≤ℤ z = int_le-true low z (and_first (int_le low z) (int_le z high) within) in
        let most : z ≤ℤ high = int_le-true z high (and_second (int_le low z) (int_le z high) within) in
        let low_end : negsuc (2 ^ 63 - 1) ≤ℤ low = least_64 low lo in
        let high_end : high ≤ℤ pos (2 ^ 63 - 1) = most_64 high hi in
        let short : length (signed_decimal z) ≤ 20 = short_decimal z (omega (arith, ints)) (omega (arith, ints)) in
        let not : bytes_eq (signed_decimal z) field ≡ false = not_word (signed_decimal z) field (omega arith) in
        cc

    by_number : (o : Option ℤ) → option_and_then (ranged low high) (option_and_then (λ z. only_if (bytes_eq (signed_decimal z) field) z) o) ≡ None
    by_number None = refl
    by_number (Some z) = by_tests z (int_le low z && int_le z high) (bytes_eq (signed_decimal z) field) refl refl

pub least_fits : FitsSigned w64 (neg_ℤ (pos (2 ^ 63)))
least_fits = search rules

pub most_fits : FitsSigned w64 (pos (2 ^ 63 - 1))
most_fits = search rules

pub number_short : (field : List ℕ) → 100 ≤ length field → canonical_64 field ≡ None
number_short field long = canonical_short _ _ field least_fits most_fits long

-- ---- words
through_word : {T : Type 0} (word line : List ℕ) (form : List ℕ → Option T) → length word + 1001 ≤ length line → ((rest : List ℕ) → 1000 ≤ length rest → form rest ≡ None) → option_and_then form (after_word word line) ≡ None
through_word word line form long none = by_test (starts_with nat_eq line (word ++ 32 ∷ []))
  where
    by_test : (t : Bool) → option_and_then form (only_if t (drop (length word + 1) line)) ≡ None
    by_test true = let e = length-drop (length word + 1) line in none (drop (length word + 1) line) (omega arith)
    by_test false = refl

-- ---- node lines
marks_short : (line : List ℕ) → 1000 ≤ length line → numbered_mark line ≡ None
marks_short [] long = refl
marks_short (letter ∷ []) long = refl
marks_short (letter ∷ space ∷ rest) long = rw (number_short rest (omega arith)) (by_test (eqb space 32))
  where
    by_test : (t : Bool) → cond t (option_and_then (lettered letter) None) None ≡ None
    by_test true = refl
    by_test false = refl

pub item_short : (line : List ℕ) → 4096 ≤ length line → item_form line ≡ None
item_short line long =
    rw (not_word line (codes "end") (omega arith), not_word line (codes "X") (omega arith), not_word line (codes "S -") (omega arith), marks_short line (omega arith)) refl

-- ---- the lines of a head
pub no_word_in : (word : List ℕ) → after_word word [] ≡ None
no_word_in [] = refl
no_word_in (w ∷ word) = refl

pub number_form_short : (word : List ℕ) (low high : ℤ) → FitsSigned w64 low → FitsSigned w64 high → length word ≤ 1000 → (line : List ℕ) → 4096 ≤ length line → number_form word low high line ≡ None
number_form_short word low high lo hi few line long = through_word word line (canonical_within low high) (omega arith) (λ rest more. canonical_short low high rest lo hi (omega arith))

pub number_form_empty : (word : List ℕ) (low high : ℤ) → number_form word low high [] ≡ None
number_form_empty word low high = rw (no_word_in word) refl

space_parts : (bytes : List ℕ) (parts : List ℕ × List ℕ) → at_space bytes ≡ Some parts → length bytes ≡ length parts.0 + 1 + length parts.1
space_parts [] parts e = let none : None ≡ Some parts = e in cc
space_parts (b ∷ bs) parts e = by_test (eqb b 32) (at_space bs) (λ more f. space_parts bs more f) e
  where
    by_test : (t : Bool) (o : Option (List ℕ × List ℕ)) → ((more : List ℕ × List ℕ) → o ≡ Some more → length bs ≡ length more.0 + 1 + length more.1)
        → cond t (Some ([], bs)) (option_map (λ more. (b ∷ more.0, more.1)) o) ≡ Some parts → suc (length bs) ≡ length parts.0 + 1 + length parts.1
    by_test true o f e = let same : ([], bs) ≡ parts = cc in rw (← same) (omega arith)
    by_test false None f e = let none : None ≡ Some parts = e in cc
    by_test false (Some more) f e =
        let same : (b ∷ more.0, more.1) ≡ parts = cc in
        let long : length bs ≡ length more.0 + 1 + length more.1 = f more refl in
        rw (← same) (omega arith)

two_short : (low high : ℤ) → FitsSigned w64 low → FitsSigned w64 high → (bytes : List ℕ) → 1000 ≤ length bytes → two_numbers (canonical_within low high) bytes ≡ None
two_short low high lo hi bytes long = by_parts (at_space bytes) (λ parts e. space_parts bytes parts e)
  where
    by_numbers : (a b : Option ℤ) → (a ≡ None) ⊎ (b ≡ None) → option_and_then {U = ℤ × ℤ} (λ x. option_map (λ y. (x, y)) b) a ≡ None
    by_numbers None b h = refl
    by_numbers (Some x) b (inl h) = let none : Some x ≡ None = h in cc
    by_numbers (Some x) b (inr h) = rw h refl

    by_length : (first second : List ℕ) (t : Bool) → nat_le 100 (length first) ≡ t → 1000 ≤ length first + 1 + length second → (canonical_within low high first ≡ None) ⊎ (canonical_within low high second ≡ None)
    by_length first second true h all = let more : 100 ≤ length first = grind arith in inl (canonical_short low high first lo hi more)
    by_length first second false h all = let less : length first < 100 = grind arith in inr (canonical_short low high second lo hi (omega arith))

    by_parts : (o : Option (List ℕ × List ℕ)) → ((parts : List ℕ × List ℕ) → o ≡ Some parts → length bytes ≡ length parts.0 + 1 + length parts.1)
        → option_and_then {U = ℤ × ℤ} (λ parts. option_and_then (λ a. option_map (λ b. (a, b)) (canonical_within low high parts.1)) (canonical_within low high parts.0)) o ≡ None
    by_parts None f = refl
    by_parts (Some parts) f =
        let all : length bytes ≡ length parts.0 + 1 + length parts.1 = f parts refl in
        by_numbers (canonical_within low high parts.0) (canonical_within low high parts.1) (by_length parts.0 parts.1 (nat_le 100 (length parts.0)) refl (omega arith))

site_fits : (z : ℤ) → negsuc (2 ^ 63 - 1) ≤ℤ z → z ≤ℤ pos (2 ^ 63 - 1) → FitsSigned w64 z
site_fits (pos n) least most = record { sfits = omega (arith, ints) }
site_fits (negsuc n) least most = record { sfits = omega (arith, ints) }

pub site_short : (line : List ℕ) → 4096 ≤ length line → site_form line ≡ None
site_short line long =
    through_word (codes "site") line site_in (omega arith)
    (λ rest more. rw (not_word rest (codes "none") (omega arith), two_short (neg_ℤ (pos (2 ^ 38))) (pos (2 ^ 38)) (site_fits _ (omega (arith, ints)) (omega (arith, ints))) (site_fits _ (omega (arith, ints)) (omega (arith, ints))) rest more) refl)

pub cost_short : (site : Option Pt) (line : List ℕ) → 4096 ≤ length line → cost_form site line ≡ None
cost_short site line long = through_word (codes "cost") line (costs_in site) (omega arith) (by_site site)
  where
    by_site : (site : Option Pt) (rest : List ℕ) → 1000 ≤ length rest → costs_in site rest ≡ None
    by_site None rest more = rw (not_word rest (codes "none") (omega arith)) refl
    by_site (Some z) rest more = rw (two_short _ _ least_fits most_fits rest more) refl

pub version_short : (line : List ℕ) → 4096 ≤ length line → version_form line ≡ None
version_short line long = rw (not_word line (codes "siting answer 1") (omega arith), not_word line (codes "siting answer 2") (omega arith)) refl

pub word_short : (line : List ℕ) → 4096 ≤ length line → word_form line ≡ None
word_short line long =
    through_word (codes "answer") line word_in (omega arith)
    (λ rest more. rw (not_word rest (codes "solved") (omega arith), not_word rest (codes "pool_full") (omega arith), not_word rest (codes "budget") (omega arith), not_word rest (codes "floor") (omega arith), not_word rest (codes "empty") (omega arith)) refl)

pub cost_empty : (site : Option Pt) → cost_form site [] ≡ None
cost_empty None = refl
cost_empty (Some z) = refl

pub bound_short : (line : List ℕ) → 4096 ≤ length line → bound_form line ≡ None
bound_short line long =
    through_word (codes "bound") line optional_number (omega arith)
    (λ rest more. rw (not_word rest (codes "none") (omega arith), number_short rest (omega arith)) refl)

-- the corner of a square within ±2^38 is written in 20 digits at most
pub root_length : (s : Square) → IsSquare s → length (line_bytes (root_line s)) ≤ 100
root_length s h =
    let level : s.level ≤ 37 = h.level in
    let left : pos 0 ≤ℤ (s.x +ℤ pos (2 ^ 38)) = h.left in
    let lower : pos 0 ≤ℤ (s.y +ℤ pos (2 ^ 38)) = h.lower in
    let right : (s.x +ℤ pos (2 ^ s.level)) ≤ℤ pos (2 ^ 38) = h.right in
    let upper : (s.y +ℤ pos (2 ^ s.level)) ≤ℤ pos (2 ^ 38) = h.upper in
    let x_long : length (signed_decimal s.x) ≤ 20 = short_decimal s.x (omega (arith, ints)) (omega (arith, ints)) in
    let y_long : length (signed_decimal s.y) ≤ 20 = short_decimal s.y (omega (arith, ints)) (omega (arith, ints)) in
    let level_long : length (signed_decimal (pos s.level)) ≤ 20 = short_decimal (pos s.level) (omega (arith, ints)) (omega (arith, ints)) in
    let third = length-append (signed_decimal s.y) (32 ∷ signed_decimal (pos s.level)) in
    let second = length-append (signed_decimal s.x) (32 ∷ (signed_decimal s.y ++ 32 ∷ signed_decimal (pos s.level))) in
    let first = length-append (codes "root") (32 ∷ (signed_decimal s.x ++ 32 ∷ (signed_decimal s.y ++ 32 ∷ signed_decimal (pos s.level)))) in
    omega arith

pub root_short : (s : Square) → length (line_bytes (root_line s)) ≤ 100 → (line : List ℕ) → 4096 ≤ length line → root_form s line ≡ None
root_short s short line long = rw (not_word line (line_bytes (root_line s)) (omega arith)) refl
