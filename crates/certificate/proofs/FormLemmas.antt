-- The forms of lines.
use Rattle.std.proofs.Common.{◌≡◌, ℕ, suc, zero, ◌+◌, ◌-◌, ◌^◌, ◌≤◌, ◌<◌, ◌≢◌, ◌⊎◌, ◌≤ℤ◌, ◌<ℤ◌, min, eqb, get_or, Bool, true, false, cond, List, [], ◌∷◌, ◌++◌, length, take, drop, refl, sym, ap, ◌∙◌, arith, Option, Some, None, option_map, option_and_then, ℤ, pos, negsuc, neg_ℤ, int_le, FitsSigned, unsigned_abs, bytes_eq, ok_or, Result, IfOk, codes, inl, inr}
use Rattle.std.specs.Prelude.{◌&&◌, nat_eq, nat_le}
use Rattle.std.specs.List.{starts_with}
use Rattle.std.specs.Int.{w64}
use Rattle.std.specs.Fmt.{signed_decimal}
use Rattle.std.proofs.lemmas.Int.{ints}
use Rattle.std.proofs.lemmas.Bool.Decides.{eqb_tells}
use Rattle.text_lines.specs.Numbers.{number_of, saturated_size, minus}
use Rattle.siting_definitions.specs.Square.{Square}
use Rattle.siting_definitions.proofs.Integers.{lt-int_le, int_le-true}
use Rattle.certificate.specs.Forms.{only_if, ranged, canonical, canonical_within, after_word, at_space, two_numbers, number_form, root_form}
use Rattle.certificate.specs.declared.reader.AnswerError.{AnswerError}
use Rattle.certificate.specs.declared.reader.AnswerError.TheVariants.{Form}
use Rattle.certificate.specs.FormParts.{space_first, root_fields}

-- ---- canonical numbers
-- beyond both ends of 64 bits, z is out of any range of 64 bits, capped or not
above : (low high z : ℤ) → high <ℤ z → ranged low high z ≡ None
above low high z h = by_test (int_le low z) (lt-int_le z high h)
  where
    by_test : (t : Bool) → int_le z high ≡ false → only_if (t && int_le z high) z ≡ None
    by_test true e = rw e refl
    by_test false e = refl

below : (low high z : ℤ) → z <ℤ low → ranged low high z ≡ None
below low high z h = rw (lt-int_le low z h) refl

pub most_64 : (z : ℤ) → FitsSigned w64 z → z ≤ℤ pos (2 ^ 63 - 1)
most_64 (pos n) h = let fits : n < 2 ^ 63 = h.sfits in omega (arith, ints)
most_64 (negsuc n) h = omega (arith, ints)

pub least_64 : (z : ℤ) → FitsSigned w64 z → negsuc (2 ^ 63 - 1) ≤ℤ z
least_64 (pos n) h = omega (arith, ints)
least_64 (negsuc n) h = let fits : n < 2 ^ 63 = h.sfits in omega (arith, ints)

capped_ranged : (low high z : ℤ) → FitsSigned w64 low → FitsSigned w64 high → ranged low high (saturated_size z) ≡ ranged low high z
capped_ranged low high (pos n) lo hi = by_size (nat_le n (2 ^ 64 - 1)) refl
  where
    by_size : (t : Bool) → nat_le n (2 ^ 64 - 1) ≡ t → ranged low high (saturated_size (pos n)) ≡ ranged low high (pos n)
    by_size true e =
        let small : n ≤ 2 ^ 64 - 1 = grind arith in
        let same : min n (2 ^ 64 - 1) ≡ n = omega arith in
        ap (λ k. ranged low high (pos k)) same
    by_size false e =
        let large : 2 ^ 64 - 1 < n = grind arith in
        let same : min n (2 ^ 64 - 1) ≡ 2 ^ 64 - 1 = omega arith in
        let most : high ≤ℤ pos (2 ^ 63 - 1) = most_64 high hi in
        ap (λ k. ranged low high (pos k)) same ∙ above low high (pos (2 ^ 64 - 1)) (omega (arith, ints)) ∙ sym (above low high (pos n) (omega (arith, ints)))
capped_ranged low high (negsuc n) lo hi = by_size (nat_le (suc n) (2 ^ 64 - 1)) refl
  where
    by_size : (t : Bool) → nat_le (suc n) (2 ^ 64 - 1) ≡ t → ranged low high (saturated_size (negsuc n)) ≡ ranged low high (negsuc n)
    by_size true e =
        let small : suc n ≤ 2 ^ 64 - 1 = grind arith in
        let same : min (suc n) (2 ^ 64 - 1) ≡ suc n = omega arith in
        ap (λ k. ranged low high (minus k)) same
    by_size false e =
        let large : 2 ^ 64 - 1 < suc n = grind arith in
        let same : min (suc n) (2 ^ 64 - 1) ≡ 2 ^ 64 - 1 = omega arith in
        let least : negsuc (2 ^ 63 - 1) ≤ℤ low = least_64 low lo in
        ap (λ k. ranged low high (minus k)) same ∙ below low high (minus (2 ^ 64 - 1)) (omega (arith, ints)) ∙ sym (below low high (negsuc n) (omega (arith, ints)))

pub canonical_from : (low high : ℤ) (field : List ℕ) (o : Option ℤ) → FitsSigned w64 low → FitsSigned w64 high → o ≡ option_and_then (ranged low high) (option_map saturated_size (number_of field))
    → option_and_then (λ v. only_if (bytes_eq (signed_decimal v) field) v) o ≡ canonical_within low high field
canonical_from low high field o lo hi is = rw is (by_number (number_of field))
  where
    by_tests : (z : ℤ) (t u : Bool) → (int_le low z && int_le z high) ≡ t → bytes_eq (signed_decimal z) field ≡ u
        → option_and_then (λ v. only_if (bytes_eq (signed_decimal v) field) v) (only_if t z) ≡ option_and_then (ranged low high) (only_if u z)
    by_tests z true true within written = rw (within, written) refl
    by_tests z true false within written = rw written refl
    by_tests z false true within written = rw within refl
    by_tests z false false within written = refl

    by_number : (o : Option ℤ) → option_and_then (λ v. only_if (bytes_eq (signed_decimal v) field) v) (option_and_then (ranged low high) (option_map saturated_size o)) ≡ option_and_then (ranged low high) (option_and_then (λ z. only_if (bytes_eq (signed_decimal z) field) z) o)
    by_number None = refl
    by_number (Some z) = rw (capped_ranged low high z lo hi) (by_tests z (int_le low z && int_le z high) (bytes_eq (signed_decimal z) field) refl refl)

-- ---- words
same_test : (a b : ℕ) → eqb a b ≡ eqb b a
same_test a b = by_tells (eqb a b) (eqb b a) (eqb_tells a b) (eqb_tells b a)
  where
    by_tells : (t u : Bool) → ((t ≡ true) × (a ≡ b)) ⊎ ((t ≡ false) × (a ≢ b)) → ((u ≡ true) × (b ≡ a)) ⊎ ((u ≡ false) × (b ≢ a)) → t ≡ u
    by_tells t u (inl p) (inl q) = p.0 ∙ sym q.0
    by_tells t u (inl p) (inr q) = absurd (q.1 (sym p.1))
    by_tells t u (inr p) (inl q) = absurd (p.1 (sym q.1))
    by_tells t u (inr p) (inr q) = p.0 ∙ sym q.0

pub after_word_from : (word line : List ℕ) → after_word word line ≡ option_and_then space_first (only_if (bytes_eq (take (length word) line) word) (drop (length word) line))
after_word_from [] [] = refl
after_word_from [] (l ∷ line) = ap (λ t. only_if (t && true) line) (same_test 32 l) ∙ by_test (eqb l 32)
  where
    by_test : (t : Bool) → only_if (t && true) line ≡ cond t (Some line) None
    by_test true = refl
    by_test false = refl
after_word_from (w ∷ word) [] = refl
after_word_from (w ∷ word) (l ∷ line) =
    let on : suc (length word) + 1 ≡ suc (length word + 1) = omega arith in
    rw on (rw (same_test w l) (by_test (eqb l w) (after_word_from word line)))
  where
    by_test : (t : Bool) → after_word word line ≡ option_and_then space_first (only_if (bytes_eq (take (length word) line) word) (drop (length word) line))
        → only_if (t && starts_with nat_eq line (word ++ 32 ∷ [])) (drop (length word + 1) line) ≡ option_and_then space_first (only_if (t && bytes_eq (take (length word) line) word) (drop (length word) line))
    by_test true e = e
    by_test false e = refl

pub word_then : (word line : List ℕ) (rest : List ℕ) → bytes_eq (take (length word) line) word ≡ true → rest ≡ drop (length word) line → after_word word line ≡ space_first rest
word_then word line rest e is = after_word_from word line ∙ rw (e, is) refl

pub no_word : (word line : List ℕ) → bytes_eq (take (length word) line) word ≡ false → after_word word line ≡ None
no_word word line e = after_word_from word line ∙ rw e refl

-- ---- the first space
pub space_at : (bytes : List ℕ) (i : ℕ) → i < length bytes → ((k : ℕ) → k < i → eqb (get_or bytes k 0) 32 ≡ false) → eqb (get_or bytes i 0) 32 ≡ true → at_space bytes ≡ Some (take i bytes, drop (suc i) bytes)
space_at [] i lt before here = let no : ⊥ = omega arith in absurd no
space_at (b ∷ bs) zero lt before here = rw here refl
space_at (b ∷ bs) (suc i) lt before here =
    rw (before 0 (omega arith), space_at bs i (omega arith) (λ k below. before (suc k) (omega arith)) here) refl

pub no_space : (bytes : List ℕ) → ((k : ℕ) → k < length bytes → eqb (get_or bytes k 0) 32 ≡ false) → at_space bytes ≡ None
no_space [] before = refl
no_space (b ∷ bs) before = rw (before 0 (omega arith), no_space bs (λ k below. before (suc k) (omega arith))) refl

-- ---- the ranges of numbers that were read
pub and_first : (a b : Bool) → (a && b) ≡ true → a ≡ true
and_first true b h = refl
and_first false b h = h

pub and_second : (a b : Bool) → (a && b) ≡ true → b ≡ true
and_second true b h = h
and_second false b h = cc

only_if_some : {T : Type 0} (t : Bool) (v z : T) → only_if t v ≡ Some z → (t ≡ true) × (v ≡ z)
only_if_some true v z e = (refl, cc)
only_if_some false v z e = let none : None ≡ Some z = e in cc

pub ranged_some : (low high y z : ℤ) → ranged low high y ≡ Some z → (low ≤ℤ z) × (z ≤ℤ high)
ranged_some low high y z e =
    let both : (int_le low y && int_le y high ≡ true) × (y ≡ z) = only_if_some _ y z e in
    let least : low ≤ℤ y = int_le-true low y (and_first (int_le low y) (int_le y high) both.0) in
    let most : y ≤ℤ high = int_le-true y high (and_second (int_le low y) (int_le y high) both.0) in
    (rw (← both.1) least, rw (← both.1) most)

pub canonical_range : (low high : ℤ) (field : List ℕ) (z : ℤ) → canonical_within low high field ≡ Some z → (low ≤ℤ z) × (z ≤ℤ high)
canonical_range low high field z e = by_number (canonical field) e
  where
    by_number : (o : Option ℤ) → option_and_then (ranged low high) o ≡ Some z → (low ≤ℤ z) × (z ≤ℤ high)
    by_number None e = let none : None ≡ Some z = e in cc
    by_number (Some y) e = ranged_some low high y z e

pub two_range : (low high : ℤ) (bytes : List ℕ) (z : ℤ × ℤ) → two_numbers (canonical_within low high) bytes ≡ Some z → ((low ≤ℤ z.0) × (z.0 ≤ℤ high)) × ((low ≤ℤ z.1) × (z.1 ≤ℤ high))
two_range low high bytes z e = by_parts (at_space bytes) e
  where
    by_numbers : (a b : Option ℤ) → ((y : ℤ) → a ≡ Some y → (low ≤ℤ y) × (y ≤ℤ high)) → ((y : ℤ) → b ≡ Some y → (low ≤ℤ y) × (y ≤ℤ high))
        → option_and_then (λ x. option_map (λ y. (x, y)) b) a ≡ Some z → ((low ≤ℤ z.0) × (z.0 ≤ℤ high)) × ((low ≤ℤ z.1) × (z.1 ≤ℤ high))
    by_numbers None b f g e = let none : None ≡ Some z = e in cc
    by_numbers (Some x) None f g e = let none : None ≡ Some z = e in cc
    by_numbers (Some x) (Some y) f g e =
        let same : (x, y) ≡ z = cc in
        rw (← same) (f x refl, g y refl)

    by_parts : (o : Option (List ℕ × List ℕ)) → option_and_then (λ parts. option_and_then (λ a. option_map (λ b. (a, b)) (canonical_within low high parts.1)) (canonical_within low high parts.0)) o ≡ Some z
        → ((low ≤ℤ z.0) × (z.0 ≤ℤ high)) × ((low ≤ℤ z.1) × (z.1 ≤ℤ high))
    by_parts None e = let none : None ≡ Some z = e in cc
    by_parts (Some parts) e =
        by_numbers (canonical_within low high parts.0) (canonical_within low high parts.1) (λ y h. canonical_range low high parts.0 y h) (λ y h. canonical_range low high parts.1 y h) e

pub near : (n : ℕ) (z : ℤ) → neg_ℤ (pos n) ≤ℤ z → z ≤ℤ pos n → unsigned_abs z ≤ n
near n z least most = omega (arith, ints)

pub number_range : (low high : ℤ) (word line : List ℕ) (at : ℕ) (value : Option ℤ) (result : Result ℤ AnswerError) → result ≡ ok_or value (Form at) → value ≡ number_form word low high line → IfOk result (λ z. (low ≤ℤ z) × (z ≤ℤ high))
number_range low high word line at None result is form = rw is tt
number_range low high word line at (Some z) result is form = rw is (by_word (after_word word line) (sym form))
  where
    by_word : (o : Option (List ℕ)) → option_and_then (canonical_within low high) o ≡ Some z → (low ≤ℤ z) × (z ≤ℤ high)
    by_word None e = let none : None ≡ Some z = e in cc
    by_word (Some field) e = canonical_range low high field z e

-- ---- the line of a root
bytes_eq-sym : (a b : List ℕ) → bytes_eq a b ≡ bytes_eq b a
bytes_eq-sym [] [] = refl
bytes_eq-sym [] (y ∷ ys) = refl
bytes_eq-sym (x ∷ xs) [] = refl
bytes_eq-sym (x ∷ xs) (y ∷ ys) = rw (same_test x y, bytes_eq-sym xs ys) refl

-- a line that is a word, a space and more, by what stands after the word and the space
word_and_more : {T : Type 0} (word more line : List ℕ) (v : T) → only_if (bytes_eq line (word ++ 32 ∷ more)) v ≡ option_and_then (λ rest. only_if (bytes_eq rest more) v) (after_word word line)
word_and_more [] more [] v = refl
word_and_more [] more (l ∷ line) v = rw (same_test l 32) (by_test (eqb 32 l))
  where
    by_test : (t : Bool) → only_if (t && bytes_eq line more) v ≡ option_and_then (λ rest. only_if (bytes_eq rest more) v) (only_if (t && true) line)
    by_test true = refl
    by_test false = refl
word_and_more (w ∷ word) more [] v = refl
word_and_more (w ∷ word) more (l ∷ line) v =
    let one : suc (length word) + 1 ≡ suc (length word + 1) = omega arith in
    rw (same_test l w, one) (by_test (eqb w l) (word_and_more word more line v))
  where
    by_test : (t : Bool) → only_if (bytes_eq line (word ++ 32 ∷ more)) v ≡ option_and_then (λ rest. only_if (bytes_eq rest more) v) (after_word word line)
        → only_if (t && bytes_eq line (word ++ 32 ∷ more)) v ≡ option_and_then (λ rest. only_if (bytes_eq rest more) v) (only_if (t && starts_with nat_eq line (word ++ 32 ∷ [])) (drop (length word + 1) line))
    by_test true same = same
    by_test false same = refl

pub root_fields-is : (s : Square) (line : List ℕ) → root_fields s line ≡ root_form s line
root_fields-is s line =
    let x = signed_decimal s.x in
    let y = signed_decimal s.y in
    let level = signed_decimal (pos s.level) in
    sym (word_and_more (codes "root") (x ++ 32 ∷ (y ++ 32 ∷ level)) line s
    ∙ (λ i. option_and_then (λ at_x. word_and_more x (y ++ 32 ∷ level) at_x s i) (after_word (codes "root") line))
    ∙ (λ i. option_and_then (λ at_x. option_and_then (λ at_y. word_and_more y level at_y s i) (after_word x at_x)) (after_word (codes "root") line))
    ∙ (λ i. option_and_then (λ at_x. option_and_then (λ at_y. option_and_then (λ at_level. only_if (bytes_eq-sym at_level level i) s) (after_word y at_y)) (after_word x at_x)) (after_word (codes "root") line)))
