-- The forms of fields, and of lines that are a word and a number: each reads the canonical texts of its values, and no others.
use Rattle.std.proofs.Common.{◌≡◌, ℕ, ◌+◌, ◌-◌, ◌^◌, ◌<◌, ◌≤◌, eqb, ltb, Bool, true, false, cond, ◌&&◌, ℤ, pos, negsuc, neg_ℤ, ◌≤ℤ◌, List, [], ◌∷◌, ◌++◌, length, drop, codes, Option, Some, None, refl, sym, ap, subst, ◌∙◌, append_assoc, ◌⊎◌, inl, inr, arith, w64}
use Rattle.std.specs.Prelude.{unsigned_abs, FitsSigned, MatchOption, int_le, nat_eq, ⊤}
use Rattle.std.specs.List.{list_all, starts_with}
use Rattle.std.specs.Option.{option_map, option_and_then}
use Rattle.std.specs.Str.{bytes_eq}
use Rattle.std.specs.Fmt.{signed_decimal}
use Rattle.std.proofs.lemmas.Bool.{cases_Bool, cond-true, cond-false, false_from_ne_true, and_parts, eqb-true, ltb-true, ne_eqb}
use Rattle.std.proofs.lemmas.Bool.Decides.{Decides-eqb}
use Rattle.std.proofs.lemmas.List.{length-append}
use Rattle.std.proofs.lemmas.List.Prefix.{front_rest}
use Rattle.std.proofs.lemmas.Option.{cond_some, some_pair_parts}
use Rattle.std.proofs.lemmas.Slice.Eq.{bytes_eq-Decides, starts_is}
use borrow.Author.Differences.{ints}
use Rattle.text_lines.specs.Numbers.{number_of}
use Rattle.text_lines.specs.Words.{line_bytes}
use Rattle.text_lines.proofs.NumbersBack.{is_word-signed_decimal, number_of-signed_decimal, word_bytes}
use Rattle.siting_definitions.proofs.Integers.{int_le-true, le-int_le}
use Rattle.certificate.specs.Forms.{only_if, ranged, canonical, canonical_within, canonical_64, after_word, at_space, number_form, two_numbers, is_none, optional_number, site_number}

-- A form of lines or fields: it reads exactly the values with P, each from exactly one text.
pub record IsForm {T : Type 0} (form : List ℕ → Option T) (text : T → List ℕ) (P : T → Type 0) : Type 0 where
  pub read : (line : List ℕ) (v : T) → form line ≡ Some v → (line ≡ text v) × P v
  pub back : (v : T) → P v → form (text v) ≡ Some v

-- ---- small parts
pub same_bytes : (line word : List ℕ) → bytes_eq line word ≡ true → line ≡ word
same_bytes line word same = (bytes_eq-Decides line word).0 same

pub bytes_again : (word : List ℕ) → bytes_eq word word ≡ true
bytes_again word = (bytes_eq-Decides word word).1 refl

-- a value of two steps is one of each
pub and_then_some : {A B : Type 0} (f : A → Option B) (o : Option A) (y : B) → option_and_then f o ≡ Some y → (x : A) × (o ≡ Some x) × (f x ≡ Some y)
and_then_some f None y is = absurd cc
and_then_some f (Some x) y is = (x, refl, is)

pub map_some : {A B : Type 0} (f : A → B) (o : Option A) (y : B) → option_map f o ≡ Some y → (x : A) × (o ≡ Some x) × (f x ≡ y)
map_some f None y is = absurd cc
map_some f (Some x) y is = (x, refl, cc)

-- a value of a test or of what comes otherwise is one of these
pub choice : {T : Type 0} (test : Bool) (v x : T) (otherwise : Option T) → cond test (Some v) otherwise ≡ Some x
    → ((test ≡ true) × (v ≡ x)) ⊎ (otherwise ≡ Some x)
choice true v x otherwise is = inl (refl, cc)
choice false v x otherwise is = inr is

-- the same form, with its values said otherwise
pub IsForm-where : {T : Type 0} (form : List ℕ → Option T) (text : T → List ℕ) (P Q : T → Type 0) → IsForm form text P → ((v : T) → P v → Q v)
    → ((v : T) → Q v → P v) → IsForm form text Q
IsForm-where form text P Q is more less =
    record { read = λ line v e. (let p = is.read line v e in (p.0, more v p.1)); back = λ v q. is.back v (less v q) }

-- the same form, with its texts said otherwise
pub IsForm-as : {T : Type 0} (form : List ℕ → Option T) (text other : T → List ℕ) (P : T → Type 0) → IsForm form text P → ((v : T) → text v ≡ other v)
    → IsForm form other P
IsForm-as form text other P is same =
    record { read = λ line v e. (let p = is.read line v e in (p.0 ∙ same v, p.1)); back = λ v p. ap form (sym (same v)) ∙ is.back v p }

-- ---- numbers
read_canonical : (field : List ℕ) (z : ℤ) → canonical field ≡ Some z → field ≡ signed_decimal z
read_canonical field z is =
    let found = and_then_some (λ (y : ℤ). only_if (bytes_eq (signed_decimal y) field) y) (number_of field) z is in
    let test = cond_some (bytes_eq (signed_decimal found.0) field) found.0 z found.2 in
    sym (same_bytes (signed_decimal found.0) field test.0) ∙ ap signed_decimal test.1

canonical_back : (z : ℤ) → unsigned_abs z < 10 ^ 64 → canonical (signed_decimal z) ≡ Some z
canonical_back z small = rw (number_of-signed_decimal z small, bytes_again (signed_decimal z)) refl

abbrev pub IsWithin : ℤ → ℤ → ℤ → Type 0
IsWithin low high z = (low ≤ℤ z) × (z ≤ℤ high)

-- the form of the numbers from low to high
pub IsForm-canonical_within : (low high : ℤ) → ((z : ℤ) → low ≤ℤ z → z ≤ℤ high → unsigned_abs z < 10 ^ 64)
    → IsForm (canonical_within low high) signed_decimal (IsWithin low high)
IsForm-canonical_within low high small = record { read = reads; back = backs }
  where
    reads : (field : List ℕ) (z : ℤ) → canonical_within low high field ≡ Some z → (field ≡ signed_decimal z) × IsWithin low high z
    reads field z is =
        let found = and_then_some (ranged low high) (canonical field) z is in
        let test = cond_some (int_le low found.0 && int_le found.0 high) found.0 z found.2 in
        let parts = and_parts _ _ test.0 in
        let same : found.0 ≡ z = test.1 in (
          read_canonical field found.0 found.1 ∙ ap signed_decimal same,
          (rw same at (int_le-true low found.0 parts.0), rw same at (int_le-true found.0 high parts.1)),
        )

    backs : (z : ℤ) → IsWithin low high z → canonical_within low high (signed_decimal z) ≡ Some z
    backs z within = rw (canonical_back z (small z within.0 within.1), le-int_le low z within.0, le-int_le z high within.1) refl

fits_64 : (z : ℤ) → IsWithin (neg_ℤ (pos (2 ^ 63))) (pos (2 ^ 63 - 1)) z → FitsSigned w64 z
fits_64 (pos n) h = let high = h.1 in record { sfits = omega (arith, ints) }
fits_64 (negsuc n) h = let low = h.0 in record { sfits = omega (arith, ints) }

within_64 : (z : ℤ) → FitsSigned w64 z → IsWithin (neg_ℤ (pos (2 ^ 63))) (pos (2 ^ 63 - 1)) z
within_64 (pos n) h = let below : n < 2 ^ 63 = h.sfits in (omega (arith, ints), omega (arith, ints))
within_64 (negsuc n) h = let below : n < 2 ^ 63 = h.sfits in (omega (arith, ints), omega (arith, ints))

-- a number of 64 bits has at most 64 digits
pub small_64 : (z : ℤ) → FitsSigned w64 z → unsigned_abs z < 10 ^ 64
small_64 (pos n) h = let below : n < 2 ^ 63 = h.sfits in omega arith
small_64 (negsuc n) h = let below : n < 2 ^ 63 = h.sfits in omega arith

-- the form of the numbers of 64 bits
pub IsForm-canonical_64 : IsForm canonical_64 signed_decimal (FitsSigned w64)
IsForm-canonical_64 =
    IsForm-where canonical_64 signed_decimal (IsWithin (neg_ℤ (pos (2 ^ 63))) (pos (2 ^ 63 - 1))) (FitsSigned w64)
    (IsForm-canonical_within (neg_ℤ (pos (2 ^ 63))) (pos (2 ^ 63 - 1)) (λ z low high. small_64 z (fits_64 z (low, high)))) fits_64 within_64

abbrev pub IsCoordinate : ℤ → Type 0
IsCoordinate z = unsigned_abs z ≤ 2 ^ 38

coordinate_from : (z : ℤ) → IsWithin (neg_ℤ (pos (2 ^ 38))) (pos (2 ^ 38)) z → IsCoordinate z
coordinate_from (pos n) h = let high = h.1 in omega (arith, ints)
coordinate_from (negsuc n) h = let low = h.0 in omega (arith, ints)

coordinate_within : (z : ℤ) → IsCoordinate z → IsWithin (neg_ℤ (pos (2 ^ 38))) (pos (2 ^ 38)) z
coordinate_within (pos n) h = (omega (arith, ints), omega (arith, ints))
coordinate_within (negsuc n) h = (omega (arith, ints), omega (arith, ints))

small_coordinate : (z : ℤ) → IsCoordinate z → unsigned_abs z < 10 ^ 64
small_coordinate z h = omega arith

-- the form of the coordinates of a site
pub IsForm-site_number : IsForm site_number signed_decimal IsCoordinate
IsForm-site_number =
    IsForm-where site_number signed_decimal (IsWithin (neg_ℤ (pos (2 ^ 38))) (pos (2 ^ 38))) IsCoordinate
    (IsForm-canonical_within (neg_ℤ (pos (2 ^ 38))) (pos (2 ^ 38))
    (λ z low high. small_coordinate z (coordinate_from z (low, high)))) coordinate_from coordinate_within

-- ---- what comes after a word
word_and_space : (word : List ℕ) → length (word ++ 32 ∷ []) ≡ length word + 1
word_and_space word = length-append word (32 ∷ [])

-- what stands after a word and a space
read_after : (word line rest : List ℕ) → after_word word line ≡ Some rest → line ≡ word ++ 32 ∷ rest
read_after word line rest is =
    let front : List ℕ = word ++ 32 ∷ [] in
    let test = cond_some (starts_with nat_eq line front) (drop (length word + 1) line) rest is in
    let long = word_and_space word in
    let whole : line ≡ front ++ drop (length front) line = (starts_is Decides-eqb line front (starts_with nat_eq line front) refl).0 test.0 in
    let after : drop (length front) line ≡ rest = ap (λ (n : ℕ). drop n line) long ∙ test.1 in
    whole ∙ ap (λ (bytes : List ℕ). front ++ bytes) after ∙ append_assoc word (32 ∷ []) rest

after_back : (word rest : List ℕ) → after_word word (word ++ 32 ∷ rest) ≡ Some rest
after_back word rest =
    let front : List ℕ = word ++ 32 ∷ [] in
    let line : List ℕ = word ++ 32 ∷ rest in
    let parts : line ≡ front ++ rest = sym (append_assoc word (32 ∷ []) rest) in
    let starts : starts_with nat_eq line front ≡ true = (starts_is Decides-eqb line front (starts_with nat_eq line front) refl).1 rest parts in
    let after : drop (length word + 1) line ≡ rest = ap (λ (n : ℕ). drop n line) (sym (word_and_space word)) ∙ front_rest line front rest parts in
    cond-true _ _ _ starts ∙ ap Some after

-- a word, a space, and a text of a form
pub IsForm-after_word : {T : Type 0} (word : List ℕ) (form : List ℕ → Option T) (text : T → List ℕ) (P : T → Type 0) → IsForm form text P
    → IsForm (λ line. option_and_then form (after_word word line)) (λ v. word ++ 32 ∷ text v) P
IsForm-after_word word form text P is = record { read = reads; back = λ v p. ap (option_and_then form) (after_back word (text v)) ∙ is.back v p }
  where
    reads : (line : List ℕ) (v : _) → option_and_then form (after_word word line) ≡ Some v → (line ≡ word ++ 32 ∷ text v) × P v
    reads line v e =
        let found = and_then_some form (after_word word line) v e in
        let p = is.read found.0 v found.2 in
        (read_after word line found.0 found.1 ∙ ap (λ (bytes : List ℕ). word ++ 32 ∷ bytes) p.0, p.1)

pub small_positive : (most : ℕ) (z : ℤ) → most < 10 ^ 64 → pos 0 ≤ℤ z → z ≤ℤ pos most → unsigned_abs z < 10 ^ 64
small_positive most z small low high = omega (arith, ints)

-- a line of a word and a number from low to high
pub IsForm-number_form : (word : List ℕ) (low high : ℤ) → ((z : ℤ) → low ≤ℤ z → z ≤ℤ high → unsigned_abs z < 10 ^ 64)
    → IsForm (number_form word low high) (λ z. line_bytes (word ∷ signed_decimal z ∷ [])) (IsWithin low high)
IsForm-number_form word low high small =
    IsForm-after_word word (canonical_within low high) signed_decimal (IsWithin low high) (IsForm-canonical_within low high small)

-- a number line with a word, and the numbers from 0 to the most
abbrev IsNumberLine : (List ℕ → Option ℤ) → List ℕ → ℤ → ℤ → Type 0
IsNumberLine form word low high = IsForm form (λ z. line_bytes (word ∷ signed_decimal z ∷ [])) (IsWithin low high)

-- a line of a word and a number from 0 to the most
pub IsForm-counts : (word : List ℕ) (most : ℕ) → most < 10 ^ 64 → IsNumberLine (number_form word (pos 0) (pos most)) word (pos 0) (pos most)
IsForm-counts word most small = IsForm-number_form word (pos 0) (pos most) (λ z low high. small_positive most z small low high)

-- ---- two numbers
onto_first : (c : ℕ) (bytes x y a b : List ℕ) → bytes ≡ x ++ 32 ∷ y → c ∷ x ≡ a → y ≡ b → c ∷ bytes ≡ a ++ 32 ∷ b
onto_first c bytes x y a b more first rest = rw (more, ← first, rest) refl

-- what stands before and after the first space, where one byte comes before
read_first : (c : ℕ) (bytes a b : List ℕ) → ((x y : List ℕ) → at_space bytes ≡ Some (x, y) → bytes ≡ x ++ 32 ∷ y) → at_space (c ∷ bytes) ≡ Some (a, b)
    → (eqb c 32 ≡ true) ⊎ (eqb c 32 ≡ false) → c ∷ bytes ≡ a ++ 32 ∷ b
read_first c bytes a b later is (inl t) =
    let parts = some_pair_parts [] a bytes b (sym (cond-true _ _ _ t) ∙ is) in
    let byte : c ≡ 32 = eqb-true c 32 t in
    let none : [] ≡ a = parts.0 in
    let rest : bytes ≡ b = parts.1 in
    rw (byte, rest, ← none) refl
read_first c bytes a b later is (inr f) =
    let found = map_some (λ (parts : List ℕ × List ℕ). (c ∷ parts.0, parts.1)) (at_space bytes) (a, b) (sym (cond-false _ _ _ f) ∙ is) in
    let more : bytes ≡ found.0.0 ++ 32 ∷ found.0.1 = later found.0.0 found.0.1 found.1 in
    let first : c ∷ found.0.0 ≡ a = ap (λ (parts : List ℕ × List ℕ). parts.0) found.2 in
    let rest : found.0.1 ≡ b = ap (λ (parts : List ℕ × List ℕ). parts.1) found.2 in
    onto_first c bytes found.0.0 found.0.1 a b more first rest

-- what stands before and after the first space
read_space : (bytes a b : List ℕ) → at_space bytes ≡ Some (a, b) → bytes ≡ a ++ 32 ∷ b
read_space [] a b is = absurd cc
read_space (c ∷ bytes) a b is = read_first c bytes a b (read_space bytes) is (cases_Bool (eqb c 32))

-- a text of bytes above the space ends at the space after it
space_back : (a b : List ℕ) → list_all (λ c. ltb 32 c) a ≡ true → at_space (a ++ 32 ∷ b) ≡ Some (a, b)
space_back [] b above = refl
space_back (c ∷ a) b above =
    let parts = and_parts _ _ above in
    let high : 32 < c = ltb-true 32 c parts.0 in
    let other : eqb c 32 ≡ false = ne_eqb c 32 (λ same. omega arith) in
    rw (other, space_back a b parts.1) refl

number_at_space : (z : ℤ) (rest : List ℕ) → at_space (signed_decimal z ++ 32 ∷ rest) ≡ Some (signed_decimal z, rest)
number_at_space z rest = space_back (signed_decimal z) rest (word_bytes (signed_decimal z) (is_word-signed_decimal z))

abbrev pub pair_text : ℤ × ℤ → List ℕ
pair_text c = signed_decimal c.0 ++ 32 ∷ signed_decimal c.1

abbrev then_second : (List ℕ → Option ℤ) → List ℕ → ℤ → Option (ℤ × ℤ)
then_second number rest a = option_map (λ b. (a, b)) (number rest)

-- the numbers of two fields
pair_from : (P : ℤ → Type 0) (rest field other : List ℕ) (x y a b : ℤ) → rest ≡ field ++ 32 ∷ other → (field ≡ signed_decimal x) × P x
    → (other ≡ signed_decimal y) × P y → x ≡ a → y ≡ b → (rest ≡ pair_text (a, b)) × (P a × P b)
pair_from P rest field other x y a b whole p q one two =
    (whole ∙ rw (p.0, q.0, one, two) refl, (subst P one p.1, subst P two q.1))

-- the same pair, with its numbers said otherwise
pub pair_as : (P : ℤ → Type 0) (rest : List ℕ) (c : ℤ × ℤ) (a b : ℤ) → (rest ≡ pair_text c) × (P c.0 × P c.1) → c.0 ≡ a → c.1 ≡ b
    → (rest ≡ pair_text (a, b)) × (P a × P b)
pair_as P rest c a b h one two = (h.0 ∙ rw (one, two) refl, (subst P one h.1.0, subst P two h.1.1))

-- two numbers with a space between them, each of the same form
pub IsForm-two_numbers : (number : List ℕ → Option ℤ) (P : ℤ → Type 0) → IsForm number signed_decimal P
    → IsForm (two_numbers number) pair_text (λ c. P c.0 × P c.1)
IsForm-two_numbers number P is = record { read = reads; back = backs }
  where
    reads : (rest : List ℕ) (c : ℤ × ℤ) → two_numbers number rest ≡ Some c → (rest ≡ pair_text c) × (P c.0 × P c.1)
    reads rest c e =
        let fields = and_then_some (λ (parts : List ℕ × List ℕ). option_and_then (then_second number parts.1) (number parts.0)) (at_space rest) c e in
        let first = and_then_some (then_second number fields.0.1) (number fields.0.0) c fields.2 in
        let second = map_some (λ (b : ℤ). (first.0, b)) (number fields.0.1) c first.2 in
        let one : first.0 ≡ c.0 = ap (λ (pair : ℤ × ℤ). pair.0) second.2 in
        let two : second.0 ≡ c.1 = ap (λ (pair : ℤ × ℤ). pair.1) second.2 in
        pair_from P rest fields.0.0 fields.0.1 first.0 second.0 c.0 c.1 (read_space rest fields.0.0 fields.0.1 fields.1) (is.read fields.0.0 first.0 first.1)
        (is.read fields.0.1 second.0 second.1)
        one
        two

    backs : (c : ℤ × ℤ) → P c.0 × P c.1 → two_numbers number (pair_text c) ≡ Some c
    backs c p = rw (number_at_space c.0 (signed_decimal c.1), is.back c.0 p.0, is.back c.1 p.1) refl

-- ---- a number or none
abbrev pub optional_field : Option ℤ → List ℕ
optional_field None = codes "none"
optional_field (Some z) = signed_decimal z

pub number_not_none : (z : ℤ) → unsigned_abs z < 10 ^ 64 → is_none (signed_decimal z) ≡ false
number_not_none z small =
    false_from_ne_true _ (λ t.
    let is : Some z ≡ number_of (codes "none") = sym (number_of-signed_decimal z small) ∙ ap number_of (same_bytes (signed_decimal z) (codes "none") t) in
    absurd cc)

pub pair_not_none : (c : ℤ × ℤ) → is_none (pair_text c) ≡ false
pair_not_none c =
    false_from_ne_true _ (λ t.
    let is : Some (signed_decimal c.0, signed_decimal c.1) ≡ at_space (codes "none") =
    sym (number_at_space c.0 (signed_decimal c.1)) ∙ ap at_space (same_bytes (pair_text c) (codes "none") t) in
    absurd cc)

-- a number of 64 bits, or the word that says there is none
pub IsForm-optional_number : IsForm optional_number optional_field (λ o. MatchOption o ⊤ (FitsSigned w64))
IsForm-optional_number = record { read = λ rest v e. found rest v (choice (is_none rest) None v _ e); back = backs }
  where
    found : (rest : List ℕ) (v : Option ℤ) → ((is_none rest ≡ true) × (None ≡ v)) ⊎ (option_map Some (canonical_64 rest) ≡ Some v)
        → (rest ≡ optional_field v) × MatchOption v ⊤ (FitsSigned w64)
    found rest None (inl h) = (same_bytes rest (codes "none") h.0, tt)
    found rest (Some z) (inl h) = let e = h.1 in absurd cc
    found rest None (inr h) = let p = map_some Some (canonical_64 rest) None h in let e = p.2 in absurd cc
    found rest (Some z) (inr h) =
        let p = map_some Some (canonical_64 rest) (Some z) h in
        let e = p.2 in
        let same : p.0 ≡ z = cc in
        IsForm-canonical_64.read rest z (p.1 ∙ ap Some same)

    backs : (v : Option ℤ) → MatchOption v ⊤ (FitsSigned w64) → optional_number (optional_field v) ≡ Some v
    backs None h = refl
    backs (Some z) h = cond-false _ _ _ (number_not_none z (small_64 z h)) ∙ ap (option_map Some) (IsForm-canonical_64.back z h)
