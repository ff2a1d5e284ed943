-- Numbers are read back from what was written of them.
use Rattle.std.proofs.Common.{◌≡◌, ℕ, zero, suc, ◌+◌, ◌-◌, ◌*◌, ◌/◌, ◌%◌, ◌^◌, ◌<◌, ◌≤◌, eqb, ltb, true, false, ℤ, pos, negsuc, List, [], ◌∷◌, Some, refl, ap, ◌∙◌, arith, rules}
use Rattle.std.specs.Prelude.{unsigned_abs, fold}
use Rattle.std.specs.List.{list_all}
use Rattle.std.specs.Option.{option_map}
use Rattle.std.specs.Char.{is_ascii_digit}
use Rattle.std.specs.Fmt.{digits, digits_onto, digit_glyph, decimal, signed_decimal}
use Rattle.std.specs.Str.Parse.{IsNumeral, digits_value}
use Rattle.std.proofs.lemmas.Fmt.{decimal_is_IsNumeral_wide}
use Rattle.std.proofs.lemmas.Str.Parse.{IsNumeralModel, numerals_by_fold}
use Rattle.std.proofs.lemmas.Bool.{and_parts, and_from, leb-true, lt-ltb, ne_eqb, cond_both}
use Rattle.text_lines.specs.Numbers.{digits_of, minus, number_of}
use Rattle.text_lines.specs.Words.{is_word}

value_after : ℕ → List ℕ → ℕ
value_after n ds = fold (λ n d. 10 * n + (d - 48)) n ds

own : IsNumeralModel (λ ds. list_all is_ascii_digit ds ≡ true) (value_after 0)
unfolding value_after
own = numerals_by_fold _ (search rules) value_after (search rules)

digits_again : (ds : List ℕ) (n : ℕ) → IsNumeral 10 ds → digits_value 10 ds ≡ n → (list_all is_ascii_digit ds ≡ true) × (digits_of ds ≡ Some n)
unfolding value_after
digits_again [] n numeral value = absurd (omega (arith, numeral.0))
digits_again (d ∷ ds) n numeral value =
    let all : list_all is_ascii_digit (d ∷ ds) ≡ true = own.from (d ∷ ds) numeral.1 in
    (all, rw all (ap Some (own.same (d ∷ ds) numeral.1 ∙ value)))

-- digits alone are a number without a sign
unsigned_digits : (ds : List ℕ) (n : ℕ) → list_all is_ascii_digit ds ≡ true → digits_of ds ≡ Some n → number_of ds ≡ Some (pos n)
unsigned_digits [] n all read = absurd cc
unsigned_digits (d ∷ ds) n all read =
    let low : 48 ≤ d = leb-true 48 d (and_parts _ _ (and_parts _ _ all).0).0 in
    rw (ne_eqb d 45 (λ same. omega arith), ne_eqb d 43 (λ same. omega arith)) (ap (option_map pos) read)

word_digit : (n : ℕ) → ltb 32 (digit_glyph false (n % 10)) ≡ true
word_digit n = lt-ltb 32 _ (cond_both (ltb (n % 10) 10) (48 + n % 10) (87 + n % 10) (λ g. 32 < g) (λ _. omega arith) (λ _. omega arith))

word_onto : (k n d : ℕ) (ds : List ℕ) → ltb 32 d ≡ true → list_all (λ c. ltb 32 c) ds ≡ true → is_word (digits_onto k 10 false n (d ∷ ds)) ≡ true
word_onto zero n d ds first more = and_from _ _ first more
word_onto (suc k) n d ds first more =
    let glyph = digit_glyph false (n % 10) in
    cond_both (eqb (n / 10) 0) (glyph ∷ d ∷ ds) (digits_onto k 10 false (n / 10) (glyph ∷ d ∷ ds)) (λ bytes. is_word bytes ≡ true)
    (λ _. and_from _ _ (word_digit n) (and_from _ _ first more))
    (λ _. word_onto k (n / 10) glyph (d ∷ ds) (word_digit n) (and_from _ _ first more))

word_digits : (k n : ℕ) → is_word (digits_onto (suc k) 10 false n []) ≡ true
word_digits k n =
    let glyph = digit_glyph false (n % 10) in
    cond_both (eqb (n / 10) 0) (glyph ∷ []) (digits_onto k 10 false (n / 10) (glyph ∷ [])) (λ bytes. is_word bytes ≡ true)
    (λ _. and_from _ _ (word_digit n) refl)
    (λ _. word_onto k (n / 10) glyph [] (word_digit n) refl)

is_word-decimal : (n : ℕ) → is_word (decimal n) ≡ true
unfolding digits
is_word-decimal n = word_digits 63 n

-- each byte of a word is above the space
pub word_bytes : (ds : List ℕ) → is_word ds ≡ true → list_all (λ c. ltb 32 c) ds ≡ true
word_bytes [] word = refl
word_bytes (d ∷ ds) word = word

-- what is written of a number is a word
pub is_word-signed_decimal : (z : ℤ) → is_word (signed_decimal z) ≡ true
is_word-signed_decimal (pos n) = is_word-decimal n
is_word-signed_decimal (negsuc n) = and_from _ _ refl (word_bytes (decimal (suc n)) (is_word-decimal (suc n)))

-- a number of at most 64 digits is read back
pub number_of-signed_decimal : (z : ℤ) → unsigned_abs z < 10 ^ 64 → number_of (signed_decimal z) ≡ Some z
number_of-signed_decimal (pos n) small =
    let written = decimal_is_IsNumeral_wide n small in
    let read = digits_again (decimal n) n written.0 written.1 in
    unsigned_digits (decimal n) n read.0 read.1
number_of-signed_decimal (negsuc n) small =
    let written = decimal_is_IsNumeral_wide (suc n) (omega arith) in
    ap (option_map minus) (digits_again (decimal (suc n)) (suc n) written.0 written.1).1
