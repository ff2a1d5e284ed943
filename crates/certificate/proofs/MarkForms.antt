-- The forms of the lines after the head, of marks and of the end: each reads the canonical lines, and no others.
use Rattle.std.proofs.Common.{◌≡◌, ℕ, eqb, true, false, cond, ℤ, List, [], ◌∷◌, codes, Option, Some, None, refl, sym, ap, subst, ◌∙◌, ◌⊎◌, inl, inr, w64}
use Rattle.std.specs.Prelude.{FitsSigned, ⊤}
use Rattle.std.specs.Option.{option_map, option_and_then}
use Rattle.std.specs.Str.{bytes_eq}
use Rattle.std.specs.Fmt.{signed_decimal}
use Rattle.std.proofs.lemmas.Bool.{cases_Bool, cond-true, cond-false, false_from_ne_true, eqb-true}
use Rattle.text_lines.specs.Numbers.{number_of}
use Rattle.text_lines.specs.Words.{line_bytes}
use Rattle.text_lines.proofs.NumbersBack.{number_of-signed_decimal}
use Rattle.siting_definitions.specs.declared.Mark.{Mark}
use Rattle.siting_definitions.specs.declared.Mark.TheVariants.{Split, Shut, Bounded, Floor as FloorMark, Left}
use Rattle.siting_definitions.specs.Answer.{IsMark}
use Rattle.siting_definitions.specs.AnswerText.{mark_line}
use Rattle.certificate.specs.declared.reader.Item.{Item}
use Rattle.certificate.specs.declared.reader.Item.TheVariants.{Node, End}
use Rattle.certificate.specs.Forms.{canonical_64, lettered, numbered_mark, item_form}
use Rattle.certificate.proofs.NumberForms.{IsForm, IsForm-canonical_64, same_bytes, and_then_some, map_some, choice, small_64}

-- a line of a letter and a number is that of this mark
LetterFits : ℕ → ℤ → Mark → Type 0
LetterFits letter z m = (letter ∷ 32 ∷ signed_decimal z ≡ line_bytes (mark_line m)) × (FitsSigned w64 z → IsMark m)

-- a letter or what comes otherwise
letter_or : (letter code : ℕ) (z : ℤ) (m v : Mark) (otherwise : Option Mark) → LetterFits code z m → (otherwise ≡ Some v → LetterFits letter z v)
    → cond (eqb letter code) (Some m) otherwise ≡ Some v → LetterFits letter z v
letter_or letter code z m v otherwise fits more e = found (choice (eqb letter code) m v otherwise e)
  where
    found : ((eqb letter code ≡ true) × (m ≡ v)) ⊎ (otherwise ≡ Some v) → LetterFits letter z v
    found (inl h) = rw (eqb-true letter code h.0, ← h.1) fits
    found (inr h) = more h

letter_fits : (letter : ℕ) (z : ℤ) (v : Mark) → lettered letter z ≡ Some v → LetterFits letter z v
unfolding LetterFits
letter_fits letter z v e =
    letter_or letter 83 z (Split (Some z)) v _ (refl, λ h. h)
    (letter_or letter 66 z (Bounded z) v _ (refl, λ h. h)
    (letter_or letter 70 z (FloorMark z) v _ (refl, λ h. h) (letter_or letter 79 z (Left z) v None (refl, λ h. h) (λ no. absurd cc))))
    e

read_space_mark : (letter space : ℕ) (rest : List ℕ) (m : Mark)
    → cond (eqb space 32) (option_and_then (lettered letter) (canonical_64 rest)) None ≡ Some m → (eqb space 32 ≡ true) ⊎ (eqb space 32 ≡ false)
    → (letter ∷ space ∷ rest ≡ line_bytes (mark_line m)) × IsMark m
unfolding LetterFits
read_space_mark letter space rest m e (inl t) =
    let found = and_then_some (lettered letter) (canonical_64 rest) m (sym (cond-true _ _ _ t) ∙ e) in
    let number = IsForm-canonical_64.read rest found.0 found.1 in
    let fits = letter_fits letter found.0 m found.2 in
    (ap (λ (b : ℕ). letter ∷ b ∷ rest) (eqb-true space 32 t) ∙ ap (λ (bytes : List ℕ). letter ∷ 32 ∷ bytes) number.0 ∙ fits.0, fits.1 number.1)
read_space_mark letter space rest m e (inr f) = let no : None ≡ Some m = sym (cond-false _ _ _ f) ∙ e in absurd cc

-- a line of a letter, a space and a number is that of its mark
read_mark : (line : List ℕ) (m : Mark) → numbered_mark line ≡ Some m → (line ≡ line_bytes (mark_line m)) × IsMark m
read_mark [] m e = absurd cc
read_mark (letter ∷ []) m e = absurd cc
read_mark (letter ∷ space ∷ rest) m e = read_space_mark letter space rest m e (cases_Bool (eqb space 32))

-- the line of an item
abbrev item_text : Item → List ℕ
item_text (Node m) = line_bytes (mark_line m)
item_text End = codes "end"

abbrev IsItem : Item → Type 0
IsItem (Node m) = IsMark m
IsItem End = ⊤

-- a whole line or what comes otherwise
item_or : (line word : List ℕ) (item v : Item) (otherwise : Option Item) → (word ≡ item_text item) × IsItem item
    → (otherwise ≡ Some v → (line ≡ item_text v) × IsItem v) → cond (bytes_eq line word) (Some item) otherwise ≡ Some v
    → (line ≡ item_text v) × IsItem v
item_or line word item v otherwise fits more e = found (choice (bytes_eq line word) item v otherwise e)
  where
    found : ((bytes_eq line word ≡ true) × (item ≡ v)) ⊎ (otherwise ≡ Some v) → (line ≡ item_text v) × IsItem v
    found (inl h) = (same_bytes line word h.0 ∙ fits.0 ∙ ap item_text h.1, subst IsItem h.1 fits.1)
    found (inr h) = more h

number_not_dash : (z : ℤ) → FitsSigned w64 z → bytes_eq (signed_decimal z) (codes "-") ≡ false
number_not_dash z fits =
    false_from_ne_true _ (λ t.
    let is : Some z ≡ number_of (codes "-") =
    sym (number_of-signed_decimal z (small_64 z fits)) ∙ ap number_of (same_bytes (signed_decimal z) (codes "-") t) in
    absurd cc)

-- the line of a mark, or the last line
pub IsForm-item_form : IsForm item_form item_text IsItem
IsForm-item_form = record { read = reads; back = backs }
  where
    marks : (line : List ℕ) (v : Item) → option_map Node (numbered_mark line) ≡ Some v → (line ≡ item_text v) × IsItem v
    marks line v e = let found = map_some Node (numbered_mark line) v e in rw (← found.2) (read_mark line found.0 found.1)

    reads : (line : List ℕ) (v : Item) → item_form line ≡ Some v → (line ≡ item_text v) × IsItem v
    reads line v e =
        item_or line (codes "end") End v _ (refl, tt)
        (item_or line (codes "X") (Node Shut) v _ (refl, tt) (item_or line (codes "S -") (Node (Split None)) v _ (refl, tt) (marks line v))) e

    backs : (v : Item) → IsItem v → item_form (item_text v) ≡ Some v
    backs (Node (Split None)) h = refl
    backs (Node (Split (Some z))) h = cond-false _ _ _ (number_not_dash z h)
        ∙ ap (λ (n : Option ℤ). option_map Node (option_and_then (lettered 83) n)) (IsForm-canonical_64.back z h)
    backs (Node Shut) h = refl
    backs (Node (Bounded b)) h = ap (λ (n : Option ℤ). option_map Node (option_and_then (lettered 66) n)) (IsForm-canonical_64.back b h)
    backs (Node (FloorMark b)) h = ap (λ (n : Option ℤ). option_map Node (option_and_then (lettered 70) n)) (IsForm-canonical_64.back b h)
    backs (Node (Left b)) h = ap (λ (n : Option ℤ). option_map Node (option_and_then (lettered 79) n)) (IsForm-canonical_64.back b h)
    backs End h = refl

-- a line that is read as that of a mark is its canonical line, and its number is in range
pub read_node : (line : List ℕ) (m : Mark) → item_form line ≡ Some (Node m) → IsMark m × (line ≡ line_bytes (mark_line m))
read_node line m e = let p = IsForm-item_form.read line (Node m) e in (p.1, p.0)

-- a mark in range is read from its canonical line
pub node_back : (m : Mark) → IsMark m → item_form (line_bytes (mark_line m)) ≡ Some (Node m)
node_back m h = IsForm-item_form.back (Node m) h

-- the last line is `end`, and it alone
pub read_end : (line : List ℕ) → item_form line ≡ Some End → line ≡ codes "end"
read_end line e = (IsForm-item_form.read line End e).0

pub end_back : (line : List ℕ) → line ≡ codes "end" → item_form line ≡ Some End
end_back line is = ap item_form is
