-- Where the first piece of a text ends.
use Rattle.std.proofs.Common.{◌≡◌, ℕ, zero, suc, ◌<◌, eqb, true, false, List, [], ◌∷◌, length, get_or, take, drop, refl, ap, ◌∙◌, arith}
use Rattle.text_lines.specs.Lines.{onto, pieces_of}

-- the first line feed stands at place i
pub piece_at : (bytes : List ℕ) (i : ℕ) → i < length bytes → ((k : ℕ) → k < i → eqb (get_or bytes k 0) 10 ≡ false) → eqb (get_or bytes i 0) 10 ≡ true → pieces_of bytes ≡ take i bytes ∷ pieces_of (drop (suc i) bytes)
piece_at [] i inside none here = absurd (omega arith)
piece_at (b ∷ bs) zero inside none here = rw here refl
piece_at (b ∷ bs) (suc i) inside none here =
    let first : eqb b 10 ≡ false = none 0 (omega arith) in
    let rest = piece_at bs i (omega arith) (λ k below. none (suc k) (omega arith)) here in
    let here : pieces_of (b ∷ bs) ≡ onto b (pieces_of bs) = rw first refl in
    here ∙ ap (onto b) rest

-- there is no line feed
pub piece_all : (bytes : List ℕ) → 0 < length bytes → ((k : ℕ) → k < length bytes → eqb (get_or bytes k 0) 10 ≡ false) → pieces_of bytes ≡ bytes ∷ []
piece_all [] some none = absurd (omega arith)
piece_all (b ∷ []) some none = let first : eqb b 10 ≡ false = none 0 (omega arith) in rw first refl
piece_all (b ∷ c ∷ bs) some none =
    let first : eqb b 10 ≡ false = none 0 (omega arith) in
    let rest = piece_all (c ∷ bs) (omega arith) (λ k below. none (suc k) (omega arith)) in
    let here : pieces_of (b ∷ c ∷ bs) ≡ onto b (pieces_of (c ∷ bs)) = rw first refl in
    here ∙ ap (onto b) rest
