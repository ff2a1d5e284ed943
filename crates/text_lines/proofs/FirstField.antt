-- Where the first field of a line ends.
use Rattle.std.proofs.Common.{◌≡◌, ℕ, zero, suc, ◌<◌, ◌≤◌, true, false, List, [], ◌∷◌, length, get_or, take, drop, refl, ap, ◌∙◌, arith}
use Rattle.text_lines.specs.Lines.{onto, is_gap, begins_with_gap, fields_of}

-- the first i bytes are no gap, and the byte after them, where there is one, is
pub field_to : (start : List ℕ) (i : ℕ) → 0 < i → i ≤ length start → ((k : ℕ) → k < i → is_gap (get_or start k 0) ≡ false) → begins_with_gap (drop i start) ≡ true → fields_of start ≡ take i start ∷ fields_of (drop i start)
field_to [] i some inside none ends = absurd (omega arith)
field_to (b ∷ bs) zero some inside none ends = absurd (omega arith)
field_to (b ∷ bs) (suc zero) some inside none ends =
    let first : is_gap b ≡ false = none 0 (omega arith) in
    rw (first, ends) refl
field_to (b ∷ []) (suc (suc i)) some inside none ends = absurd (omega arith)
field_to (b ∷ c ∷ bs) (suc (suc i)) some inside none ends =
    let first : is_gap b ≡ false = none 0 (omega arith) in
    let second : is_gap c ≡ false = none 1 (omega arith) in
    let rest = field_to (c ∷ bs) (suc i) (omega arith) (omega arith) (λ k below. none (suc k) (omega arith)) ends in
    let here : fields_of (b ∷ c ∷ bs) ≡ onto b (fields_of (c ∷ bs)) = rw (first, second) refl in
    here ∙ ap (onto b) rest

-- the byte at place i is a gap
pub ends_at : (start : List ℕ) (i : ℕ) → i < length start → is_gap (get_or start i 0) ≡ true → begins_with_gap (drop i start) ≡ true
ends_at [] i inside here = absurd (omega arith)
ends_at (b ∷ bs) zero inside here = here
ends_at (b ∷ bs) (suc i) inside here = ends_at bs i (omega arith) here

-- the line ends at place i
pub ends_after : (start : List ℕ) (i : ℕ) → length start ≤ i → begins_with_gap (drop i start) ≡ true
ends_after [] zero inside = refl
ends_after [] (suc i) inside = refl
ends_after (b ∷ bs) zero inside = absurd (omega arith)
ends_after (b ∷ bs) (suc i) inside = ends_after bs i (omega arith)

-- a line that begins with no gap has its first gap after place 0
pub some_before : (start : List ℕ) (i : ℕ) → 0 < length start → begins_with_gap start ≡ false → is_gap (get_or start i 0) ≡ true → 0 < i
some_before [] i some first here = absurd (omega arith)
some_before (b ∷ bs) zero some first here = absurd cc
some_before (b ∷ bs) (suc i) some first here = omega arith
