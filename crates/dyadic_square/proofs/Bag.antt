-- Lists as bags: totals over the elements, which tell whether one list is the other in another order.
use Rattle.std.proofs.Common.{◌≡◌, ℕ, zero, suc, ◌+◌, ◌<◌, ◌≤◌, Bool, true, false, cond, List, [], ◌∷◌, ◌++◌, length, get_or, map, count_by, refl, sym, ◌∙◌, ap, Decides, add-one, arith}
use Rattle.std.specs.List.{sum_by, Contains, remove}
use Rattle.std.specs.List.Sorted.{IsPermutation, IsNonDecreasingBy, IsStrictlyIncreasing}
use Rattle.std.proofs.lemmas.List.Sums.{sum_by-cons}
use Rattle.std.proofs.lemmas.List.Sorted.{IsPermutation-refl, IsPermutation-sym, IsPermutation-cons, IsPermutation-trans, IsPermutation-remove, sum_by-IsPermutation}

-- the sum of a number of each element
abbrev pub total : {X : Type 0} → (X → ℕ) → List X → ℕ
total f [] = 0
total f (x ∷ xs) = f x + total f xs

-- the two lists have the same elements, each as often
abbrev pub SameTotals : {X : Type 0} → List X → List X → Type 0
SameTotals {X} xs ys = (f : X → ℕ) → total f xs ≡ total f ys

-- 1 for true, 0 for false
abbrev pub once : Bool → ℕ
once b = cond b 1 0

pub sum_by-total : {X : Type 0} (f : X → ℕ) → (xs : List X) → sum_by f xs ≡ total f xs
sum_by-total f [] = refl
sum_by-total f (x ∷ xs) = sum_by-cons f x xs ∙ ap (λ n. f x + n) (sum_by-total f xs)

-- to count is to add 1 for each element that passes
pub count_by-total : {X : Type 0} (p : X → Bool) (xs : List X) → count_by p xs ≡ total (λ x. once (p x)) xs
count_by-total p xs = sum_by-total (λ x. once (p x)) xs

-- the total of two lists, one after the other
pub total-append : {X : Type 0} (f : X → ℕ) → (xs ys : List X) → total f (xs ++ ys) ≡ total f xs + total f ys
total-append f [] ys = omega arith
total-append f (x ∷ xs) ys = omega (arith, total-append f xs ys)

-- the total of ones is the length
pub total-length : {X : Type 0} → (xs : List X) → total (λ _. 1) xs ≡ length xs
total-length [] = refl
total-length (x ∷ xs) = omega (arith, total-length xs)

-- a permutation has the same total
pub total-permutation : {X : Type 0} (f : X → ℕ) (xs ys : List X) → IsPermutation xs ys → total f ys ≡ total f xs
total-permutation f xs ys p =
    sym (sum_by-total f ys) ∙ sum_by-IsPermutation f xs ys p ∙ sum_by-total f xs

-- and so the same totals of all numbers
pub totals_from_permutation : {X : Type 0} (xs ys : List X) → IsPermutation xs ys → SameTotals xs ys
totals_from_permutation xs ys p f = sym (total-permutation f xs ys p)

-- lists with the same totals are equally long
pub length-SameTotals : {X : Type 0} (xs ys : List X) → SameTotals xs ys → length xs ≡ length ys
length-SameTotals xs ys s = sym (total-length xs) ∙ s (λ _. 1) ∙ total-length ys

-- what is left of two bags without an element that both have
pub SameTotals-rest : {X : Type 0} (x : X) (xs ys : List X) → SameTotals (x ∷ xs) (x ∷ ys) → SameTotals xs ys
SameTotals-rest x xs ys s f = let e : f x + total f xs ≡ f x + total f ys = s f in omega arith

-- an element of which some stand in a list stands at some index
pub found : {X : Type 0} (p : X → Bool) → (xs : List X) → 0 < total (λ x. once (p x)) xs → (i : ℕ) × (i < length xs) × ((d : X) → p (get_or xs i d) ≡ true)
found p [] h = absurd (omega arith)
found {X} p (x ∷ xs) h = found_by p x xs (p x) refl (found p xs) h
  where
    found_by : {X : Type 0} (p : X → Bool) (x : X) (xs : List X) (b : Bool) → p x ≡ b → (0 < total (λ x. once (p x)) xs → (i : ℕ) × (i < length xs) × ((d : X) → p (get_or xs i d) ≡ true)) → 0 < once (p x) + total (λ x. once (p x)) xs → (i : ℕ) × (i < suc (length xs)) × ((d : X) → p (get_or (x ∷ xs) i d) ≡ true)
    found_by p x xs true e later h = (0, omega arith, λ d. e)
    found_by p x xs false e later h =
        let none : once (p x) ≡ 0 = ap once e in
        let r = later (omega arith) in
        (suc r.0, omega (arith, r.1), r.2)

-- where equality can be tested, the other list has the first element
pub contains_from_totals : {X : Type 0} (same : X → X → Bool) (decides : (a b : X) → Decides (same a b) (a ≡ b)) → (x : X) (xs ys : List X) → SameTotals (x ∷ xs) ys → Contains ys x
contains_from_totals same decides x xs ys s =
    let yes : once (same x x) ≡ 1 = ap once ((decides x x).1 refl) in
    let e : once (same x x) + total (λ z. once (same x z)) xs ≡ total (λ z. once (same x z)) ys = s (λ z. once (same x z)) in
    let at = found (same x) ys (omega arith) in
    (at.0, at.1, sym ((decides x (get_or ys at.0 x)).0 (at.2 x)))

-- so that lists with the same totals are permutations
pub permutation_from_totals : {X : Type 0} (same : X → X → Bool) (decides : (a b : X) → Decides (same a b) (a ≡ b)) → (xs ys : List X) → SameTotals xs ys → IsPermutation xs ys
permutation_from_totals same decides [] [] s = IsPermutation-refl []
permutation_from_totals same decides [] (y ∷ ys) s = absurd (omega (arith, length-SameTotals [] (y ∷ ys) s))
permutation_from_totals same decides (x ∷ xs) ys s =
    let at = contains_from_totals same decides x xs ys s in
    let taken = IsPermutation-remove ys at.0 x at.1 (sym at.2) in
    let rest = SameTotals-rest x xs (remove ys at.0) (λ f. s f ∙ totals_from_permutation ys (x ∷ remove ys at.0) taken f) in
    IsPermutation-trans (x ∷ xs) (x ∷ remove ys at.0) ys
    (IsPermutation-cons x xs (remove ys at.0) (permutation_from_totals same decides xs (remove ys at.0) rest))
    (IsPermutation-sym ys (x ∷ remove ys at.0) taken)

-- the elements' numbers rise strictly, from low on and all below high
abbrev pub Rising : {X : Type 0} → (X → ℕ) → ℕ → List X → ℕ → Type 0
Rising n low [] high = low ≤ high
Rising n low (x ∷ xs) high = (low ≤ n x) × Rising n (n x + 1) xs high

-- a list that rises between two bounds rises between wider ones
pub Rising-within : {X : Type 0} (n : X → ℕ) → (xs : List X) (low high low' high' : ℕ) → low' ≤ low → high ≤ high' → Rising n low xs high → Rising n low' xs high'
Rising-within n [] low high low' high' l h r = omega arith
Rising-within n (x ∷ xs) low high low' high' l h r =
    (omega (arith, r.0), Rising-within n xs (n x + 1) high (n x + 1) high' (omega arith) h r.1)

-- two lists that rise one after the other make one
pub Rising-append : {X : Type 0} (n : X → ℕ) → (xs ys : List X) (low mid high : ℕ) → Rising n low xs mid → Rising n mid ys high → Rising n low (xs ++ ys) high
Rising-append n [] ys low mid high l r = Rising-within n ys mid high low high l (omega arith) r
Rising-append n (x ∷ xs) ys low mid high l r = (l.0, Rising-append n xs ys (n x + 1) mid high l.1 r)

-- the number of each element is at least low
pub Rising-element : {X : Type 0} (n : X → ℕ) → (xs : List X) (low high : ℕ) → Rising n low xs high → (k : ℕ) (d : X) → k < length xs → low ≤ n (get_or xs k d)
Rising-element n [] low high r k d h = absurd (omega arith)
Rising-element n (x ∷ xs) low high r zero d h = r.0
Rising-element n (x ∷ xs) low high r (suc k) d h =
    omega (arith, r.0, Rising-element n xs (n x + 1) high r.1 k d (omega arith))

Rising-step : {X : Type 0} (n : X → ℕ) → (xs : List X) (low high : ℕ) → Rising n low xs high → (k : ℕ) → suc k < length (map n xs) → get_or (map n xs) k 0 < get_or (map n xs) (suc k) 0
Rising-step n [] low high r k h = absurd (omega arith)
Rising-step n (x ∷ []) low high r k h = absurd (omega arith)
Rising-step n (x ∷ y ∷ xs) low high r zero h = omega (arith, r.1.0)
Rising-step n (x ∷ y ∷ xs) low high r (suc k) h = Rising-step n (y ∷ xs) (n x + 1) high r.1 k (omega arith)

-- the numbers of a list that rises are strictly increasing
pub increasing_from_Rising : {X : Type 0} (n : X → ℕ) (xs : List X) (low high : ℕ) → Rising n low xs high → IsStrictlyIncreasing (map n xs)
increasing_from_Rising n xs low high r k h = rw (add-one k) (Rising-step n xs low high r k (omega arith))

-- the head of a list whose numbers rise is the one element whose number is at most its own
head_is : {X : Type 0} (n : X → ℕ) (x y : X) (ys : List X) (low high k : ℕ) → Rising n low (y ∷ ys) high → k < length (y ∷ ys) → get_or (y ∷ ys) k x ≡ x → n x ≤ n y → x ≡ y
head_is n x y ys low high zero r h at lower = sym at
head_is n x y ys low high (suc k) r h at lower =
    let far : n y + 1 ≤ n (get_or ys k x) = Rising-element n ys (n y + 1) high r.1 k x (omega arith) in
    absurd (omega (arith, far, ap n at))

-- a sorted list is the one whose numbers rise strictly, where both have the same elements
pub sorted_same : {X : Type 0} (same : X → X → Bool) (decides : (a b : X) → Decides (same a b) (a ≡ b)) (n : X → ℕ) → (xs ys : List X) (low high : ℕ) → SameTotals xs ys → IsNonDecreasingBy n xs → Rising n low ys high → xs ≡ ys
sorted_same same decides n [] [] low high s sorted rising = refl
sorted_same same decides n [] (y ∷ ys) low high s sorted rising = absurd (omega (arith, length-SameTotals [] (y ∷ ys) s))
sorted_same same decides n (x ∷ xs) [] low high s sorted rising = absurd (omega (arith, length-SameTotals (x ∷ xs) [] s))
sorted_same same decides n (x ∷ xs) (y ∷ ys) low high s sorted rising =
    let here = contains_from_totals same decides x xs (y ∷ ys) s in
    let there = contains_from_totals same decides y ys (x ∷ xs) (λ f. sym (s f)) in
    let lower : n x ≤ n (get_or (x ∷ xs) there.0 y) = sorted 0 there.0 y (omega arith) there.1 in
    let head : x ≡ y = head_is n x y ys low high here.0 rising here.1 here.2 (omega (arith, lower, ap n there.2)) in
    let rest : SameTotals xs ys = SameTotals-rest x xs ys (λ f. s f ∙ ap (λ z. f z + total f ys) (sym head)) in
    let tail : xs ≡ ys = sorted_same same decides n xs ys (n y + 1) high rest (λ i j d p q. sorted (suc i) (suc j) d (omega arith) (omega arith)) rising.1 in
    cc
