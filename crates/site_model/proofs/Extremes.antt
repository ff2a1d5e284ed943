-- The least and the greatest number of lists that are joined, and limits of them.
use Rattle.std.proofs.Common.{◌≡◌, ℕ, suc, ◌<◌, List, [], ◌∷◌, ◌++◌, length, map, ℤ, pos, ◌*ℤ◌, ◌≤ℤ◌, refl, ap, ◌∙◌, arith}
use Rattle.std.specs.List.{fold}
use Rattle.std.specs.Int.{int_max, int_min}
use Rattle.std.proofs.lemmas.Int.{clamps}
use Rattle.std.proofs.lemmas.List.Sums.{fold-append}
use borrow.Author.Differences.{ints, same_in}
use Rattle.siting_definitions.proofs.Integers.{int_min-assoc}
use Rattle.siting_definitions.specs.Integer.{least, greatest}
use Rattle.siting_definitions.specs.Point.{Place}
use Rattle.siting_definitions.specs.Polygon.{vertex}

-- ---- joined lists
max_assoc : (a b c : ℤ) → int_max (int_max a b) c ≡ int_max a (int_max b c)
max_assoc a b c = same_in _ _ (omega (arith, ints, clamps))

fold_from : (f : ℤ → ℤ → ℤ) → ((a b c : ℤ) → f (f a b) c ≡ f a (f b c)) → (a y : ℤ) (ys : List ℤ) → fold f (f a y) ys ≡ f a (fold f y ys)
fold_from f assoc a y [] = refl
fold_from f assoc a y (z ∷ zs) = ap (λ b. fold f b zs) (assoc a y z) ∙ fold_from f assoc a (f y z) zs

-- the least number of two lists is the lesser of the least of each
pub least-append : (xs ys : List ℤ) → 0 < length xs → 0 < length ys → least (xs ++ ys) ≡ int_min (least xs) (least ys)
least-append [] ys some more = absurd (omega arith)
least-append (x ∷ xs) [] some more = absurd (omega arith)
least-append (x ∷ xs) (y ∷ ys) some more = fold-append int_min x xs (y ∷ ys) ∙ fold_from int_min int_min-assoc (fold int_min x xs) y ys

-- and the greatest likewise
pub greatest-append : (xs ys : List ℤ) → 0 < length xs → 0 < length ys → greatest (xs ++ ys) ≡ int_max (greatest xs) (greatest ys)
greatest-append [] ys some more = absurd (omega arith)
greatest-append (x ∷ xs) [] some more = absurd (omega arith)
greatest-append (x ∷ xs) (y ∷ ys) some more = fold-append int_max x xs (y ∷ ys) ∙ fold_from int_max max_assoc (fold int_max x xs) y ys

-- the lesser of two numbers in grid units
pub min_scaled : (a b : ℤ) → pos 65536 *ℤ int_min a b ≡ int_min (pos 65536 *ℤ a) (pos 65536 *ℤ b)
min_scaled a b = same_in _ _ (omega (arith, ints, clamps))

-- and the greater
pub max_scaled : (a b : ℤ) → pos 65536 *ℤ int_max a b ≡ int_max (pos 65536 *ℤ a) (pos 65536 *ℤ b)
max_scaled a b = same_in _ _ (omega (arith, ints, clamps))

-- ---- a bound of each number is one of the least, or of the greatest
fold_min_from_below : (h : Place → ℤ) (b a : ℤ) (vs : List Place) → b ≤ℤ a → ((k : ℕ) → k < length vs → b ≤ℤ (h (vertex vs k))) → b ≤ℤ (fold int_min a (map h vs))
fold_min_from_below h b a [] first each = first
fold_min_from_below h b a (v ∷ vs) first each =
    let here : b ≤ℤ (h v) = each 0 (omega arith) in
    fold_min_from_below h b (int_min a (h v)) vs (omega (arith, ints, clamps)) (λ k within. each (suc k) (omega arith))

fold_max_from_above : (h : Place → ℤ) (b a : ℤ) (vs : List Place) → a ≤ℤ b → ((k : ℕ) → k < length vs → (h (vertex vs k)) ≤ℤ b) → (fold int_max a (map h vs)) ≤ℤ b
fold_max_from_above h b a [] first each = first
fold_max_from_above h b a (v ∷ vs) first each =
    let here : (h v) ≤ℤ b = each 0 (omega arith) in
    fold_max_from_above h b (int_max a (h v)) vs (omega (arith, ints, clamps)) (λ k within. each (suc k) (omega arith))

-- a number that is below all of a list is below its least
pub least_from_below : (h : Place → ℤ) (b : ℤ) (vs : List Place) → 0 < length vs → ((k : ℕ) → k < length vs → b ≤ℤ (h (vertex vs k))) → b ≤ℤ (least (map h vs))
least_from_below h b [] some each = absurd (omega arith)
least_from_below h b (v ∷ vs) some each = fold_min_from_below h b (h v) vs (each 0 (omega arith)) (λ k within. each (suc k) (omega arith))

-- and one that is above all is above its greatest
pub greatest_from_above : (h : Place → ℤ) (b : ℤ) (vs : List Place) → 0 < length vs → ((k : ℕ) → k < length vs → (h (vertex vs k)) ≤ℤ b) → (greatest (map h vs)) ≤ℤ b
greatest_from_above h b [] some each = absurd (omega arith)
greatest_from_above h b (v ∷ vs) some each = fold_max_from_above h b (h v) vs (each 0 (omega arith)) (λ k within. each (suc k) (omega arith))
