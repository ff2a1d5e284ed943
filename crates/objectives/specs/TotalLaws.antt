-- The sum and the greatest of terms keep the law of totals. The proofs stand among the specs, since
-- the ghost members of an impl, which name them, cite specs alone.
use Rattle.std.proofs.Common.{◌≡◌, ℕ, ◌+◌, ◌*◌, ◌≤◌, ℤ, pos, negsuc, zero, suc}
use Rattle.std.proofs.Common.{◌+ℤ◌, ◌*ℤ◌, ◌≤ℤ◌, ◌<ℤ◌, List, [], ◌∷◌, map, fold}
use Rattle.std.proofs.Common.{Option, None, Some, refl, sym, ap, ◌∙◌, arith}
use Rattle.std.proofs.Math.Nat.{mul-le-mul_left}
use Rattle.std.specs.Prelude.{unsigned_abs, unwrap_or}
use Rattle.std.specs.Int.{int_max}
use Rattle.std.proofs.lemmas.Int.{clamps, unsigned_abs-mul}
use borrow.Author.Differences.{ints, same_in}
use Rattle.siting_definitions.specs.declared.Kind.{Kind}
use Rattle.siting_definitions.specs.declared.Kind.TheVariants.{Sum, Max}
use Rattle.siting_definitions.specs.Cost.{total}
use Rattle.siting_definitions.proofs.Integers.{mul_assoc_ℤ}
use Rattle.siting_definitions.proofs.Totals.{AreBelow, total-mono, total-scaled}
use Rattle.objectives.specs.Totals.{sum_joined, max_joined, joined_over}
use Rattle.objectives.specs.Totals.{total_by, Grow, size_of, IsTotal}

-- ---- the terms
-- each weight times its radius
products : List ℤ → List ℕ → List ℤ
products (w ∷ ws) (r ∷ rs) = (w *ℤ pos r) ∷ products ws rs
products [] rs = []
products (w ∷ ws) [] = []

-- a product grows with its radius where the weight is above 0, and falls where it is below
term_rises : (w : ℤ) (r s : ℕ) → (pos 0 <ℤ w → r ≤ s) → (w <ℤ pos 0 → s ≤ r)
    → (w *ℤ pos r) ≤ℤ (w *ℤ pos s)
term_rises (pos zero) r s up down = omega (arith, ints)
term_rises (pos (suc n)) r s up down =
    let e : suc n * r ≤ suc n * s = mul-le-mul_left (suc n) (up (omega (arith, ints))) in
    omega (arith, ints, e)
term_rises (negsuc n) r s up down =
    let e : suc n * s ≤ suc n * r = mul-le-mul_left (suc n) (down (omega (arith, ints))) in
    omega (arith, ints, e)

-- so do the products of a list
products_rise : (ws : List ℤ) (rs ss : List ℕ) → Grow ws rs ss
    → AreBelow (products ws rs) (products ws ss)
unfolding products
products_rise [] [] [] h = tt
products_rise [] [] (s ∷ ss) h = absurd h
products_rise [] (r ∷ rs) ss h = absurd h
products_rise (w ∷ ws) [] ss h = absurd h
products_rise (w ∷ ws) (r ∷ rs) [] h = absurd h
products_rise (w ∷ ws) (r ∷ rs) (s ∷ ss) h = (term_rises w r s h.0 h.1, products_rise ws rs ss h.2)

-- a factor of the radius is a factor of the product
term_scales : (w : ℤ) (r k : ℕ) → w *ℤ pos (r * k) ≡ (w *ℤ pos r) *ℤ pos k
term_scales w r k = sym (mul_assoc_ℤ w (pos r) (pos k))

-- so it is of the products of a list
products_scale : (ws : List ℤ) (rs : List ℕ) (k : ℕ)
    → products ws (map (λ r. r * k) rs) ≡ map (λ z. z *ℤ pos k) (products ws rs)
unfolding products
products_scale [] rs k = refl
products_scale (w ∷ ws) [] k = refl
products_scale (w ∷ ws) (r ∷ rs) k = rw (term_scales w r k, products_scale ws rs k) refl

-- ---- joined over a list
-- the sum so far, and those of the products that are still to come
sum_over : (t : ℤ) (ws : List ℤ) (rs : List ℕ)
    → joined_over sum_joined (Some t) ws rs ≡ Some (fold ◌+ℤ◌ t (products ws rs))
unfolding products
sum_over t [] rs = refl
sum_over t (w ∷ ws) [] = refl
sum_over t (w ∷ ws) (r ∷ rs) = sum_over (t +ℤ w *ℤ pos r) ws rs

-- the greatest so far, with those that are still to come
max_over : (t : ℤ) (ws : List ℤ) (rs : List ℕ)
    → joined_over max_joined (Some t) ws rs ≡ Some (fold int_max t (products ws rs))
unfolding products
max_over t [] rs = refl
max_over t (w ∷ ws) [] = refl
max_over t (w ∷ ws) (r ∷ rs) = max_over (int_max t (w *ℤ pos r)) ws rs

-- 0 more is no more
pub zero_more : (z : ℤ) → pos 0 +ℤ z ≡ z
zero_more z = same_in _ _ (omega (arith, ints))

-- joined from nothing on, it is the sum of the products
sum_by_total : (ws : List ℤ) (rs : List ℕ) → total_by sum_joined ws rs ≡ total Sum (products ws rs)
unfolding products
sum_by_total [] rs = refl
sum_by_total (w ∷ ws) [] = refl
sum_by_total (w ∷ ws) (r ∷ rs) =
    ap (λ o. unwrap_or o (pos 0)) (sum_over (w *ℤ pos r) ws rs)
    ∙ ap (λ z. fold ◌+ℤ◌ z (products ws rs)) (sym (zero_more (w *ℤ pos r)))

-- and the greatest of them
max_by_total : (ws : List ℤ) (rs : List ℕ) → total_by max_joined ws rs ≡ total Max (products ws rs)
unfolding products
max_by_total [] rs = refl
max_by_total (w ∷ ws) [] = refl
max_by_total (w ∷ ws) (r ∷ rs) = ap (λ o. unwrap_or o (pos 0)) (max_over (w *ℤ pos r) ws rs)

-- ---- the law
-- one more product adds at most its own size
sum_grows_by : (so_far : Option ℤ) (w : ℤ) (r : ℕ)
    → unsigned_abs (sum_joined so_far w r) ≤ size_of so_far + unsigned_abs w * r
sum_grows_by None w r = omega (arith, unsigned_abs-mul w (pos r))
sum_grows_by (Some t) w r = omega (arith, ints, unsigned_abs-mul w (pos r))

-- to the greatest of them too
max_grows_by : (so_far : Option ℤ) (w : ℤ) (r : ℕ)
    → unsigned_abs (max_joined so_far w r) ≤ size_of so_far + unsigned_abs w * r
max_grows_by None w r = omega (arith, unsigned_abs-mul w (pos r))
max_grows_by (Some t) w r = omega (arith, ints, clamps, unsigned_abs-mul w (pos r))

-- what joins the products of a list to a total keeps the law of totals
is_total : (kind : Kind) (joined : Option ℤ → ℤ → ℕ → ℤ)
    → ((ws : List ℤ) (rs : List ℕ) → total_by joined ws rs ≡ total kind (products ws rs))
    → ((so_far : Option ℤ) (w : ℤ) (r : ℕ)
    → unsigned_abs (joined so_far w r) ≤ size_of so_far + unsigned_abs w * r)
    → IsTotal joined
is_total kind joined by_total grows_by = record {
  rises = λ ws rs ss h.
      rw (by_total ws rs, by_total ws ss) (total-mono kind _ _ (products_rise ws rs ss h));
  scales = λ ws rs k.
      rw (by_total ws (map (λ r. r * k) rs), by_total ws rs, products_scale ws rs k)
      (total-scaled kind (products ws rs) k);
  grows_by = grows_by;
}

-- the sum keeps it
pub sum_is_total : IsTotal sum_joined
sum_is_total = is_total Sum sum_joined sum_by_total sum_grows_by

-- and the greatest keeps it
pub max_is_total : IsTotal max_joined
max_is_total = is_total Max max_joined max_by_total max_grows_by
