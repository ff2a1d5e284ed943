-- Sums over points: as the definitions write them, as a loop makes them, and of numbers that depend on a place by slopes.
use Rattle.std.proofs.Common.{◌≡◌, ℕ, ◌+◌, ◌<◌, ℤ, pos, ◌+ℤ◌, ◌*ℤ◌, ◌≤ℤ◌, Bool, true, false, cond, not, List, [], ◌∷◌, map, fold, filter, length, take, get_or, zero, suc, refl, sym, ap, ◌∙◌, add-one, arith}
use borrow.Author.Differences.{ints, same_in}
use Rattle.siting_definitions.specs.declared.Kind.TheVariants.{Sum}
use Rattle.siting_definitions.specs.Instance.{DemandPt}
use Rattle.siting_definitions.specs.Cost.{terms, total}
use Rattle.siting_definitions.proofs.Integers.{add_mul_ℤ, mul_assoc_ℤ, mul_comm_ℤ}
use Rattle.centre_bound.specs.Cut.{weighted}
use Rattle.centre_bound.specs.Terms.{sum_over}

-- ---- the definitions' sums
sum_from : (z : ℤ) (zs : List ℤ) → fold ◌+ℤ◌ z zs ≡ z +ℤ fold ◌+ℤ◌ (pos 0) zs
sum_from z [] = same_in _ _ (omega (arith, ints))
sum_from z (x ∷ zs) = same_in _ _ (omega (arith, ints, sum_from (z +ℤ x) zs, sum_from (pos 0 +ℤ x) zs))

sum_of_first : (z : ℤ) (zs : List ℤ) → total Sum (z ∷ zs) ≡ z +ℤ total Sum zs
sum_of_first z zs = same_in _ _ (omega (arith, ints, sum_from (pos 0 +ℤ z) zs))

none_added : (z : ℤ) → z ≡ pos 0 +ℤ z
none_added z = same_in _ _ (omega (arith, ints))

first_kept : (f : DemandPt → ℤ) (d : DemandPt) (ds : List DemandPt) (b : Bool)
    → weighted f (cond b (d ∷ ds) ds) ≡ cond b (d.w *ℤ f d) (pos 0) +ℤ weighted f ds
first_kept f d ds true = sum_of_first (d.w *ℤ f d) (map (λ (d : DemandPt). d.w *ℤ f d) ds)
first_kept f d ds false = none_added (weighted f ds)

-- the weighted sum over the points that pass a test
pub weighted-filter : (f : DemandPt → ℤ) (p : DemandPt → Bool) (ds : List DemandPt)
    → weighted f (filter p ds) ≡ sum_over (λ d. cond (p d) (d.w *ℤ f d) (pos 0)) ds
weighted-filter f p [] = refl
weighted-filter f p (d ∷ ds) =
    first_kept f d (filter p ds) (p d) ∙ ap (λ z. cond (p d) (d.w *ℤ f d) (pos 0) +ℤ z) (weighted-filter f p ds)

-- the total of the kind sum
pub sum-terms : (f : DemandPt → ℕ) (ds : List DemandPt)
    → total Sum (terms ds (map f ds)) ≡ sum_over (λ d. d.w *ℤ pos (f d)) ds
sum-terms f [] = refl
sum-terms f (d ∷ ds) =
    sum_of_first (d.w *ℤ pos (f d)) (terms ds (map f ds)) ∙ ap (λ z. d.w *ℤ pos (f d) +ℤ z) (sum-terms f ds)

sixteen_out : (w y : ℤ) → w *ℤ (pos 16 *ℤ y) ≡ pos 16 *ℤ (w *ℤ y)
sixteen_out w y = sym (mul_assoc_ℤ w (pos 16) y) ∙ ap (λ z. z *ℤ y) (mul_comm_ℤ w (pos 16)) ∙ mul_assoc_ℤ (pos 16) w y

either_term : (w x y : ℤ) (b : Bool)
    → cond b (w *ℤ x) (pos 0) +ℤ pos 16 *ℤ cond (not b) (w *ℤ y) (pos 0) ≡ w *ℤ cond b x (pos 16 *ℤ y)
either_term w x y true = nothing_added (w *ℤ x)
  where
    nothing_added : (z : ℤ) → z +ℤ pos 16 *ℤ pos 0 ≡ z
    nothing_added z = same_in _ _ (omega (arith, ints))
either_term w x y false = sym (none_added (pos 16 *ℤ (w *ℤ y))) ∙ sym (sixteen_out w y)

joined : (a b c x y z : ℤ) → a +ℤ pos 16 *ℤ b ≡ c → x +ℤ pos 16 *ℤ y ≡ z → (a +ℤ x) +ℤ pos 16 *ℤ (b +ℤ y) ≡ c +ℤ z
joined a b c x y z h k = same_in _ _ (omega (arith, ints))

-- the sums over the points that pass and over the others, in one
pub joined_sums : (f g : DemandPt → ℤ) (p : DemandPt → Bool) (ds : List DemandPt)
    → weighted f (filter p ds) +ℤ pos 16 *ℤ weighted g (filter (λ d. not (p d)) ds)
    ≡ sum_over (λ d. d.w *ℤ cond (p d) (f d) (pos 16 *ℤ g d)) ds
joined_sums f g p ds = rw (weighted-filter f p ds, weighted-filter g (λ d. not (p d)) ds) (both ds)
  where
    both : (ds : List DemandPt) → sum_over (λ d. cond (p d) (d.w *ℤ f d) (pos 0)) ds +ℤ pos 16 *ℤ sum_over (λ d. cond (not (p d)) (d.w *ℤ g d) (pos 0)) ds ≡ sum_over (λ d. d.w *ℤ cond (p d) (f d) (pos 16 *ℤ g d)) ds
    both [] = refl
    both (d ∷ ds) =
        joined (cond (p d) (d.w *ℤ f d) (pos 0)) (cond (not (p d)) (d.w *ℤ g d) (pos 0)) (d.w *ℤ cond (p d) (f d) (pos 16 *ℤ g d)) (sum_over (λ d. cond (p d) (d.w *ℤ f d) (pos 0)) ds) (sum_over (λ d. cond (not (p d)) (d.w *ℤ g d) (pos 0)) ds) (sum_over (λ d. d.w *ℤ cond (p d) (f d) (pos 16 *ℤ g d)) ds) (either_term d.w (f d) (g d) (p d)) (both ds)

-- ---- sums by slopes
-- where each point's number with its slopes is at most 16 times another, so are the sums
pub sums-le : (f g h k : DemandPt → ℤ) (q : ℕ) (x y : ℤ) (ds : List DemandPt)
    → ((d : DemandPt) → (f d *ℤ pos q +ℤ (g d *ℤ x +ℤ h d *ℤ y)) ≤ℤ (pos 16 *ℤ k d))
    → (sum_over f ds *ℤ pos q +ℤ (sum_over g ds *ℤ x +ℤ sum_over h ds *ℤ y)) ≤ℤ (pos 16 *ℤ sum_over k ds)
sums-le f g h k q x y [] each = omega (arith, ints)
sums-le f g h k q x y (d ∷ ds) each =
    let here = each d in
    let rest = sums-le f g h k q x y ds each in
    rw (add_mul_ℤ (f d) (sum_over f ds) (pos q), add_mul_ℤ (g d) (sum_over g ds) x, add_mul_ℤ (h d) (sum_over h ds) y)
    (omega (arith, ints, here, rest))

-- where each point's number at a place is that at another with its slopes, so are the sums
pub sums-moved : (f e g h : DemandPt → ℤ) (x y : ℤ) (ds : List DemandPt)
    → ((d : DemandPt) → f d ≡ e d +ℤ (g d *ℤ x +ℤ h d *ℤ y))
    → sum_over f ds ≡ sum_over e ds +ℤ (sum_over g ds *ℤ x +ℤ sum_over h ds *ℤ y)
sums-moved f e g h x y [] each = same_in _ _ (omega (arith, ints))
sums-moved f e g h x y (d ∷ ds) each =
    let here = each d in
    let rest = sums-moved f e g h x y ds each in
    rw (add_mul_ℤ (g d) (sum_over g ds) x, add_mul_ℤ (h d) (sum_over h ds) y) (same_in _ _ (omega (arith, ints, here, rest)))

-- ---- a loop over points
sum_over-more : (f : DemandPt → ℤ) (ds : List DemandPt) (i : ℕ) (d : DemandPt) → i < length ds
    → sum_over f (take (suc i) ds) ≡ sum_over f (take i ds) +ℤ f (get_or ds i d)
sum_over-more f [] i d h = absurd (omega arith)
sum_over-more f (x ∷ ds) zero d h = same_in _ _ (omega (arith, ints))
sum_over-more f (x ∷ ds) (suc i) d h =
    let rest = sum_over-more f ds i d (omega arith) in
    same_in _ _ (omega (arith, ints, rest))

pub sum-more : (f : DemandPt → ℤ) (ds : List DemandPt) (i : ℕ) (d : DemandPt) (z t r : ℤ) → i < length ds → d ≡ get_or ds i d
    → z ≡ sum_over f (take i ds) → t ≡ f d → r ≡ z +ℤ t → r ≡ sum_over f (take (i + 1) ds)
sum-more f ds i d z t r within at before term e =
    rw add-one (e ∙ ap (λ z. z +ℤ t) before ∙ ap (λ t. sum_over f (take i ds) +ℤ t) (term ∙ ap f at) ∙ sym (sum_over-more f ds i d within))
