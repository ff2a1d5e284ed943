-- The fine bound is a cost that no rational point of the closed square falls below, and the two costs of a site enclose its
-- cost: each because its radii are low, or high, for the point at one scale.
use Rattle.std.proofs.Common.{◌≡◌, ℕ, ◌*◌, ◌^◌, ◌≤◌, ◌<◌, min, ℤ, pos, negsuc, ◌*ℤ◌, ◌≤ℤ◌, ◌<ℤ◌, List, [], ◌∷◌, map, Option, None, Some, true, refl, sym, ap, ◌∙◌, subst, ◌⊎◌, inl, inr, ⊎_elim, arith}
use Rattle.std.proofs.Math.Nat.{mul-le-mul_left}
use Rattle.std.proofs.lemmas.Bool.{cases_lt, cond-true, cond-false}
use Rattle.std.specs.Prelude.{⊤, unsigned_abs, MatchOption, neg_ℤ}
use borrow.Author.Differences.{ints}
use Rattle.siting_definitions.specs.Integer.{round_down, round_up}
use Rattle.siting_definitions.specs.Root.{floor_root, ceil_root}
use Rattle.siting_definitions.specs.Point.{Pt, Point, point_of}
use Rattle.siting_definitions.specs.Instance.{DemandPt, Instance, place_of}
use Rattle.siting_definitions.specs.Cost.{distance2, IsAbove, IsBelow, IsHighAt, IsLowAt, AreHigh, AreLow, terms, total, total_of, CostAtLeast, CostAtMost}
use Rattle.siting_definitions.specs.Square.{Square, holds_closed}
use Rattle.siting_definitions.specs.Bounds.{near2, far2, capped, by_sign, fine_radius, lower_radius, upper_radius, fine_of, lower_of, upper_of}
use Rattle.siting_definitions.proofs.Integers.{square_le, mul_le_ℤ, mul_assoc_ℤ, lt-int_lt, le-int_lt}
use Rattle.siting_definitions.proofs.Totals.{total-scaled}
use Rattle.siting_definitions.proofs.CostLemmas.{low_radii_bound, high_radii_cost}
use Rattle.root_enclosure.proofs.RootLemmas.{floor_root-is, ceil_root-is}
use Rattle.dist_bounds.proofs.DistanceLemmas.{near2-below, far2-above}

-- ---- a capped root, times t, as a radius at the scale m
-- t times a number whose square is at most N, squared
scaled_square : (t f N K : ℕ) → f * f ≤ N → t * t * N ≤ K → (t * f) * (t * f) ≤ K
scaled_square t f N K h k = let e : t * t * (f * f) ≤ t * t * N = mul-le-mul_left (t * t) h in omega (arith, e)

-- t times a number whose square is at least N, squared
square_scaled : (t c N K : ℕ) → N ≤ c * c → K ≤ t * t * N → K ≤ (t * c) * (t * c)
square_scaled t c N K h k = let e : t * t * N ≤ t * t * (c * c) = mul-le-mul_left (t * t) h in omega (arith, e)

less_square : (f g N : ℕ) → g ≤ f → f * f ≤ N → g * g ≤ N
less_square f g N h k = let e : g * g ≤ f * f = square_le g f h in omega arith

-- a capped radius is at most the radius
pub capped_le : (o : Option ℤ) (unit r : ℕ) → capped o unit r ≤ r
capped_le None unit r = omega arith
capped_le (Some c) unit r = omega arith

cap_times : (t u m q c r : ℕ) → t * u ≡ m * q → t * min r (u * c) ≤ m * q * c
cap_times t u m q c r e =
    let f : t * min r (u * c) ≤ t * (u * c) = mul-le-mul_left t (omega arith) in
    let g : t * u * c ≡ m * q * c = ap (λ n. n * c) e in
    omega (arith, f, g)

-- a capped radius is at most the cutoff
below_cap : (o : Option ℤ) (t u m q r : ℕ) → t * u ≡ m * q → MatchOption o ⊤ (λ c. t * capped o u r ≤ m * q * unsigned_abs c)
below_cap None t u m q r e = tt
below_cap (Some c) t u m q r e = cap_times t u m q (unsigned_abs c) r e

-- a capped radius is above what the radius is above, or at least the cutoff
above_either : (o : Option ℤ) (t u m q r K : ℕ) → t * u ≡ m * q → K ≤ (t * r) * (t * r) → (K ≤ (t * capped o u r) * (t * capped o u r)) ⊎ MatchOption o ⊥ (λ c. m * q * unsigned_abs c ≤ t * capped o u r)
above_either None t u m q r K e h = inl h
above_either (Some c) t u m q r K e h =
    ⊎_elim
    (λ (less : r < u * unsigned_abs c). let same : min r (u * unsigned_abs c) ≡ r = omega arith in inl (subst (λ n. K ≤ (t * n) * (t * n)) (sym same) h))
    (λ (more : u * unsigned_abs c ≤ r).
    let same : min r (u * unsigned_abs c) ≡ u * unsigned_abs c = omega arith in
    let f : t * u * unsigned_abs c ≡ m * q * unsigned_abs c = ap (λ n. n * unsigned_abs c) e in
    inr (subst (λ n. m * q * unsigned_abs c ≤ t * n) (sym same) (omega (arith, f))))
    (cases_lt r (u * unsigned_abs c))

-- a root rounded down, capped, is a radius below the distance
pub root_below : (d : DemandPt) (p : Point) (t u m N : ℕ) → t * u ≡ m * p.q → t * t * N ≤ m * m * distance2 (place_of d) p → IsBelow d p m (t * capped d.cutoff u (floor_root N))
root_below d p t u m N e h =
    (scaled_square t _ N _ (less_square (floor_root N) _ N (capped_le d.cutoff u (floor_root N)) (floor_root-is N).at_most) h, below_cap d.cutoff t u m p.q (floor_root N) e)

-- a root rounded up, capped, is a radius above the distance or the cutoff
pub root_above : (d : DemandPt) (p : Point) (t u m N : ℕ) → t * u ≡ m * p.q → m * m * distance2 (place_of d) p ≤ t * t * N → IsAbove d p m (t * capped d.cutoff u (ceil_root N))
root_above d p t u m N e h =
    above_either d.cutoff t u m p.q (ceil_root N) _ e (square_scaled t (ceil_root N) N _ (ceil_root-is N).at_least h)

-- ---- by the sign of the weight
pub at_positive : (d : DemandPt) (a b : ℕ) → pos 0 <ℤ d.w → by_sign d a b ≡ a
at_positive d a b h = cond-true _ a b (lt-int_lt (pos 0) d.w h)

-- and of a point that repels
pub at_negative : (d : DemandPt) (a b : ℕ) → d.w ≤ℤ pos 0 → by_sign d a b ≡ b
at_negative d a b h = cond-false _ a b (le-int_lt (pos 0) d.w h)

not_positive : (w : ℤ) → w <ℤ pos 0 → w ≤ℤ pos 0
not_positive w h = omega (arith, ints)

-- a radius that is below where the point attracts, and one that is above where it repels, make a low one
pub low_by_sign : (d : DemandPt) (p : Point) (t m a b : ℕ) → IsBelow d p m (t * a) → IsAbove d p m (t * b) → IsLowAt d p m (t * by_sign d a b)
low_by_sign d p t m a b below above = record {
  attracting = λ up. subst (λ r. IsBelow d p m (t * r)) (sym (at_positive d a b up)) below;
  repelling = λ down. subst (λ r. IsAbove d p m (t * r)) (sym (at_negative d a b (not_positive d.w down))) above;
}

-- and the other way round a high one
pub high_by_sign : (d : DemandPt) (p : Point) (t m a b : ℕ) → IsAbove d p m (t * a) → IsBelow d p m (t * b) → IsHighAt d p m (t * by_sign d a b)
high_by_sign d p t m a b above below = record {
  attracting = λ up. subst (λ r. IsAbove d p m (t * r)) (sym (at_positive d a b up)) above;
  repelling = λ down. subst (λ r. IsBelow d p m (t * r)) (sym (at_negative d a b (not_positive d.w down))) below;
}

-- ---- the radii of bounds and costs
-- those of the fine bound are low for each point of the closed square
pub fine_low : (s : Square) (p : Point) → holds_closed s p ≡ true → (d : DemandPt) → IsLowAt d p (2 ^ 32) (p.q * fine_radius s d)
unfolding fine_radius
fine_low s p h d =
    let near : near2 s (place_of d) * (p.q * p.q) ≤ 2 ^ 32 * distance2 (place_of d) p = near2-below s (place_of d) p h in
    let far : 2 ^ 32 * distance2 (place_of d) p ≤ far2 s (place_of d) * (p.q * p.q) = far2-above s (place_of d) p h in
    low_by_sign d p p.q (2 ^ 32) _ _ (root_below d p p.q (2 ^ 32) (2 ^ 32) (near2 s (place_of d) * 2 ^ 32) (omega arith) (omega (arith, near)))
    (root_above d p p.q (2 ^ 32) (2 ^ 32) (far2 s (place_of d) * 2 ^ 32) (omega arith) (omega (arith, far)))

-- those of a site's lower cost are low for the site
lower_low : (z : Pt) (d : DemandPt) → IsLowAt d (point_of z) 65536 (1 * lower_radius z d)
unfolding lower_radius
lower_low z d =
    low_by_sign d (point_of z) 1 65536 _ _ (root_below d (point_of z) 1 (2 ^ 32) 65536 (distance2 (place_of d) (point_of z) * 2 ^ 32) refl (omega arith))
    (root_above d (point_of z) 1 (2 ^ 32) 65536 (distance2 (place_of d) (point_of z) * 2 ^ 32) refl (omega arith))

-- those of its upper cost are high
upper_high : (z : Pt) (d : DemandPt) → IsHighAt d (point_of z) 65536 (1 * upper_radius z d)
unfolding upper_radius
upper_high z d =
    high_by_sign d (point_of z) 1 65536 _ _ (root_above d (point_of z) 1 (2 ^ 32) 65536 (distance2 (place_of d) (point_of z) * 2 ^ 32) refl (omega arith))
    (root_below d (point_of z) 1 (2 ^ 32) 65536 (distance2 (place_of d) (point_of z) * 2 ^ 32) refl (omega arith))

-- radii that are low, or high, for each demand point are so for a list of them
pub all_low : (f : DemandPt → ℕ) (p : Point) (m : ℕ) → ((d : DemandPt) → IsLowAt d p m (f d)) → (ds : List DemandPt) → AreLow ds p m (map f ds)
all_low f p m h [] = tt
all_low f p m h (d ∷ ds) = (h d, all_low f p m h ds)

-- and likewise high ones
pub all_high : (f : DemandPt → ℕ) (p : Point) (m : ℕ) → ((d : DemandPt) → IsHighAt d p m (f d)) → (ds : List DemandPt) → AreHigh ds p m (map f ds)
all_high f p m h [] = tt
all_high f p m h (d ∷ ds) = (h d, all_high f p m h ds)

-- ---- a total of radii that are all multiplied
term_scaled : (w : ℤ) (t r : ℕ) → w *ℤ pos (t * r) ≡ (w *ℤ pos r) *ℤ pos t
term_scaled w t r = ap (λ n. w *ℤ pos n) (omega arith) ∙ sym (mul_assoc_ℤ w (pos r) (pos t))

terms_scaled : (f : DemandPt → ℕ) (t : ℕ) (ds : List DemandPt) → terms ds (map (λ d. t * f d) ds) ≡ map (λ z. z *ℤ pos t) (terms ds (map f ds))
terms_scaled f t [] = refl
terms_scaled f t (d ∷ ds) = rw (term_scaled d.w t (f d), terms_scaled f t ds) refl

-- the total is multiplied by what every radius is multiplied by
pub total_of-scaled : (i : Instance) (f : DemandPt → ℕ) (t : ℕ) → total_of i (map (λ d. t * f d) i.points) ≡ total_of i (map f i.points) *ℤ pos t
unfolding total_of
total_of-scaled i f t = ap (total i.kind) (terms_scaled f t i.points) ∙ total-scaled i.kind (terms i.points (map f i.points)) t

-- ---- rounding
-- a quotient rounded down is the greatest that isn't above, and one rounded up isn't below
pub round_down-le : (z : ℤ) → (pos 65536 *ℤ round_down z) ≤ℤ z
round_down-le (pos n) = omega (arith, ints)
round_down-le (negsuc n) = omega (arith, ints)

-- and none that isn't above is greater
pub le-round_down : (z t : ℤ) → (pos 65536 *ℤ t) ≤ℤ z → t ≤ℤ round_down z
le-round_down (pos n) t h = omega (arith, ints)
le-round_down (negsuc n) t h = omega (arith, ints)

pub le-round_up : (z : ℤ) → z ≤ℤ (pos 65536 *ℤ round_up z)
le-round_up z = let e = round_down-le (neg_ℤ z) in omega (arith, ints, e)

-- ---- the theorems
-- a bound of a total, at the scale of the fine radii
at_scale : (b t : ℤ) (q : ℕ) → (pos 65536 *ℤ b) ≤ℤ t → (b *ℤ pos (2 ^ 32 * q)) ≤ℤ (pos 65536 *ℤ (t *ℤ pos q))
at_scale b t q h =
    let e : ((pos 65536 *ℤ b) *ℤ pos (65536 * q)) ≤ℤ (t *ℤ pos (65536 * q)) = mul_le_ℤ _ _ (65536 * q) h in
    let f : (pos 65536 *ℤ (b *ℤ pos (65536 * q))) ≤ℤ (t *ℤ pos (65536 * q)) = rw (← mul_assoc_ℤ (pos 65536) b (pos (65536 * q))) e in
    omega (arith, ints, f)

-- no point of the closed square costs less than the fine bound
pub fine_of-bounds : (i : Instance) (s : Square) (p : Point) → holds_closed s p ≡ true → CostAtLeast i p (fine_of i s)
unfolding fine_of
fine_of-bounds i s p h =
    low_radii_bound i p (2 ^ 32) (map (λ d. p.q * fine_radius s d) i.points) _ (omega arith)
    (all_low (λ d. p.q * fine_radius s d) p (2 ^ 32) (fine_low s p h) i.points)
    (rw (total_of-scaled i (fine_radius s) p.q) (at_scale _ _ p.q (round_down-le (total_of i (map (fine_radius s) i.points)))))

-- a site costs no less than its lower cost
pub lower_of-bounds : (i : Instance) (z : Pt) → CostAtLeast i (point_of z) (lower_of i z)
unfolding lower_of
lower_of-bounds i z =
    low_radii_bound i (point_of z) 65536 (map (λ d. 1 * lower_radius z d) i.points) _ (omega arith)
    (all_low (λ d. 1 * lower_radius z d) (point_of z) 65536 (lower_low z) i.points)
    (rw (total_of-scaled i (lower_radius z) 1) (let e = round_down-le (total_of i (map (lower_radius z) i.points)) in omega (arith, ints, e)))

-- and no more than its upper cost
pub upper_of-bounds : (i : Instance) (z : Pt) → CostAtMost i (point_of z) (upper_of i z)
unfolding upper_of
upper_of-bounds i z =
    high_radii_cost i (point_of z) 65536 (map (λ d. 1 * upper_radius z d) i.points) _ (omega arith)
    (all_high (λ d. 1 * upper_radius z d) (point_of z) 65536 (upper_high z) i.points)
    (rw (total_of-scaled i (upper_radius z) 1) (let e = le-round_up (total_of i (map (upper_radius z) i.points)) in omega (arith, ints, e)))
