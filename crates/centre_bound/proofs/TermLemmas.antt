-- What one point adds: with its slopes it is at most its weight times a radius that is low for the point of the plane.
use Rattle.std.proofs.Common.{◌≡◌, ℕ, ◌*◌, ◌^◌, ℤ, pos, negsuc, ◌+ℤ◌, ◌-ℤ◌, ◌*ℤ◌, ◌≤ℤ◌, ◌<ℤ◌, Bool, true, false, cond, not, Option, None, Some, refl, subst, arith}
use Rattle.std.specs.Prelude.{unsigned_abs, int_lt, is_some}
use Rattle.std.proofs.lemmas.Bool.{and_parts, false≢true}
use borrow.Author.Differences.{up, down, ints, same_in}
use Rattle.siting_definitions.specs.Point.{Place, Pt, Point}
use Rattle.siting_definitions.specs.Instance.{DemandPt, place_of}
use Rattle.siting_definitions.specs.Cost.{distance2, IsBelow, IsLowAt}
use Rattle.siting_definitions.specs.Square.{Square, centre_of, holds_closed}
use Rattle.siting_definitions.specs.Bounds.{fine_radius}
use Rattle.siting_definitions.proofs.Integers.{diff, diffs, diff-eq, as_diff, pos-diff, mul_add_ℤ, add_mul_ℤ, mul_assoc_ℤ, mul_comm_ℤ, mul_le_ℤ, int_lt-true}
use Rattle.objectives.proofs.BoundLemmas.{fine_low}
use Rattle.centre_bound.specs.Cut.{Vector, dot, way_to, direction, is_straight, straight_way}
use Rattle.centre_bound.specs.Terms.{term_at, slope_of}
use Rattle.centre_bound.proofs.VectorLemmas.{direction_short, product_square}

-- ---- straight points
pub straight_parts : (d : DemandPt) → is_straight d ≡ true → (pos 0 <ℤ d.w) × (d.cutoff ≡ None)
unfolding is_straight
straight_parts d h = let parts = and_parts (int_lt (pos 0) d.w) (not (is_some d.cutoff)) h in (int_lt-true (pos 0) d.w parts.0, none_is d.cutoff parts.1)
  where
    none_is : (o : Option ℤ) → not (is_some o) ≡ true → o ≡ None
    none_is None e = refl
    none_is (Some c) e = absurd (false≢true e)

-- q times the way from a place to a point of the plane, in lengths
abbrev pub point_way : Place → Point → Vector
point_way a p = record { x = p.x -ℤ pos p.q *ℤ a.x; y = p.y -ℤ pos p.q *ℤ a.y }

-- that way along the direction at the centre of s
along : Square → Point → DemandPt → ℤ
along s p d = dot (direction (place_of d) (centre_of s)) (point_way (place_of d) p)

-- a radius that is low for p at the scale 2 ^ 32
low_radius_by : Square → Point → DemandPt → Bool → ℕ
low_radius_by s p d straight = cond straight (4096 * unsigned_abs (along s p d)) (p.q * fine_radius s d)

pub low_radius : Square → Point → DemandPt → ℕ
low_radius s p d = low_radius_by s p d (is_straight d)

along_below : (s : Square) (p : Point) (d : DemandPt) → d.cutoff ≡ None → IsBelow d p (2 ^ 32) (4096 * unsigned_abs (along s p d))
unfolding along distance2
along_below s p d free =
    let v = direction (place_of d) (centre_of s) in
    let way = point_way (place_of d) p in
    let e = product_square v.x v.y way.x way.y 1048576 (direction_short (place_of d) (centre_of s)) in
    (omega (arith, e), rw free tt)

straight_low : (s : Square) (p : Point) (d : DemandPt) → is_straight d ≡ true → IsLowAt d p (2 ^ 32) (4096 * unsigned_abs (along s p d))
straight_low s p d straight =
    let parts = straight_parts d straight in
    record { attracting = λ up. along_below s p d parts.1; repelling = λ down. absurd (let up = parts.0 in omega (arith, ints, up, down)) }

pub low_radius-low : (s : Square) (p : Point) → holds_closed s p ≡ true → (d : DemandPt) → IsLowAt d p (2 ^ 32) (low_radius s p d)
unfolding low_radius low_radius_by
low_radius-low s p held d = by_test (is_straight d) refl
  where
    by_test : (b : Bool) → is_straight d ≡ b → IsLowAt d p (2 ^ 32) (low_radius_by s p d b)
    by_test true straight = straight_low s p d straight
    by_test false other = fine_low s p held d

-- ---- one axis
axis-diff : (u u' z z' a a' p p' q : ℕ)
    → (diff u u' *ℤ (diff z z' -ℤ diff 65536 0 *ℤ diff a a')) *ℤ diff q 0 +ℤ diff u u' *ℤ (diff 65536 0 *ℤ diff p p' -ℤ diff q 0 *ℤ diff z z')
    ≡ diff 65536 0 *ℤ (diff u u' *ℤ (diff p p' -ℤ diff q 0 *ℤ diff a a'))
axis-diff u u' z z' a a' p p' q = simp diffs (diff-eq _ _ _ _ (omega arith))

axis : (u z a p : ℤ) (q : ℕ)
    → (u *ℤ (z -ℤ pos 65536 *ℤ a)) *ℤ pos q +ℤ u *ℤ (pos 65536 *ℤ p -ℤ pos q *ℤ z) ≡ pos 65536 *ℤ (u *ℤ (p -ℤ pos q *ℤ a))
axis u z a p q = rw (pos-diff q, pos-diff 65536, as_diff u, as_diff z, as_diff a, as_diff p) (axis-diff (up u) (down u) (up z) (down z) (up a) (down a) (up p) (down p) q)

-- ---- a weight taken out
weight_out : (w s t u v x y : ℤ) (q : ℕ)
    → (w *ℤ (s +ℤ t)) *ℤ pos q +ℤ ((w *ℤ u) *ℤ x +ℤ (w *ℤ v) *ℤ y) ≡ w *ℤ ((s *ℤ pos q +ℤ u *ℤ x) +ℤ (t *ℤ pos q +ℤ v *ℤ y))
weight_out w s t u v x y q =
    rw (
      mul_assoc_ℤ w (s +ℤ t) (pos q),
      add_mul_ℤ s t (pos q),
      mul_assoc_ℤ w u x,
      mul_assoc_ℤ w v y,
      mul_add_ℤ w (s *ℤ pos q +ℤ u *ℤ x) (t *ℤ pos q +ℤ v *ℤ y),
      mul_add_ℤ w (s *ℤ pos q) (u *ℤ x),
      mul_add_ℤ w (t *ℤ pos q) (v *ℤ y),
      mul_add_ℤ w (s *ℤ pos q) (t *ℤ pos q),
    )
    (same_in _ _ (omega (arith, ints)))

weighed-le : (w a b : ℤ) → pos 0 <ℤ w → a ≤ℤ b → (w *ℤ a) ≤ℤ (w *ℤ b)
weighed-le (pos n) a b some h = rw (mul_comm_ℤ (pos n) a, mul_comm_ℤ (pos n) b) (mul_le_ℤ a b n h)
weighed-le (negsuc n) a b some h = absurd (omega (arith, ints))

at_most_size : (w r : ℤ) → pos 0 <ℤ w → (w *ℤ (pos 65536 *ℤ r)) ≤ℤ (pos 16 *ℤ (w *ℤ pos (4096 * unsigned_abs r)))
at_most_size w r some =
    let e : (w *ℤ (pos 65536 *ℤ r)) ≤ℤ (w *ℤ pos (65536 * unsigned_abs r)) = weighed-le w _ _ some (omega (arith, ints)) in
    let f : w *ℤ pos (65536 * unsigned_abs r) ≡ pos 16 *ℤ (w *ℤ pos (4096 * unsigned_abs r)) = same_in _ _ (omega (arith, ints)) in
    subst (λ z. (w *ℤ (pos 65536 *ℤ r)) ≤ℤ z) f e

-- ---- a term
-- how far z lies from p, q times, in units of 1 / 65536
abbrev pub gap_on : ℕ → ℤ → ℤ → ℤ
gap_on q p z = pos 65536 *ℤ p -ℤ pos q *ℤ z

straight_term : (w : ℤ) (v : Vector) (a : Place) (z : Pt) (p : Point) → pos 0 <ℤ w
    → ((w *ℤ dot v (way_to a z)) *ℤ pos p.q +ℤ ((w *ℤ v.x) *ℤ gap_on p.q p.x z.x +ℤ (w *ℤ v.y) *ℤ gap_on p.q p.y z.y))
    ≤ℤ (pos 16 *ℤ (w *ℤ pos (4096 * unsigned_abs (dot v (point_way a p)))))
straight_term w v a z p some =
    rw (
      weight_out w (v.x *ℤ (way_to a z).x) (v.y *ℤ (way_to a z).y) v.x v.y (gap_on p.q p.x z.x) (gap_on p.q p.y z.y) p.q,
      axis v.x z.x a.x p.x p.q,
      axis v.y z.y a.y p.y p.q,
      ← mul_add_ℤ (pos 65536) (v.x *ℤ (point_way a p).x) (v.y *ℤ (point_way a p).y),
    )
    (at_most_size w (dot v (point_way a p)) some)

other_term : (w x y : ℤ) (r q : ℕ) → ((w *ℤ (pos 16 *ℤ pos r)) *ℤ pos q +ℤ (pos 0 *ℤ x +ℤ pos 0 *ℤ y)) ≤ℤ (pos 16 *ℤ (w *ℤ pos (q * r)))
other_term w x y r q = rw (mul_assoc_ℤ w (pos 16 *ℤ pos r) (pos q)) (omega (arith, ints))

-- at each grid point z
pub term-le : (s : Square) (p : Point) (z : Pt) (d : DemandPt)
    → (term_at s z d *ℤ pos p.q +ℤ ((slope_of s d).x *ℤ gap_on p.q p.x z.x +ℤ (slope_of s d).y *ℤ gap_on p.q p.y z.y))
    ≤ℤ (pos 16 *ℤ (d.w *ℤ pos (low_radius s p d)))
unfolding term_at slope_of low_radius low_radius_by along straight_way
term-le s p z d = by_test (is_straight d) refl
  where
    v : Vector
    v = direction (place_of d) (centre_of s)

    slope_by : Bool → Vector
    slope_by b = cond b (record { x = d.w *ℤ v.x; y = d.w *ℤ v.y }) (record { x = pos 0; y = pos 0 })

    by_test : (b : Bool) → is_straight d ≡ b
        → ((d.w *ℤ cond b (straight_way (centre_of s) z d) (pos 16 *ℤ pos (fine_radius s d))) *ℤ pos p.q +ℤ ((slope_by b).x *ℤ gap_on p.q p.x z.x +ℤ (slope_by b).y *ℤ gap_on p.q p.y z.y))
        ≤ℤ (pos 16 *ℤ (d.w *ℤ pos (low_radius_by s p d b)))
    by_test true straight = straight_term d.w v (place_of d) z p (straight_parts d straight).0
    by_test false other = other_term d.w (gap_on p.q p.x z.x) (gap_on p.q p.y z.y) (fine_radius s d) p.q
