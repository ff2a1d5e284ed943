-- No point of a closed square costs more than its ceiling: the radii of the farthest points are high for it, and each exceeds
-- that of the fine bound by at most the diagonal.
use Rattle.std.proofs.Common.{◌≡◌, ℕ, ◌+◌, ◌*◌, ◌/◌, ◌^◌, ◌≤◌, ◌<◌, ℤ, pos, negsuc, ◌+ℤ◌, ◌*ℤ◌, ◌≤ℤ◌, ◌<ℤ◌, true, List, [], ◌∷◌, map, fold, Option, None, Some, subst, refl, ◌-◌, arith}
use Rattle.std.proofs.Math.Nat.{mul-le-mul_left, mul-le-mul_right}
use Rattle.std.proofs.lemmas.Int.{clamps}
use Rattle.std.specs.Prelude.{unsigned_abs}
use Rattle.std.specs.Int.{int_max}
use borrow.Author.Differences.{ints}
use Rattle.siting_definitions.specs.declared.Kind.{Kind}
use Rattle.siting_definitions.specs.declared.Kind.TheVariants.{Sum, Max}
use Rattle.siting_definitions.specs.Integer.{round_down}
use Rattle.siting_definitions.specs.Root.{floor_root, ceil_root}
use Rattle.siting_definitions.specs.Point.{Place, Point}
use Rattle.siting_definitions.specs.Instance.{DemandPt, Instance, place_of}
use Rattle.siting_definitions.specs.Cost.{distance2, IsHighAt, terms, total, total_of}
use Rattle.siting_definitions.specs.Square.{Square, holds_closed}
use Rattle.siting_definitions.specs.Bounds.{near_on, far_on, near2, far2, capped, by_sign, fine_radius, fine_of}
use Rattle.siting_definitions.proofs.Integers.{square_le, square_cancel_le, mul_le_ℤ, mul_assoc_ℤ, twice-product}
use Rattle.siting_definitions.proofs.Totals.{RiseBy, total-drift}
use Rattle.siting_definitions.proofs.CostLemmas.{high_radii_cost}
use Rattle.root_enclosure.proofs.RootLemmas.{floor_root-is, ceil_root-le}
use Rattle.dist_bounds.proofs.DistanceLemmas.{near2-below, far2-above}
use Rattle.objectives.proofs.BoundLemmas.{at_positive, at_negative, root_below, root_above, high_by_sign, all_high, total_of-scaled}
use Rattle.objectives.proofs.CoarseLemmas.{term-moved, added_weights}
use Rattle.objectives.specs.Steepness.{heaviest, steepness_by, steepness_of}
use Rattle.near_set.specs.Ceiling.{diagonal_of, rise_of, ceiling_of, NoneCostsMore}

-- ---- from the nearest to the farthest point of a square
-- the ways x and y are longer than a and b by at most m, and e is at least m times the root of 2
longer_way : (a b m e g x y : ℕ) → x ≤ a + m → y ≤ b + m → a * a + b * b ≤ g * g → 17 * m ≤ 12 * e → x * x + y * y ≤ (g + e) * (g + e)
longer_way a b m e g x y across upwards near wide =
    let xs : x * x ≤ (a + m) * (a + m) = square_le x (a + m) across in
    let ys : y * y ≤ (b + m) * (b + m) = square_le y (b + m) upwards in
    let wides : 17 * m * (17 * m) ≤ 12 * e * (12 * e) = square_le (17 * m) (12 * e) wide in
    let double : 2 * (m * m) ≤ e * e = omega (arith, wides) in
    let both : (a + b) * (a + b) ≤ 2 * (g * g) = omega (arith, near, twice-product a b) in
    let first : m * m * ((a + b) * (a + b)) ≤ m * m * (2 * (g * g)) = mul-le-mul_left (m * m) both in
    let second : 2 * (m * m) * (g * g) ≤ e * e * (g * g) = mul-le-mul_right (g * g) double in
    let cross : m * (a + b) ≤ e * g = square_cancel_le (m * (a + b)) (e * g) (omega (arith, first, second)) in
    omega (arith, xs, ys, double, near, cross)

-- the same of the ways to the nearest and to the farthest point, in units of 1 / 65536 of a grid unit
farthest : (nx ny fx fy len f : ℕ) → fx ≤ nx + len → fy ≤ ny + len → (nx * nx + ny * ny) * 2 ^ 32 < (f + 1) * (f + 1) → (fx * fx + fy * fy) * 2 ^ 32 ≤ (f + 65536 * (17 * len / 12 + 1)) * (f + 65536 * (17 * len / 12 + 1))
farthest nx ny fx fy len f across upwards near =
    let d = 17 * len / 12 + 1 in
    let far : 65536 * fx * (65536 * fx) + 65536 * fy * (65536 * fy) ≤ (f + 1 + (65536 * d - 1)) * (f + 1 + (65536 * d - 1)) =
    longer_way (65536 * nx) (65536 * ny) (65536 * len) (65536 * d - 1) (f + 1) (65536 * fx) (65536 * fy) (omega arith) (omega arith) (omega (arith, near)) (omega arith) in
    let same : f + 1 + (65536 * d - 1) ≡ f + 65536 * d = omega arith in
    let far' : 65536 * fx * (65536 * fx) + 65536 * fy * (65536 * fy) ≤ (f + 65536 * d) * (f + 65536 * d) = subst (λ n. 65536 * fx * (65536 * fx) + 65536 * fy * (65536 * fy) ≤ n * n) same far in
    omega (arith, far')

-- on one axis the farther end is at most the side farther than the nearest place
far_on-le : (low : ℤ) (len : ℕ) (a : ℤ) → far_on low len a ≤ unsigned_abs (near_on low len a) + len
far_on-le low len a = omega (arith, ints, clamps)

-- the root of the farthest point's squared distance exceeds that of the nearest point's by at most the diagonal
far_root-le : (s : Square) (a : Place) → ceil_root (far2 s a * 2 ^ 32) ≤ floor_root (near2 s a * 2 ^ 32) + 65536 * diagonal_of s
unfolding near2 far2 diagonal_of
far_root-le s a =
    ceil_root-le _ _
    (farthest _ _ _ _ (2 ^ s.level) _ (far_on-le s.x (2 ^ s.level) (pos 65536 *ℤ a.x)) (far_on-le s.y (2 ^ s.level) (pos 65536 *ℤ a.y))
    (floor_root-is (near2 s a * 2 ^ 32)).next_above)

-- ---- the radii that are high for each point of a square
steep_radius : Square → DemandPt → ℕ
steep_radius s d =
    by_sign d (capped d.cutoff (2 ^ 32) (ceil_root (far2 s (place_of d) * 2 ^ 32)))
    (capped d.cutoff (2 ^ 32) (floor_root (near2 s (place_of d) * 2 ^ 32)))

steep_high : (s : Square) (p : Point) → holds_closed s p ≡ true → (d : DemandPt) → IsHighAt d p (2 ^ 32) (p.q * steep_radius s d)
unfolding steep_radius
steep_high s p h d =
    let near : near2 s (place_of d) * (p.q * p.q) ≤ 2 ^ 32 * distance2 (place_of d) p = near2-below s (place_of d) p h in
    let far : 2 ^ 32 * distance2 (place_of d) p ≤ far2 s (place_of d) * (p.q * p.q) = far2-above s (place_of d) p h in
    high_by_sign d p p.q (2 ^ 32) _ _ (root_above d p p.q (2 ^ 32) (2 ^ 32) (far2 s (place_of d) * 2 ^ 32) (omega arith) (omega (arith, far)))
    (root_below d p p.q (2 ^ 32) (2 ^ 32) (near2 s (place_of d) * 2 ^ 32) (omega arith) (omega (arith, near)))

-- a cutoff keeps a rise
capped-rise : (o : Option ℤ) (unit r r' e : ℕ) → r ≤ r' + e → capped o unit r ≤ capped o unit r' + e
capped-rise None unit r r' e h = h
capped-rise (Some c) unit r r' e h = omega arith

-- where the point attracts, the high radius exceeds that of the fine bound by at most the diagonal
steep_above : (s : Square) (d : DemandPt) → pos 0 <ℤ d.w → steep_radius s d ≤ fine_radius s d + 65536 * diagonal_of s
unfolding steep_radius fine_radius
steep_above s d up =
    rw (at_positive d _ _ up, at_positive d _ _ up) (capped-rise d.cutoff (2 ^ 32) _ _ _ (far_root-le s (place_of d)))

-- where it repels, it falls short of it by at most the diagonal
steep_below : (s : Square) (d : DemandPt) → d.w ≤ℤ pos 0 → fine_radius s d ≤ steep_radius s d + 65536 * diagonal_of s
unfolding steep_radius fine_radius
steep_below s d down =
    rw (at_negative d _ _ down, at_negative d _ _ down) (capped-rise d.cutoff (2 ^ 32) _ _ _ (far_root-le s (place_of d)))

-- ---- the total of these radii
-- so each term rises by at most the weight's size times the diagonal
terms_steep : (s : Square) (e : ℕ) → e ≡ 65536 * diagonal_of s → (ds : List DemandPt) → RiseBy (terms ds (map (fine_radius s) ds)) (terms ds (map (steep_radius s) ds)) (map (λ (d : DemandPt). unsigned_abs d.w * e) ds)
terms_steep s e is [] = tt
terms_steep s e is (d ∷ ds) =
    (term-moved d.w (steep_radius s d) (fine_radius s d) e (λ up. omega (arith, is, steep_above s d up)) (λ down. omega (arith, is, steep_below s d down)), terms_steep s e is ds)

max_rises_by : (a b z w : ℤ) (m : ℕ) → b ≤ℤ (a +ℤ pos m) → w ≤ℤ (z +ℤ pos m) → int_max b w ≤ℤ (int_max a z +ℤ pos m)
max_rises_by a b z w m h k = omega (arith, ints, clamps)

-- the greatest term rises by no more than the greatest weight makes of a rise of the radii
greatest_rises : (f g : DemandPt → ℕ) (e top : ℕ) (a b : ℤ) (ds : List DemandPt) → heaviest ds ≤ top → b ≤ℤ (a +ℤ pos (top * e)) → RiseBy (terms ds (map f ds)) (terms ds (map g ds)) (map (λ (d : DemandPt). unsigned_abs d.w * e) ds) → (fold int_max b (terms ds (map g ds))) ≤ℤ (fold int_max a (terms ds (map f ds)) +ℤ pos (top * e))
greatest_rises f g e top a b [] light h rise = h
greatest_rises f g e top a b (d ∷ ds) light h rise =
    let size : unsigned_abs d.w ≤ top = omega (arith, light) in
    let most : unsigned_abs d.w * e ≤ top * e = mul-le-mul_right e size in
    let here : (d.w *ℤ pos (g d)) ≤ℤ (d.w *ℤ pos (f d) +ℤ pos (unsigned_abs d.w * e)) = rise.0 in
    let step : (d.w *ℤ pos (g d)) ≤ℤ (d.w *ℤ pos (f d) +ℤ pos (top * e)) = omega (arith, ints, here, most) in
    greatest_rises f g e top (int_max a (d.w *ℤ pos (f d))) (int_max b (d.w *ℤ pos (g d))) ds (omega (arith, light)) (max_rises_by a b _ _ (top * e) h step) rise.1

-- the total rises by no more than the steepness makes of a rise of the radii
total_rises : (kind : Kind) (ds : List DemandPt) (f g : DemandPt → ℕ) (e : ℕ) → RiseBy (terms ds (map f ds)) (terms ds (map g ds)) (map (λ (d : DemandPt). unsigned_abs d.w * e) ds) → (total kind (terms ds (map g ds))) ≤ℤ (total kind (terms ds (map f ds)) +ℤ pos (steepness_by kind ds * e))
total_rises Sum ds f g e rise =
    let drift = total-drift Sum _ _ _ rise in let all = added_weights ds e in omega (arith, ints, drift, all)
total_rises Max [] f g e rise = omega (arith, ints)
total_rises Max (d ∷ ds) f g e rise =
    let top = heaviest (d ∷ ds) in
    let size : unsigned_abs d.w ≤ top = omega arith in
    let most : unsigned_abs d.w * e ≤ top * e = mul-le-mul_right e size in
    let here : (d.w *ℤ pos (g d)) ≤ℤ (d.w *ℤ pos (f d) +ℤ pos (unsigned_abs d.w * e)) = rise.0 in
    greatest_rises f g e top (d.w *ℤ pos (f d)) (d.w *ℤ pos (g d)) ds (omega arith) (omega (arith, ints, here, most)) rise.1

-- what rounding down leaves away
below-round_down : (z : ℤ) → z ≤ℤ (pos 65536 *ℤ round_down z +ℤ pos 65535)
below-round_down (pos n) = omega (arith, ints)
below-round_down (negsuc n) = omega (arith, ints)

-- the total of the high radii is at most the ceiling, in units of 1 / 65536 of a cost unit
steep_total : (i : Instance) (s : Square) → (total_of i (map (steep_radius s) i.points)) ≤ℤ (pos 65536 *ℤ ceiling_of i s)
unfolding ceiling_of rise_of fine_of steepness_of total_of
steep_total i s =
    let e = 65536 * diagonal_of s in
    let rise = total_rises i.kind i.points (fine_radius s) (steep_radius s) e (terms_steep s e refl i.points) in
    let down = below-round_down (total i.kind (terms i.points (map (fine_radius s) i.points))) in
    omega (arith, ints, rise, down)

-- the total at the scale 2 ^ 32
at_scale : (c t : ℤ) (q : ℕ) → t ≤ℤ (pos 65536 *ℤ c) → (pos 65536 *ℤ (t *ℤ pos q)) ≤ℤ (c *ℤ pos (2 ^ 32 * q))
at_scale c t q h =
    let e : (t *ℤ pos (65536 * q)) ≤ℤ ((pos 65536 *ℤ c) *ℤ pos (65536 * q)) = mul_le_ℤ _ _ (65536 * q) h in
    let f : (t *ℤ pos (65536 * q)) ≤ℤ (pos 65536 *ℤ (c *ℤ pos (65536 * q))) = rw (← mul_assoc_ℤ (pos 65536) c (pos (65536 * q))) e in
    omega (arith, ints, f)

-- no point of the closed square costs more than the ceiling
pub ceiling_of-bounds : (i : Instance) (s : Square) → NoneCostsMore i s (ceiling_of i s)
unfolding NoneCostsMore
ceiling_of-bounds i s p h =
    high_radii_cost i p (2 ^ 32) (map (λ d. p.q * steep_radius s d) i.points) _ (omega arith)
    (all_high (λ d. p.q * steep_radius s d) p (2 ^ 32) (steep_high s p h) i.points)
    (rw (total_of-scaled i (steep_radius s) p.q) (at_scale _ _ p.q (steep_total i s)))
