-- The nearest and the farthest squared distance enclose the squared distance of every rational point of the closed square.
use Rattle.std.proofs.Common.{◌≡◌, ℕ, ◌+◌, ◌*◌, ◌^◌, ◌≤◌, max, ℤ, pos, ◌+ℤ◌, ◌-ℤ◌, ◌*ℤ◌, ◌≤ℤ◌, neg_ℤ, true, sym, ap, ◌∙◌, subst, arith}
use Rattle.std.proofs.Math.Nat.{mul-le-mul_left}
use Rattle.std.specs.Prelude.{unsigned_abs}
use Rattle.std.specs.Int.{int_max}
use Rattle.std.proofs.lemmas.Int.{by_lt_z, clamps, unsigned_abs-mul}
use Rattle.std.proofs.lemmas.Bool.{and_parts}
use borrow.Author.Differences.{up, down, neg_is, ints, same_in}
use Rattle.siting_definitions.specs.Point.{Place, Point}
use Rattle.siting_definitions.specs.Cost.{distance2}
use Rattle.siting_definitions.specs.Square.{Square, holds_closed, spans_closed}
use Rattle.siting_definitions.specs.Bounds.{near_on, far_on, near2, far2}
use Rattle.siting_definitions.proofs.Integers.{mul_minus_ℤ, mul_le_ℤ, mul_comm_ℤ, mul_assoc_ℤ, square_le, size_of_nonneg, le_size}
use Rattle.dyadic_square.proofs.Spans.{at_least_low, at_most_high}

-- ---- the size of a number
le_size_neg : (n : ℕ) (z : ℤ) → pos n ≤ℤ neg_ℤ z → n ≤ unsigned_abs z
le_size_neg n z h = omega (arith, ints)

size_le : (z : ℤ) (n : ℕ) → z ≤ℤ pos n → neg_ℤ z ≤ℤ pos n → unsigned_abs z ≤ n
size_le z n h k = omega (arith, ints)

self_le_size : (z : ℤ) → z ≤ℤ pos (unsigned_abs z)
self_le_size z = omega (arith, ints)

neg_le_size : (z : ℤ) → neg_ℤ z ≤ℤ pos (unsigned_abs z)
neg_le_size z = omega (arith, ints)

-- ---- one axis, with h the coordinate and q the units
greatest_of_three : (P : ℤ → Type 0) (x y z : ℤ) → P x → P y → P z → P (int_max x (int_max y z))
greatest_of_three P x y z px py pz =
    by_lt_z (int_max y z) x
    (λ less. let e : int_max x (int_max y z) ≡ x = same_in _ _ (omega (arith, ints, clamps)) in subst P (sym e) px)
    (λ more.
    by_lt_z z y
    (λ less. let e : int_max x (int_max y z) ≡ y = same_in _ _ (omega (arith, ints, clamps)) in subst P (sym e) py)
    (λ more'. let e : int_max x (int_max y z) ≡ z = same_in _ _ (omega (arith, ints, clamps)) in subst P (sym e) pz))

times_size : (q : ℕ) (x : ℤ) → pos 0 ≤ℤ x → pos (q * unsigned_abs x) ≡ pos q *ℤ x
times_size q x h = ap (λ z. pos q *ℤ z) (size_of_nonneg x h)

near_below : (low high a h : ℤ) (q : ℕ) → (pos q *ℤ low) ≤ℤ h → (pos 0 ≤ℤ (low -ℤ a)) → q * unsigned_abs (low -ℤ a) ≤ unsigned_abs (h -ℤ pos q *ℤ a)
near_below low high a h q at_least nonneg =
    le_size (q * unsigned_abs (low -ℤ a)) (h -ℤ pos q *ℤ a) (rw (times_size q (low -ℤ a) nonneg, mul_minus_ℤ (pos q) low a) (omega (arith, ints)))

near_above : (low high a h : ℤ) (q : ℕ) → h ≤ℤ (pos q *ℤ high) → (pos 0 ≤ℤ (a -ℤ high)) → q * unsigned_abs (a -ℤ high) ≤ unsigned_abs (h -ℤ pos q *ℤ a)
near_above low high a h q at_most nonneg =
    le_size_neg (q * unsigned_abs (a -ℤ high)) (h -ℤ pos q *ℤ a) (rw (times_size q (a -ℤ high) nonneg, mul_minus_ℤ (pos q) a high) (omega (arith, ints)))

-- no coordinate from low to high is nearer to a than the nearest way says
near_axis : (low high a h : ℤ) (q : ℕ) → (pos q *ℤ low) ≤ℤ h → h ≤ℤ (pos q *ℤ high) → q * unsigned_abs (int_max (pos 0) (int_max (low -ℤ a) (a -ℤ high))) ≤ unsigned_abs (h -ℤ pos q *ℤ a)
near_axis low high a h q at_least at_most =
    let P : ℤ → Type 0 = λ z. pos 0 ≤ℤ z → q * unsigned_abs z ≤ unsigned_abs (h -ℤ pos q *ℤ a) in
    greatest_of_three P (pos 0) (low -ℤ a) (a -ℤ high) (λ _. omega arith) (near_below low high a h q at_least)
    (near_above low high a h q at_most)
    (omega (arith, ints, clamps))

far_up : (q : ℕ) (z : ℤ) (n : ℕ) → unsigned_abs z ≤ n → (pos q *ℤ z) ≤ℤ pos (q * n)
far_up q z n h =
    let e : (z *ℤ pos q) ≤ℤ (pos (unsigned_abs z) *ℤ pos q) = mul_le_ℤ _ _ q (self_le_size z) in
    let f : q * unsigned_abs z ≤ q * n = mul-le-mul_left q h in
    rw (mul_comm_ℤ (pos q) z) (omega (arith, ints, e, f))

-- a number of this size at most, times q, from below
far_down : (q : ℕ) (z : ℤ) (n : ℕ) → unsigned_abs z ≤ n → neg_ℤ (pos q *ℤ z) ≤ℤ pos (q * n)
far_down q z n h =
    let e : (neg_ℤ z *ℤ pos q) ≤ℤ (pos (unsigned_abs z) *ℤ pos q) = mul_le_ℤ _ _ q (neg_le_size z) in
    let f : q * unsigned_abs z ≤ q * n = mul-le-mul_left q h in
    let g : up (neg_ℤ z) * q ≡ down z * q = ap (λ n. n * q) (neg_is z).0 in
    let g' : down (neg_ℤ z) * q ≡ up z * q = ap (λ n. n * q) (neg_is z).1 in
    omega (arith, ints, e, f, g, g')

-- and none is farther than the farther end
far_axis : (low high a h : ℤ) (q : ℕ) → (pos q *ℤ low) ≤ℤ h → h ≤ℤ (pos q *ℤ high) → unsigned_abs (h -ℤ pos q *ℤ a) ≤ q * max (unsigned_abs (low -ℤ a)) (unsigned_abs (high -ℤ a))
far_axis low high a h q at_least at_most =
    let n = max (unsigned_abs (low -ℤ a)) (unsigned_abs (high -ℤ a)) in
    let above : (pos q *ℤ high -ℤ pos q *ℤ a) ≤ℤ pos (q * n) = rw (← mul_minus_ℤ (pos q) high a) (far_up q (high -ℤ a) n (omega arith)) in
    let below : neg_ℤ (pos q *ℤ low -ℤ pos q *ℤ a) ≤ℤ pos (q * n) = rw (← mul_minus_ℤ (pos q) low a) (far_down q (low -ℤ a) n (omega arith)) in
    size_le (h -ℤ pos q *ℤ a) (q * n) (omega (arith, ints, above)) (omega (arith, ints, below))

-- a coordinate's way from a place, in lengths by q and in grid units by q
in_grid_units : (v a : ℤ) (q : ℕ) → unsigned_abs (pos 65536 *ℤ v -ℤ pos q *ℤ (pos 65536 *ℤ a)) ≡ 65536 * unsigned_abs (v -ℤ pos q *ℤ a)
in_grid_units v a q =
    let e : pos q *ℤ (pos 65536 *ℤ a) ≡ pos 65536 *ℤ (pos q *ℤ a) =
    sym (mul_assoc_ℤ (pos q) (pos 65536) a) ∙ ap (λ z. z *ℤ a) (mul_comm_ℤ (pos q) (pos 65536)) ∙ mul_assoc_ℤ (pos 65536) (pos q) a in
    rw (e, ← mul_minus_ℤ (pos 65536) v (pos q *ℤ a)) (unsigned_abs-mul (pos 65536) (v -ℤ pos q *ℤ a))

-- ---- both axes
near_on-axis : (low : ℤ) (len q : ℕ) (v a : ℤ) → spans_closed low len q v ≡ true → q * unsigned_abs (near_on low len (pos 65536 *ℤ a)) ≤ 65536 * unsigned_abs (v -ℤ pos q *ℤ a)
near_on-axis low len q v a h =
    rw (← in_grid_units v a q)
    (near_axis low (low +ℤ pos len) (pos 65536 *ℤ a) (pos 65536 *ℤ v) q (at_least_low low len q v h) (at_most_high low len q v h))

far_on-axis : (low : ℤ) (len q : ℕ) (v a : ℤ) → spans_closed low len q v ≡ true → 65536 * unsigned_abs (v -ℤ pos q *ℤ a) ≤ q * far_on low len (pos 65536 *ℤ a)
far_on-axis low len q v a h =
    rw (← in_grid_units v a q)
    (far_axis low (low +ℤ pos len) (pos 65536 *ℤ a) (pos 65536 *ℤ v) q (at_least_low low len q v h) (at_most_high low len q v h))

near_squares : (q m n x y : ℕ) → q * m ≤ 65536 * x → q * n ≤ 65536 * y → (m * m + n * n) * (q * q) ≤ 2 ^ 32 * (x * x + y * y)
near_squares q m n x y h k =
    let e : (q * m) * (q * m) ≤ (65536 * x) * (65536 * x) = square_le _ _ h in
    let f : (q * n) * (q * n) ≤ (65536 * y) * (65536 * y) = square_le _ _ k in
    omega (arith, e, f)

far_squares : (q m n x y : ℕ) → 65536 * x ≤ q * m → 65536 * y ≤ q * n → 2 ^ 32 * (x * x + y * y) ≤ (m * m + n * n) * (q * q)
far_squares q m n x y h k =
    let e : (65536 * x) * (65536 * x) ≤ (q * m) * (q * m) = square_le _ _ h in
    let f : (65536 * y) * (65536 * y) ≤ (q * n) * (q * n) = square_le _ _ k in
    omega (arith, e, f)

-- no point of the closed square is nearer
pub near2-below : (s : Square) (a : Place) (p : Point) → holds_closed s p ≡ true → near2 s a * (p.q * p.q) ≤ 2 ^ 32 * distance2 a p
unfolding holds_closed near2 distance2
near2-below s a p h =
    near_squares p.q _ _ _ _ (near_on-axis s.x (2 ^ s.level) p.q p.x a.x (and_parts _ _ h).0)
    (near_on-axis s.y (2 ^ s.level) p.q p.y a.y (and_parts _ _ h).1)

-- and none is farther
pub far2-above : (s : Square) (a : Place) (p : Point) → holds_closed s p ≡ true → 2 ^ 32 * distance2 a p ≤ far2 s a * (p.q * p.q)
unfolding holds_closed far2 distance2
far2-above s a p h =
    far_squares p.q _ _ _ _ (far_on-axis s.x (2 ^ s.level) p.q p.x a.x (and_parts _ _ h).0)
    (far_on-axis s.y (2 ^ s.level) p.q p.y a.y (and_parts _ _ h).1)
