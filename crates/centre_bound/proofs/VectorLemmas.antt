-- Whole vectors no longer than 2 ^ 20, and their scalar products: that with a way is at most 2 ^ 20 times the way's length. All
-- is said of squares, without roots.
use Rattle.std.proofs.Common.{◌≡◌, ℕ, ◌+◌, ◌*◌, ◌/◌, ◌≤◌, ◌<◌, ◌==◌, zero, suc, ℤ, pos, negsuc, ◌+ℤ◌, ◌*ℤ◌, neg_ℤ, true, false, refl, ◌⊎◌, inl, inr, arith}
use Rattle.std.specs.Prelude.{unsigned_abs, int_div}
use Rattle.std.proofs.Math.Nat.{mul-le-mul_left, div-mul-le_self, le_of_mul-le-mul_right}
use Rattle.std.proofs.lemmas.Bool.{cases_lt, cases_Bool, cond-true, cond-false}
use Rattle.std.proofs.lemmas.Int.{unsigned_abs-mul}
use borrow.Author.Differences.{ints}
use Rattle.siting_definitions.specs.Integer.{square_of}
use Rattle.siting_definitions.specs.Root.{ceil_root}
use Rattle.siting_definitions.specs.Point.{Place, Pt, point_of}
use Rattle.siting_definitions.specs.Cost.{distance2}
use Rattle.siting_definitions.proofs.Integers.{square_le, twice-product}
use Rattle.root_enclosure.proofs.RootLemmas.{ceil_root-is}
use Rattle.centre_bound.specs.Cut.{Vector, way_to, share, direction}

-- ---- quotients
size_of_neg : (n : ℕ) → unsigned_abs (neg_ℤ (pos n)) ≡ n
size_of_neg zero = refl
size_of_neg (suc n) = refl

quotient_size : (z : ℤ) (n : ℕ) → unsigned_abs (int_div z (pos n)) * n ≤ unsigned_abs z
quotient_size (pos a) n = div-mul-le_self a n
quotient_size (negsuc a) n = rw (size_of_neg (suc a / n)) (div-mul-le_self (suc a) n)

pub share_size : (z : ℤ) (n : ℕ) → unsigned_abs (share z n) * n ≤ 1048576 * unsigned_abs z
share_size z n = by_whole (cases_Bool (n == 0))
  where
    by_whole : ((n == 0) ≡ true) ⊎ ((n == 0) ≡ false) → unsigned_abs (share z n) * n ≤ 1048576 * unsigned_abs z
    by_whole (inl none) = rw (cond-true (n == 0) (pos 0) (int_div (pos 1048576 *ℤ z) (pos n)) none) (omega arith)
    by_whole (inr some) =
        rw (cond-false (n == 0) (pos 0) (int_div (pos 1048576 *ℤ z) (pos n)) some)
        (let e = quotient_size (pos 1048576 *ℤ z) n in omega (arith, e, unsigned_abs-mul (pos 1048576) z))

share_of_none : (z : ℤ) (n : ℕ) → n ≡ 0 → unsigned_abs (share z n) ≡ 0
share_of_none z n e = rw e refl

-- ---- lengths
shortened : (X Y c U V N : ℕ) → X * X + Y * Y ≤ c * c → U * c ≤ N * X → V * c ≤ N * Y → 0 < c → U * U + V * V ≤ N * N
shortened X Y c U V N long u v some =
    let a : (U * c) * (U * c) ≤ (N * X) * (N * X) = square_le (U * c) (N * X) u in
    let b : (V * c) * (V * c) ≤ (N * Y) * (N * Y) = square_le (V * c) (N * Y) v in
    let d : N * N * (X * X + Y * Y) ≤ N * N * (c * c) = mul-le-mul_left (N * N) long in
    let all : (U * U + V * V) * (c * c) ≤ (N * N) * (c * c) = omega (arith, a, b, d) in
    let e : 1 * 1 ≤ c * c = square_le 1 c (omega arith) in
    let above : 0 < c * c = omega (arith, e) in
    le_of_mul-le-mul_right all above

-- a direction is no longer than 2 ^ 20
pub direction_short : (a : Place) (z : Pt) → square_of (direction a z).x + square_of (direction a z).y ≤ 1048576 * 1048576
unfolding direction distance2
direction_short a z = by_whole (cases_lt 0 whole)
  where
    way : Vector
    way = way_to a z

    whole : ℕ
    whole = ceil_root (distance2 a (point_of z))

    by_whole : (0 < whole) ⊎ (whole ≤ 0) → square_of (share way.x whole) + square_of (share way.y whole) ≤ 1048576 * 1048576
    by_whole (inl some) =
        shortened (unsigned_abs way.x) (unsigned_abs way.y) whole (unsigned_abs (share way.x whole)) (unsigned_abs (share way.y whole)) 1048576
        (ceil_root-is (distance2 a (point_of z))).at_least (share_size way.x whole) (share_size way.y whole) some
    by_whole (inr none) =
        let e : whole ≡ 0 = omega arith in
        rw (share_of_none way.x whole e, share_of_none way.y whole e) (omega arith)

-- ---- scalar products
cauchy : (U V E F : ℕ) → (U * E + V * F) * (U * E + V * F) ≤ (U * U + V * V) * (E * E + F * F)
cauchy U V E F = let e = twice-product (U * F) (V * E) in omega (arith, e)

product_short : (u v e f : ℤ) → unsigned_abs (u *ℤ e +ℤ v *ℤ f) ≤ unsigned_abs u * unsigned_abs e + unsigned_abs v * unsigned_abs f
product_short u v e f = omega (arith, ints, unsigned_abs-mul u e, unsigned_abs-mul v f)

-- the square of a scalar product is at most that of the lengths' product
pub product_square : (u v e f : ℤ) (N : ℕ) → square_of u + square_of v ≤ N * N
    → square_of (u *ℤ e +ℤ v *ℤ f) ≤ N * N * (square_of e + square_of f)
product_square u v e f N h =
    let a = square_le _ _ (product_short u v e f) in
    let b = cauchy (unsigned_abs u) (unsigned_abs v) (unsigned_abs e) (unsigned_abs f) in
    let c : (square_of e + square_of f) * (square_of u + square_of v) ≤ (square_of e + square_of f) * (N * N) = mul-le-mul_left (square_of e + square_of f) h in
    omega (arith, a, b, c)
