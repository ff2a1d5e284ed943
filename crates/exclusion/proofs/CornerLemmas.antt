-- A point of a closed square lies on the same side of an edge as the four corners: the side is a straight function of the
-- point, so it is least and greatest at corners.
use Rattle.std.proofs.Common.{◌≡◌, ℕ, ◌^◌, ◌≤◌, ℤ, pos, ◌+ℤ◌, ◌-ℤ◌, ◌*ℤ◌, ◌≤ℤ◌, ◌<ℤ◌, neg_ℤ, true, sym, ap, ◌∙◌, arith}
use Rattle.std.proofs.lemmas.Int.{by_lt_z}
use Rattle.std.proofs.lemmas.Bool.{and_parts}
use Rattle.std.specs.Prelude.{unsigned_abs}
use borrow.Author.Differences.{ints, same_in}
use Rattle.siting_definitions.specs.Point.{Place, Point, point_of, side}
use Rattle.siting_definitions.specs.Square.{Square, holds_closed, spans_closed, corner_of}
use Rattle.siting_definitions.proofs.Integers.{neg_mul_ℤ, scale_le_ℤ, mul_lt_ℤ, mul_minus_ℤ, mul_assoc_ℤ, mul_comm_ℤ, size_of_nonneg}
use Rattle.dyadic_square.proofs.Spans.{at_least_low, at_most_high}

-- ---- products keep the order, by the sign of the factor
-- a factor that isn't below 0 keeps the order
pub times_le : (u a b : ℤ) → pos 0 ≤ℤ u → a ≤ℤ b → (u *ℤ a) ≤ℤ (u *ℤ b)
times_le u a b h le =
    rw (sym (size_of_nonneg u h)) (scale_le_ℤ (unsigned_abs u) a b le)

-- and one that isn't above 0 turns it
pub times_le_back : (u a b : ℤ) → u ≤ℤ pos 0 → a ≤ℤ b → (u *ℤ b) ≤ℤ (u *ℤ a)
times_le_back u a b h le =
    let e : (neg_ℤ u *ℤ a) ≤ℤ (neg_ℤ u *ℤ b) = times_le (neg_ℤ u) a b (omega (arith, ints)) le in
    let f : neg_ℤ (u *ℤ a) ≤ℤ neg_ℤ (u *ℤ b) = rw (← neg_mul_ℤ u a, ← neg_mul_ℤ u b) e in
    omega (arith, ints, f)

-- ---- a way w of the point, in units of q, between the ways low and high of two ends
swap : (a u w : ℤ) → a *ℤ (u *ℤ w) ≡ u *ℤ (a *ℤ w)
swap a u w = sym (mul_assoc_ℤ a u w) ∙ ap (λ z. z *ℤ w) (mul_comm_ℤ a u) ∙ mul_assoc_ℤ u a w

pub record IsBetween (w low high : ℤ) (q : ℕ) : Type 0 where
  pub at_least : (pos q *ℤ low) ≤ℤ (pos 65536 *ℤ w)
  pub at_most : (pos 65536 *ℤ w) ≤ℤ (pos q *ℤ high)

up_high : (u w low high : ℤ) (q : ℕ) → IsBetween w low high q → pos 0 ≤ℤ u → (pos 65536 *ℤ (u *ℤ w)) ≤ℤ (pos q *ℤ (u *ℤ high))
up_high u w low high q h sign = rw (swap (pos 65536) u w, swap (pos q) u high) (times_le u _ _ sign h.at_most)

up_low : (u w low high : ℤ) (q : ℕ) → IsBetween w low high q → u ≤ℤ pos 0 → (pos 65536 *ℤ (u *ℤ w)) ≤ℤ (pos q *ℤ (u *ℤ low))
up_low u w low high q h sign = rw (swap (pos 65536) u w, swap (pos q) u low) (times_le_back u _ _ sign h.at_least)

down_low : (u w low high : ℤ) (q : ℕ) → IsBetween w low high q → pos 0 ≤ℤ u → (pos q *ℤ (u *ℤ low)) ≤ℤ (pos 65536 *ℤ (u *ℤ w))
down_low u w low high q h sign = rw (swap (pos 65536) u w, swap (pos q) u low) (times_le u _ _ sign h.at_least)

down_high : (u w low high : ℤ) (q : ℕ) → IsBetween w low high q → u ≤ℤ pos 0 → (pos q *ℤ (u *ℤ high)) ≤ℤ (pos 65536 *ℤ (u *ℤ w))
down_high u w low high q h sign = rw (swap (pos 65536) u w, swap (pos q) u high) (times_le_back u _ _ sign h.at_most)

-- ---- the sign of ux * wy - uy * wx, from that at the ends
below_zero : (sp sc : ℤ) (q : ℕ) → 1 ≤ q → (pos 65536 *ℤ sp) ≤ℤ (pos q *ℤ sc) → sc <ℤ pos 0 → sp <ℤ pos 0
below_zero sp sc q one le less =
    let e : (sc *ℤ pos q) <ℤ (pos 0 *ℤ pos q) = mul_lt_ℤ sc (pos 0) q one less in
    let f : (pos 65536 *ℤ sp) ≤ℤ (sc *ℤ pos q) = rw (mul_comm_ℤ sc (pos q)) le in
    omega (arith, ints, e, f)

difference_le : (a b c d : ℤ) (q : ℕ) → (pos 65536 *ℤ a) ≤ℤ (pos q *ℤ c) → (pos q *ℤ d) ≤ℤ (pos 65536 *ℤ b) → (pos 65536 *ℤ (a -ℤ b)) ≤ℤ (pos q *ℤ (c -ℤ d))
difference_le a b c d q h k = rw (mul_minus_ℤ (pos 65536) a b, mul_minus_ℤ (pos q) c d) (omega (arith, ints))

-- it is below 0 where it is so at all four pairs of ends
turn_below : (ux uy wx wy x0 x1 y0 y1 : ℤ) (q : ℕ) → 1 ≤ q → IsBetween wx x0 x1 q → IsBetween wy y0 y1 q → (ux *ℤ y0 -ℤ uy *ℤ x0) <ℤ pos 0 → (ux *ℤ y0 -ℤ uy *ℤ x1) <ℤ pos 0 → (ux *ℤ y1 -ℤ uy *ℤ x0) <ℤ pos 0 → (ux *ℤ y1 -ℤ uy *ℤ x1) <ℤ pos 0 → (ux *ℤ wy -ℤ uy *ℤ wx) <ℤ pos 0
turn_below ux uy wx wy x0 x1 y0 y1 q one x y a b c d =
    by_lt_z ux (pos 0)
    (λ left.
    let l : ux ≤ℤ pos 0 = omega (arith, ints) in
    by_lt_z uy (pos 0)
    (λ low. let m : uy ≤ℤ pos 0 = omega (arith, ints) in below_zero _ _ q one (difference_le (ux *ℤ wy) (uy *ℤ wx) _ _ q (up_low ux wy y0 y1 q y l) (down_high uy wx x0 x1 q x m)) b)
    (λ high. below_zero _ _ q one (difference_le (ux *ℤ wy) (uy *ℤ wx) _ _ q (up_low ux wy y0 y1 q y l) (down_low uy wx x0 x1 q x high)) a))
    (λ right.
    by_lt_z uy (pos 0)
    (λ low. let m : uy ≤ℤ pos 0 = omega (arith, ints) in below_zero _ _ q one (difference_le (ux *ℤ wy) (uy *ℤ wx) _ _ q (up_high ux wy y0 y1 q y right) (down_high uy wx x0 x1 q x m)) d)
    (λ high. below_zero _ _ q one (difference_le (ux *ℤ wy) (uy *ℤ wx) _ _ q (up_high ux wy y0 y1 q y right) (down_low uy wx x0 x1 q x high)) c))

-- the opposite edge has the opposite sign
opposite : (ux uy x y : ℤ) → pos 0 <ℤ (ux *ℤ y -ℤ uy *ℤ x) → (neg_ℤ ux *ℤ y -ℤ neg_ℤ uy *ℤ x) <ℤ pos 0
opposite ux uy x y h = rw (neg_mul_ℤ ux y, neg_mul_ℤ uy x) (omega (arith, ints, h))

-- and above 0 likewise
turn_above : (ux uy wx wy x0 x1 y0 y1 : ℤ) (q : ℕ) → 1 ≤ q → IsBetween wx x0 x1 q → IsBetween wy y0 y1 q → pos 0 <ℤ (ux *ℤ y0 -ℤ uy *ℤ x0) → pos 0 <ℤ (ux *ℤ y0 -ℤ uy *ℤ x1) → pos 0 <ℤ (ux *ℤ y1 -ℤ uy *ℤ x0) → pos 0 <ℤ (ux *ℤ y1 -ℤ uy *ℤ x1) → pos 0 <ℤ (ux *ℤ wy -ℤ uy *ℤ wx)
turn_above ux uy wx wy x0 x1 y0 y1 q one x y a b c d =
    let e = turn_below (neg_ℤ ux) (neg_ℤ uy) wx wy x0 x1 y0 y1 q one x y (opposite ux uy x0 y0 a) (opposite ux uy x1 y0 b) (opposite ux uy x0 y1 c) (opposite ux uy x1 y1 d) in
    let f : (neg_ℤ (ux *ℤ wy) -ℤ neg_ℤ (uy *ℤ wx)) <ℤ pos 0 = rw (← neg_mul_ℤ ux wy, ← neg_mul_ℤ uy wx) e in
    omega (arith, ints, f)

-- ---- the ways from an edge's start
from_start : (a : ℤ) (q : ℕ) → pos q *ℤ (pos 65536 *ℤ a) ≡ pos 65536 *ℤ (pos q *ℤ a)
from_start a q = swap (pos q) (pos 65536) a

low_way : (low : ℤ) (q : ℕ) (v a : ℤ) → (pos q *ℤ low) ≤ℤ (pos 65536 *ℤ v) → (pos q *ℤ (low -ℤ pos 65536 *ℤ a)) ≤ℤ (pos 65536 *ℤ (v -ℤ pos q *ℤ a))
low_way low q v a h = rw (mul_minus_ℤ (pos q) low (pos 65536 *ℤ a), mul_minus_ℤ (pos 65536) v (pos q *ℤ a), from_start a q) (omega (arith, ints))

high_way : (high : ℤ) (q : ℕ) (v a : ℤ) → (pos 65536 *ℤ v) ≤ℤ (pos q *ℤ high) → (pos 65536 *ℤ (v -ℤ pos q *ℤ a)) ≤ℤ (pos q *ℤ (high -ℤ pos 65536 *ℤ a))
high_way high q v a h = rw (mul_minus_ℤ (pos q) high (pos 65536 *ℤ a), mul_minus_ℤ (pos 65536) v (pos q *ℤ a), from_start a q) (omega (arith, ints))

-- a coordinate of the closed square lies between its ends
ways_between : (low : ℤ) (len q : ℕ) (v a : ℤ) → spans_closed low len q v ≡ true → IsBetween (v -ℤ pos q *ℤ a) (low -ℤ pos 65536 *ℤ a) ((low +ℤ pos len) -ℤ pos 65536 *ℤ a) q
ways_between low len q v a h =
    record { at_least = low_way low q v a (at_least_low low len q v h); at_most = high_way (low +ℤ pos len) q v a (at_most_high low len q v h) }

no_more : (z : ℤ) → z +ℤ pos 0 ≡ z
no_more z = same_in _ _ (omega (arith, ints))

-- a point of the closed square lies strictly to the right of an edge of which all corners do
pub right_of_edge : (a b : Place) (s : Square) (p : Point) → holds_closed s p ≡ true → side a b (point_of (corner_of s 0)) <ℤ pos 0 → side a b (point_of (corner_of s 1)) <ℤ pos 0 → side a b (point_of (corner_of s 2)) <ℤ pos 0 → side a b (point_of (corner_of s 3)) <ℤ pos 0 → side a b p <ℤ pos 0
unfolding side holds_closed
right_of_edge a b s p h c0 c1 c2 c3 =
    let both = and_parts _ _ h in
    turn_below (b.x -ℤ a.x) (b.y -ℤ a.y) (p.x -ℤ pos p.q *ℤ a.x) (p.y -ℤ pos p.q *ℤ a.y) _ _ _ _ p.q p.q_pos (ways_between s.x (2 ^ s.level) p.q p.x a.x both.0)
    (ways_between s.y (2 ^ s.level) p.q p.y a.y both.1)
    (rw (no_more s.x, no_more s.y) at c0)
    (rw (no_more s.y) at c1)
    (rw (no_more s.x) at c2)
    c3

-- a point of the closed square lies strictly to the left of an edge of which all corners do
pub left_of_edge : (a b : Place) (s : Square) (p : Point) → holds_closed s p ≡ true → pos 0 <ℤ side a b (point_of (corner_of s 0)) → pos 0 <ℤ side a b (point_of (corner_of s 1)) → pos 0 <ℤ side a b (point_of (corner_of s 2)) → pos 0 <ℤ side a b (point_of (corner_of s 3)) → pos 0 <ℤ side a b p
unfolding side holds_closed
left_of_edge a b s p h c0 c1 c2 c3 =
    let both = and_parts _ _ h in
    turn_above (b.x -ℤ a.x) (b.y -ℤ a.y) (p.x -ℤ pos p.q *ℤ a.x) (p.y -ℤ pos p.q *ℤ a.y) _ _ _ _ p.q p.q_pos (ways_between s.x (2 ^ s.level) p.q p.x a.x both.0)
    (ways_between s.y (2 ^ s.level) p.q p.y a.y both.1)
    (rw (no_more s.x, no_more s.y) at c0)
    (rw (no_more s.y) at c1)
    (rw (no_more s.x) at c2)
    c3
