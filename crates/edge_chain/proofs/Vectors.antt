-- Vectors of the plane, from a point to the ends of an edge, and the signs of products.
use Rattle.std.proofs.Common.{◌≡◌, ℕ, ℤ, pos, negsuc, ◌+ℤ◌, ◌-ℤ◌, ◌*ℤ◌, neg_ℤ, ◌≤ℤ◌, ◌<ℤ◌, subst, true, false, arith}
use Rattle.std.proofs.lemmas.Int.{by_lt_z, ints}
use borrow.Author.Differences.{up, down}
use Rattle.siting_definitions.specs.Point.{Place, Point, side}
use Rattle.edge_chain.specs.Chain.{is_low}
use Rattle.siting_definitions.proofs.Integers.{diff, diffs, diff-eq, as_diff, mul_le_ℤ, mul_above_ℤ, mul_comm_ℤ, neg_mul_ℤ, int_le-true, int_le-false}

-- above 0 where the second vector is less than half a turn to the left of the first
abbrev pub det : ℤ → ℤ → ℤ → ℤ → ℤ
det ax ay bx by = ax *ℤ by -ℤ ay *ℤ bx

-- ---- signs of products
pub product_nonneg : (a b : ℤ) → pos 0 ≤ℤ a → pos 0 ≤ℤ b → pos 0 ≤ℤ (a *ℤ b)
product_nonneg a (pos n) h k = let e : (pos 0 *ℤ pos n) ≤ℤ (a *ℤ pos n) = mul_le_ℤ (pos 0) a n h in omega (arith, ints, e)
product_nonneg a (negsuc n) h k = absurd (omega (arith, ints))

pub product_nonpos : (a b : ℤ) → a ≤ℤ pos 0 → pos 0 ≤ℤ b → (a *ℤ b) ≤ℤ pos 0
product_nonpos a (pos n) h k = let e : (a *ℤ pos n) ≤ℤ (pos 0 *ℤ pos n) = mul_le_ℤ a (pos 0) n h in omega (arith, ints, e)
product_nonpos a (negsuc n) h k = absurd (omega (arith, ints))

pub product_nonpos_right : (a b : ℤ) → pos 0 ≤ℤ a → b ≤ℤ pos 0 → (a *ℤ b) ≤ℤ pos 0
product_nonpos_right a b h k = subst (λ z. z ≤ℤ pos 0) (mul_comm_ℤ b a) (product_nonpos b a k h)

pub product_below : (a b : ℤ) → a <ℤ pos 0 → pos 0 <ℤ b → (a *ℤ b) <ℤ pos 0
product_below a b h k =
    let e = mul_above_ℤ (neg_ℤ a) b (omega (arith, ints)) k in omega (arith, ints, e, neg_mul_ℤ a b)

pub product_below_right : (a b : ℤ) → pos 0 <ℤ a → b <ℤ pos 0 → (a *ℤ b) <ℤ pos 0
product_below_right a b h k = subst (λ z. z <ℤ pos 0) (mul_comm_ℤ b a) (product_below b a k h)

pub both_nonpos : (x y : ℤ) → x ≤ℤ pos 0 → y ≤ℤ pos 0 → pos 0 ≤ℤ (x *ℤ y)
both_nonpos x y h k =
    let e = product_nonpos_right (neg_ℤ x) y (omega (arith, ints)) k in omega (arith, ints, e, neg_mul_ℤ x y)

-- the sign of a product and of one factor tell that of the other
pub factor_above : (a b : ℤ) → pos 0 <ℤ (a *ℤ b) → pos 0 <ℤ a → pos 0 <ℤ b
factor_above a b h k =
    by_lt_z (pos 0) b (λ above. above) (λ not_. let e = product_nonpos_right a b (omega (arith, ints)) not_ in absurd (omega (arith, ints, e)))

pub factor_nonneg : (a b : ℤ) → pos 0 ≤ℤ (a *ℤ b) → pos 0 <ℤ a → pos 0 ≤ℤ b
factor_nonneg a b h k =
    by_lt_z b (pos 0) (λ below. let e = product_below_right a b k below in absurd (omega (arith, ints, e))) (λ le. le)

pub factor_nonpos : (a b : ℤ) → (a *ℤ b) ≤ℤ pos 0 → pos 0 <ℤ a → b ≤ℤ pos 0
factor_nonpos a b h k =
    by_lt_z (pos 0) b (λ above. let e = mul_above_ℤ a b k above in absurd (omega (arith, ints, e))) (λ le. le)

-- ---- identities
three-diff : (ax ax' ay ay' bx bx' by by' cx cx' cy cy' : ℕ) → diff by by' *ℤ det (diff cx cx') (diff cy cy') (diff ax ax') (diff ay ay') -ℤ diff ay ay' *ℤ det (diff cx cx') (diff cy cy') (diff bx bx') (diff by by') ≡ neg_ℤ (diff cy cy' *ℤ det (diff ax ax') (diff ay ay') (diff bx bx') (diff by by'))
three-diff ax ax' ay ay' bx bx' by by' cx cx' cy cy' = simp diffs (diff-eq _ _ _ _ (omega arith))

-- three vectors a, b and c, by their heights
pub three_vectors : (ax ay bx by cx cy : ℤ) → by *ℤ det cx cy ax ay -ℤ ay *ℤ det cx cy bx by ≡ neg_ℤ (cy *ℤ det ax ay bx by)
three_vectors ax ay bx by cx cy =
    rw (as_diff ax, as_diff ay, as_diff bx, as_diff by, as_diff cx, as_diff cy)
    (three-diff (up ax) (down ax) (up ay) (down ay) (up bx) (down bx) (up by) (down by) (up cx) (down cx) (up cy) (down cy))

-- the way from p to v, times p's denominator
abbrev pub way_x : Point → Place → ℤ
way_x p v = pos p.q *ℤ v.x -ℤ p.x

abbrev pub way_y : Point → Place → ℤ
way_y p v = pos p.q *ℤ v.y -ℤ p.y

side-diff : (ax ax' ay ay' bx bx' by by' px px' py py' q q' : ℕ) → det (diff q q' *ℤ diff ax ax' -ℤ diff px px') (diff q q' *ℤ diff ay ay' -ℤ diff py py') (diff q q' *ℤ diff bx bx' -ℤ diff px px') (diff q q' *ℤ diff by by' -ℤ diff py py') ≡ diff q q' *ℤ ((diff bx bx' -ℤ diff ax ax') *ℤ (diff py py' -ℤ diff q q' *ℤ diff ay ay') -ℤ (diff by by' -ℤ diff ay ay') *ℤ (diff px px' -ℤ diff q q' *ℤ diff ax ax'))
side-diff ax ax' ay ay' bx bx' by by' px px' py py' q q' = simp diffs (diff-eq _ _ _ _ (omega arith))

side_by : (ax ay bx by px py q : ℤ) → det (q *ℤ ax -ℤ px) (q *ℤ ay -ℤ py) (q *ℤ bx -ℤ px) (q *ℤ by -ℤ py) ≡ q *ℤ ((bx -ℤ ax) *ℤ (py -ℤ q *ℤ ay) -ℤ (by -ℤ ay) *ℤ (px -ℤ q *ℤ ax))
side_by ax ay bx by px py q =
    rw (as_diff ax, as_diff ay, as_diff bx, as_diff by, as_diff px, as_diff py, as_diff q)
    (side-diff (up ax) (down ax) (up ay) (down ay) (up bx) (down bx) (up by) (down by) (up px) (down px) (up py) (down py) (up q) (down q))

-- the side of p on an edge, by the ways to its ends
pub side_is : (a b : Place) (p : Point) → det (way_x p a) (way_y p a) (way_x p b) (way_y p b) ≡ pos p.q *ℤ side a b p
unfolding side
side_is a b p = side_by a.x a.y b.x b.y p.x p.y (pos p.q)

-- above 0 where p lies strictly to the left of the way from a to b
abbrev pub turn : Point → Place → Place → ℤ
turn p a b = det (way_x p a) (way_y p a) (way_x p b) (way_y p b)

q_above : (p : Point) → pos 0 <ℤ pos p.q
q_above p = let e = p.q_pos in omega (arith, ints, e)

-- a turn has the sign of the side
pub turn_above : (a b : Place) (p : Point) → pos 0 <ℤ side a b p → pos 0 <ℤ turn p a b
turn_above a b p h = rw (side_is a b p) (mul_above_ℤ (pos p.q) (side a b p) (q_above p) h)

pub turn_nonneg : (a b : Place) (p : Point) → pos 0 ≤ℤ side a b p → pos 0 ≤ℤ turn p a b
turn_nonneg a b p h = rw (side_is a b p) (product_nonneg (pos p.q) (side a b p) (omega (arith, ints)) h)

pub turn_nonpos : (a b : Place) (p : Point) → side a b p ≤ℤ pos 0 → turn p a b ≤ℤ pos 0
turn_nonpos a b p h = rw (side_is a b p) (product_nonpos_right (pos p.q) (side a b p) (omega (arith, ints)) h)

pub side_above : (a b : Place) (p : Point) → pos 0 <ℤ turn p a b → pos 0 <ℤ side a b p
side_above a b p h = factor_above (pos p.q) (side a b p) (rw (side_is a b p) at h) (q_above p)

pub side_nonneg : (a b : Place) (p : Point) → pos 0 ≤ℤ turn p a b → pos 0 ≤ℤ side a b p
side_nonneg a b p h = factor_nonneg (pos p.q) (side a b p) (rw (side_is a b p) at h) (q_above p)

pub side_nonpos : (a b : Place) (p : Point) → turn p a b ≤ℤ pos 0 → side a b p ≤ℤ pos 0
side_nonpos a b p h = factor_nonpos (pos p.q) (side a b p) (rw (side_is a b p) at h) (q_above p)

-- ---- heights
pub low_way : (a : Place) (p : Point) → is_low a p ≡ true → way_y p a ≤ℤ pos 0
low_way a p h = let e = int_le-true (pos p.q *ℤ a.y) p.y h in omega (arith, ints, e)

pub high_way : (a : Place) (p : Point) → is_low a p ≡ false → pos 0 <ℤ way_y p a
high_way a p h = let e = int_le-false (pos p.q *ℤ a.y) p.y h in omega (arith, ints, e)

-- ---- sides of three places
back-diff : (ax ax' ay ay' bx bx' by by' px px' py py' q q' : ℕ) → (diff ax ax' -ℤ diff bx bx') *ℤ (diff py py' -ℤ diff q q' *ℤ diff by by') -ℤ (diff ay ay' -ℤ diff by by') *ℤ (diff px px' -ℤ diff q q' *ℤ diff bx bx') ≡ neg_ℤ ((diff bx bx' -ℤ diff ax ax') *ℤ (diff py py' -ℤ diff q q' *ℤ diff ay ay') -ℤ (diff by by' -ℤ diff ay ay') *ℤ (diff px px' -ℤ diff q q' *ℤ diff ax ax'))
back-diff ax ax' ay ay' bx bx' by by' px px' py py' q q' = simp diffs (diff-eq _ _ _ _ (omega arith))

back_by : (ax ay bx by px py q : ℤ) → (ax -ℤ bx) *ℤ (py -ℤ q *ℤ by) -ℤ (ay -ℤ by) *ℤ (px -ℤ q *ℤ bx) ≡ neg_ℤ ((bx -ℤ ax) *ℤ (py -ℤ q *ℤ ay) -ℤ (by -ℤ ay) *ℤ (px -ℤ q *ℤ ax))
back_by ax ay bx by px py q =
    rw (as_diff ax, as_diff ay, as_diff bx, as_diff by, as_diff px, as_diff py, as_diff q)
    (back-diff (up ax) (down ax) (up ay) (down ay) (up bx) (down bx) (up by) (down by) (up px) (down px) (up py) (down py) (up q) (down q))

-- the side of p on the reversed edge
pub side_back : (a b : Place) (p : Point) → side b a p ≡ neg_ℤ (side a b p)
unfolding side
side_back a b p = back_by a.x a.y b.x b.y p.x p.y (pos p.q)

-- twice the signed area of the triangle a b c
abbrev pub area : Place → Place → Place → ℤ
area a b c = (a.x *ℤ b.y -ℤ b.x *ℤ a.y) +ℤ (b.x *ℤ c.y -ℤ c.x *ℤ b.y) +ℤ (c.x *ℤ a.y -ℤ a.x *ℤ c.y)

abbrev pub side_of : ℤ → ℤ → ℤ → ℤ → ℤ → ℤ → ℤ → ℤ
side_of ax ay bx by px py q = (bx -ℤ ax) *ℤ (py -ℤ q *ℤ ay) -ℤ (by -ℤ ay) *ℤ (px -ℤ q *ℤ ax)

abbrev pub area_of : ℤ → ℤ → ℤ → ℤ → ℤ → ℤ → ℤ
area_of ax ay bx by cx cy = (ax *ℤ by -ℤ bx *ℤ ay) +ℤ (bx *ℤ cy -ℤ cx *ℤ by) +ℤ (cx *ℤ ay -ℤ ax *ℤ cy)

sum-diff : (ax ax' ay ay' bx bx' by by' cx cx' cy cy' px px' py py' q q' : ℕ) → side_of (diff ax ax') (diff ay ay') (diff bx bx') (diff by by') (diff px px') (diff py py') (diff q q') +ℤ side_of (diff bx bx') (diff by by') (diff cx cx') (diff cy cy') (diff px px') (diff py py') (diff q q') +ℤ side_of (diff cx cx') (diff cy cy') (diff ax ax') (diff ay ay') (diff px px') (diff py py') (diff q q') ≡ area_of (diff ax ax') (diff ay ay') (diff bx bx') (diff by by') (diff cx cx') (diff cy cy') *ℤ diff q q'
sum-diff ax ax' ay ay' bx bx' by by' cx cx' cy cy' px px' py py' q q' = simp diffs (diff-eq _ _ _ _ (omega arith))

sum_by_ : (ax ay bx by cx cy px py q : ℤ) → side_of ax ay bx by px py q +ℤ side_of bx by cx cy px py q +ℤ side_of cx cy ax ay px py q ≡ area_of ax ay bx by cx cy *ℤ q
sum_by_ ax ay bx by cx cy px py q =
    rw (as_diff ax, as_diff ay, as_diff bx, as_diff by, as_diff cx, as_diff cy, as_diff px, as_diff py, as_diff q)
    (sum-diff (up ax) (down ax) (up ay) (down ay) (up bx) (down bx) (up by) (down by) (up cx) (down cx) (up cy) (down cy) (up px) (down px) (up py) (down py) (up q) (down q))

-- the sides of p on the three edges of a triangle
pub sides_sum : (a b c : Place) (p : Point) → side a b p +ℤ side b c p +ℤ side c a p ≡ area a b c *ℤ pos p.q
unfolding side
sides_sum a b c p = sum_by_ a.x a.y b.x b.y c.x c.y p.x p.y (pos p.q)
