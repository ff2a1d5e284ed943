-- The starting square, and that it holds each point that a permitted polygon holds.
use Rattle.std.proofs.Common.{◌≡◌, ℕ, ◌+◌, ◌-◌, ◌*◌, ◌/◌, ◌^◌, ◌<◌, ◌≤◌, max, List, [], ◌∷◌, length, map, All, Bool, true, false, IsTrue, ◌||◌, ℤ, pos, ◌+ℤ◌, ◌-ℤ◌, ◌*ℤ◌, ◌≤ℤ◌, ◌<ℤ◌, unsigned_abs, refl, sym, ap, ◌∙◌, subst, ◌⊎◌, inl, inr, ⊎_elim, arith, length-append, lit≤}
use Rattle.std.specs.List.{list_any}
use Rattle.std.specs.Float.Ieee.{size}
use Rattle.std.specs.Int.Count.{count_leading_zeros}
use Rattle.std.proofs.lemmas.Bool.{cases_lt, false≢true, and_parts, and_from}
use Rattle.std.proofs.lemmas.Nat.{leading_length, pow-add}
use Rattle.std.proofs.lemmas.List.{get_or_append_left, get_or-append_right}
use Rattle.std.proofs.lemmas.List.Elements.{All-head, All-tail, All-from_get_or}
use Rattle.std.proofs.Math.Pow.{pow_mono}
use borrow.Author.Differences.{ints, same_in}
use lib.Ieee.Digits.{size-lt, size-le}
use Rattle.siting_definitions.specs.Integer.{least, greatest}
use Rattle.siting_definitions.specs.Point.{Place, Point, grid, point_of}
use Rattle.siting_definitions.specs.Polygon.{vertex, origin, covers}
use Rattle.siting_definitions.specs.Square.{Square, Extent, IsSquare, spans, holds, holds_closed}
use Rattle.siting_definitions.specs.Instance.{Instance, IsInstance, IsPolygon}
use Rattle.siting_definitions.specs.Excluded.{box_of}
use Rattle.siting_definitions.specs.Permitted.{permits}
use Rattle.siting_definitions.specs.Sites.{vertices, span, root_of}
use Rattle.siting_definitions.proofs.Integers.{mul_comm_ℤ, mul_assoc_ℤ, mul_le_ℤ, scale_le_ℤ, mul_lt_ℤ, le_trans_ℤ, le_lt_trans_ℤ, le-int_le, lt-int_lt}
use Rattle.convex_region.proofs.Boxes.{x_of, y_of}
use Rattle.dyadic_square.proofs.Tiling.{holds_closed_from_holds}
use Rattle.convex_region.proofs.BoxLemmas.{least-at, greatest-at, lies_in_box}
use Rattle.site_model.specs.Box.{IsBoxWithin, square_of_box}
use Rattle.site_model.proofs.Extremes.{least_from_below, greatest_from_above}
use Rattle.site_model.proofs.Vertices.{some_vertices, places_of, IsBoxWithin-bounds}

-- ---- binary digits
double : (k : ℕ) → 2 ^ (k + 1) ≡ 2 * 2 ^ k
double k = pow-add 2 k 1 ∙ omega arith

-- how many binary digits there are, by the powers of two on both sides
size_by : (n m : ℕ) → n < 2 ^ m → 2 ^ m ≤ 2 * n + 1 → m ≡ size n
size_by n m fits tight =
    let below = size-lt n in
    let least = size-le n m fits in
    ⊎_elim
    (λ (less : size n < m).
    let powers : 2 ^ (size n + 1) ≤ 2 ^ m = pow_mono (omega arith) in
    absurd (omega (arith, below, powers, double (size n))))
    (λ (more : m ≤ size n). omega (arith, least))
    (cases_lt (size n) m)

digits_by : (n z m : ℕ) → count_leading_zeros 64 n + m ≡ 64 → n < 2 ^ m → 2 ^ m ≤ 2 * n + 1 → z ≡ count_leading_zeros 64 n → 64 - z ≡ size n
digits_by n z m all fits tight zeros = omega (arith, size_by n m fits tight)

-- by the zeros before them, as the code counts them
pub digits_of : (n z : ℕ) → n < 2 ^ 64 → z ≡ count_leading_zeros 64 n → 64 - z ≡ size n
digits_of n z fits zeros = let facts = leading_length 64 n fits in digits_by n z facts.0 facts.1 facts.2 facts.3 zeros

-- ---- the square over a box
span_scaled : (low high : ℤ) → unsigned_abs (pos 65536 *ℤ high -ℤ pos 65536 *ℤ low) / 65536 ≡ unsigned_abs (high -ℤ low)
span_scaled low high = omega (arith, ints)

-- the square of the box round all permitted polygons is the starting square
pub root_is : (e : Extent) (ps : List (List Place)) (i : Instance) → e ≡ box_of (vertices ps) → i.permitted ≡ ps → square_of_box e ≡ root_of i
unfolding box_of root_of
root_is e ps i box same =
    let xs = map x_of (vertices ps) in
    let ys = map y_of (vertices ps) in
    rw (box, same, span_scaled (least xs) (greatest xs), span_scaled (least ys) (greatest ys)) refl

-- the square over a box within the limits is within the limits
side_small : (low high : ℤ) → unsigned_abs low ≤ 65536000000 → unsigned_abs high ≤ 65536000000 → unsigned_abs (high -ℤ low) / 65536 < 2 ^ 21
side_small low high small large = omega (arith, ints)

corner_fits : (x : ℤ) (side : ℕ) → unsigned_abs x ≤ 65536000000 → side ≤ 2 ^ 37 → (x +ℤ pos side) ≤ℤ pos (2 ^ 38)
corner_fits x side small short = omega (arith, ints)

corner_fits_below : (x : ℤ) → unsigned_abs x ≤ 65536000000 → (pos 0) ≤ℤ (x +ℤ pos (2 ^ 38))
corner_fits_below x small = omega (arith, ints)

-- the square of a box within the limits is within the limits
pub IsSquare-over : (e : Extent) → IsBoxWithin e → IsSquare (square_of_box e)
IsSquare-over e box =
    let width = unsigned_abs (e.x1 -ℤ e.x0) / 65536 in
    let height = unsigned_abs (e.y1 -ℤ e.y0) / 65536 in
    let wide : width < 2 ^ 21 = side_small e.x0 e.x1 box.left box.right in
    let high : height < 2 ^ 21 = side_small e.y0 e.y1 box.lower box.upper in
    let both : max width height < 2 ^ 21 = omega arith in
    let digits = size-le (max width height) 21 both in
    let level : 16 + size (max width height) ≤ 37 = omega (arith, digits) in
    let short : 2 ^ (16 + size (max width height)) ≤ 2 ^ 37 = pow_mono level in
    record {
      level = level;
      left = corner_fits_below e.x0 box.left;
      right = corner_fits e.x0 _ box.left short;
      lower = corner_fits_below e.y0 box.lower;
      upper = corner_fits e.y0 _ box.lower short;
    }

-- the starting square of an instance within the limits is within the limits
pub IsSquare-root : (i : Instance) → IsInstance i → IsSquare (root_of i)
IsSquare-root i is =
    let vs = vertices i.permitted in
    let some = is.few_permitted in
    let box = IsBoxWithin-bounds vs (some_vertices i.permitted (omega arith) is.permitted) (places_of i.permitted is.permitted) in
    subst IsSquare (root_is (box_of vs) i.permitted i refl refl) (IsSquare-over (box_of vs) box)

-- the square over a box, with the parts of the square as the code has them
pub IsSquare-by : (e : Extent) (x y : ℤ) (n : ℕ) → IsBoxWithin e → x ≡ e.x0 → y ≡ e.y0 → n ≡ (square_of_box e).level → IsSquare (record { x = x; y = y; level = n })
IsSquare-by e x y n box x_is y_is n_is = rw (x_is, y_is, n_is) (IsSquare-over e box)

-- ---- a permitted polygon that holds a point
-- each vertex of the polygon is one of them all
pub record Holder (ps : List (List Place)) (vs : List Place) (p : Point) : Type 0 where
  pub covered : covers vs p ≡ true
  pub polygon : IsPolygon vs
  pub part : (k : ℕ) → k < length vs → (m : ℕ) × (m < length (vertices ps)) × (vertex (vertices ps) m ≡ vertex vs k)

-- what holds a point among some polygons holds it among more
later : (us vs : List Place) (ps : List (List Place)) (p : Point) → Holder ps vs p → Holder (us ∷ ps) vs p
later us vs ps p h = record {
  covered = h.covered;
  polygon = h.polygon;
  part =
      λ k within.
      let at = h.part k within in
      let below : at.0 < length (vertices ps) = at.1 in
      let moved : length us + at.0 - length us ≡ at.0 = omega arith in
      let past : length us ≤ length us + at.0 = omega arith in (
        length us + at.0,
        omega (arith, length-append us (vertices ps)),
        get_or-append_right us (vertices ps) (length us) (length us + at.0) origin refl past ∙ ap (vertex (vertices ps)) moved ∙ at.2,
      );
}

-- the first polygon, where it covers the point
first : (vs : List Place) (ps : List (List Place)) (p : Point) → covers vs p ≡ true → IsPolygon vs → Holder (vs ∷ ps) vs p
first vs ps p covered polygon = record {
  covered = covered;
  polygon = polygon;
  part = λ k within. (k, omega (arith, length-append vs (vertices ps)), get_or_append_left vs (vertices ps) origin k within);
}

either : (a b : Bool) → (a || b) ≡ true → (a ≡ true) ⊎ (b ≡ true)
either true b e = inl refl
either false b e = inr e

-- where some polygon covers the point, there is one that holds it
holder : (ps : List (List Place)) (p : Point) → All IsPolygon ps → list_any (λ vs. covers vs p) ps ≡ true → (vs : List Place) × Holder ps vs p
holder [] p polygons none = absurd (false≢true none)
holder (vs ∷ ps) p polygons some =
    ⊎_elim
    (λ here. (vs, first vs ps p here (All-head IsPolygon vs ps polygons)))
    (λ there. let h = holder ps p (All-tail IsPolygon vs ps polygons) there in (h.0, later vs h.0 ps p h.1))
    (either (covers vs p) (list_any (λ vs. covers vs p) ps) some)

-- the least of all vertices is at most that of one polygon's
least_of_all : (h : Place → ℤ) (ps : List (List Place)) (vs : List Place) (p : Point) → Holder ps vs p → (least (map h (vertices ps))) ≤ℤ (least (map h vs))
least_of_all h ps vs p holder =
    let few = holder.polygon.few in
    least_from_below h (least (map h (vertices ps))) vs (omega arith)
    (λ k within.
    let at = holder.part k within in
    subst (λ v. (least (map h (vertices ps))) ≤ℤ (h v)) at.2 (least-at h (vertices ps) at.0 at.1))

-- and the greatest at least that
greatest_of_all : (h : Place → ℤ) (ps : List (List Place)) (vs : List Place) (p : Point) → Holder ps vs p → (greatest (map h vs)) ≤ℤ (greatest (map h (vertices ps)))
greatest_of_all h ps vs p holder =
    let few = holder.polygon.few in
    greatest_from_above h (greatest (map h (vertices ps))) vs (omega arith)
    (λ k within.
    let at = holder.part k within in
    subst (λ v. (h v) ≤ℤ (greatest (map h (vertices ps)))) at.2 (greatest-at h (vertices ps) at.0 at.1))

-- ---- the law
scaled_lt : (q : ℕ) (a b : ℤ) → 1 ≤ q → a <ℤ b → (pos q *ℤ a) <ℤ (pos q *ℤ b)
scaled_lt q a b one h = let e : (a *ℤ pos q) <ℤ (b *ℤ pos q) = mul_lt_ℤ a b q one h in omega (arith, ints, e, mul_comm_ℤ (pos q) a, mul_comm_ℤ (pos q) b)

moved : (q : ℕ) (a : ℤ) → (pos q *ℤ a) *ℤ pos 65536 ≡ pos q *ℤ (pos 65536 *ℤ a)
moved q a = mul_assoc_ℤ (pos q) a (pos 65536) ∙ ap (λ z. pos q *ℤ z) (mul_comm_ℤ a (pos 65536))

in_grid_units : (q : ℕ) (a v : ℤ) → (pos q *ℤ a) ≤ℤ v → (pos q *ℤ (pos 65536 *ℤ a)) ≤ℤ (pos 65536 *ℤ v)
in_grid_units q a v h =
    subst (λ z. z ≤ℤ (pos 65536 *ℤ v)) (moved q a)
    (subst (λ z. ((pos q *ℤ a) *ℤ pos 65536) ≤ℤ z) (mul_comm_ℤ v (pos 65536)) (mul_le_ℤ (pos q *ℤ a) v 65536 h))

sum_in_grid_units : (a : ℤ) (s : ℕ) → pos 65536 *ℤ (a +ℤ pos s) ≡ pos 65536 *ℤ a +ℤ pos (65536 * s)
sum_in_grid_units a s = same_in _ _ (omega (arith, ints))

below_in_grid_units : (q s : ℕ) (a v : ℤ) → v <ℤ (pos q *ℤ (a +ℤ pos s)) → (pos 65536 *ℤ v) <ℤ (pos q *ℤ (pos 65536 *ℤ a +ℤ pos (65536 * s)))
below_in_grid_units q s a v h =
    subst (λ z. (pos 65536 *ℤ v) <ℤ z) (moved q (a +ℤ pos s) ∙ ap (λ z. pos q *ℤ z) (sum_in_grid_units a s))
    (subst (λ z. z <ℤ ((pos q *ℤ (a +ℤ pos s)) *ℤ pos 65536)) (mul_comm_ℤ v (pos 65536)) (mul_lt_ℤ v (pos q *ℤ (a +ℤ pos s)) 65536 (lit≤ tt) h))

-- the span of the side covers the numbers from low to high
within_span : (low high : ℤ) (s : ℕ) → unsigned_abs (high -ℤ low) < s → high <ℤ (low +ℤ pos s)
within_span low high s short = omega (arith, ints)

side_is : (n : ℕ) → 2 ^ (16 + n) ≡ 65536 * 2 ^ n
side_is n = pow-add 2 16 n

-- one axis: v / q lies between ends that lie between the least and the greatest number
axis : (low high v : ℤ) (q n : ℕ) → 1 ≤ q → unsigned_abs (high -ℤ low) < 2 ^ n → (pos q *ℤ low) ≤ℤ v → v ≤ℤ (pos q *ℤ high) → spans (pos 65536 *ℤ low) (2 ^ (16 + n)) q v ≡ true
axis low high v q n one short above below =
    let under : high <ℤ (low +ℤ pos (2 ^ n)) = within_span low high (2 ^ n) short in
    let strict : v <ℤ (pos q *ℤ (low +ℤ pos (2 ^ n))) = le_lt_trans_ℤ v _ _ below (scaled_lt q high (low +ℤ pos (2 ^ n)) one under) in
    let on_grid = below_in_grid_units q (2 ^ n) low v strict in
    and_from _ _ (le-int_le _ _ (in_grid_units q low v above))
    (lt-int_lt _ _ (subst (λ m. (pos 65536 *ℤ v) <ℤ (pos q *ℤ (pos 65536 *ℤ low +ℤ pos m))) (sym (side_is n)) on_grid))

-- the square over the box of places holds each of them
square_holds : (vs : List Place) (k : ℕ) → k < length vs → holds (square_of_box (box_of vs)) (point_of (grid (vertex vs k))) ≡ true
unfolding box_of holds
square_holds vs k within =
    let xs = map x_of vs in
    let ys = map y_of vs in
    let v = vertex vs k in
    let width = unsigned_abs (pos 65536 *ℤ greatest xs -ℤ pos 65536 *ℤ least xs) / 65536 in
    let height = unsigned_abs (pos 65536 *ℤ greatest ys -ℤ pos 65536 *ℤ least ys) / 65536 in
    let digits = size-lt (max width height) in
    let wide : unsigned_abs (greatest xs -ℤ least xs) < 2 ^ size (max width height) = omega (arith, digits, span_scaled (least xs) (greatest xs)) in
    let high : unsigned_abs (greatest ys -ℤ least ys) < 2 ^ size (max width height) = omega (arith, digits, span_scaled (least ys) (greatest ys)) in
    and_from _ _
    (axis (least xs) (greatest xs) (pos 65536 *ℤ v.x) 65536 (size (max width height)) (lit≤ tt) wide (scale_le_ℤ 65536 _ _ (least-at x_of vs k within)) (scale_le_ℤ 65536 _ _ (greatest-at x_of vs k within)))
    (axis (least ys) (greatest ys) (pos 65536 *ℤ v.y) 65536 (size (max width height)) (lit≤ tt) high (scale_le_ℤ 65536 _ _ (least-at y_of vs k within)) (scale_le_ℤ 65536 _ _ (greatest-at y_of vs k within)))

-- and so does the closed square
pub all_held : (vs : List Place) (s : Square) → s ≡ square_of_box (box_of vs) → All (λ v. IsTrue (holds_closed s (point_of (grid v)))) vs
all_held vs s over =
    All-from_get_or (λ v. IsTrue (holds_closed s (point_of (grid v)))) vs origin
    (λ k within.
    let p = point_of (grid (vertex vs k)) in
    holds_closed_from_holds s p (ap (λ t. holds t p) over ∙ square_holds vs k within))

-- the starting square holds each permitted point
pub root_holds : (i : Instance) (p : Point) → IsInstance i → permits i p ≡ true → holds (root_of i) p ≡ true
unfolding permits holds root_of
root_holds i p limits permitted =
    let found = holder i.permitted p limits.permitted (and_parts _ _ permitted).0 in
    let all = vertices i.permitted in
    let xs = map x_of all in
    let ys = map y_of all in
    let box = lies_in_box found.0 p found.1.polygon found.1.covered in
    let digits = size-lt (span all) in
    let wide : unsigned_abs (greatest xs -ℤ least xs) < 2 ^ size (span all) = omega (arith, digits) in
    let high : unsigned_abs (greatest ys -ℤ least ys) < 2 ^ size (span all) = omega (arith, digits) in
    and_from _ _
    (axis (least xs) (greatest xs) p.x p.q (size (span all)) p.q_pos wide
    (le_trans_ℤ _ _ _ (scale_le_ℤ p.q _ _ (least_of_all x_of i.permitted found.0 p found.1)) box.left)
    (le_trans_ℤ _ _ _ box.right (scale_le_ℤ p.q _ _ (greatest_of_all x_of i.permitted found.0 p found.1))))
    (axis (least ys) (greatest ys) p.y p.q (size (span all)) p.q_pos high
    (le_trans_ℤ _ _ _ (scale_le_ℤ p.q _ _ (least_of_all y_of i.permitted found.0 p found.1)) box.lower)
    (le_trans_ℤ _ _ _ box.upper (scale_le_ℤ p.q _ _ (greatest_of_all y_of i.permitted found.0 p found.1))))

-- ---- its side
-- the extent is below the side in whole lengths
pub root_above : (i : Instance) → span (vertices i.permitted) < 2 ^ ((root_of i).level - 16)
unfolding root_of
root_above i =
    let same : (16 + size (span (vertices i.permitted))) - 16 ≡ size (span (vertices i.permitted)) = omega arith in
    rw same (size-lt (span (vertices i.permitted)))

-- and below no lesser power of two
pub root_least : (i : Instance) (k : ℕ) → span (vertices i.permitted) < 2 ^ k → (root_of i).level ≤ 16 + k
unfolding root_of
root_least i k above = omega (arith, size-le (span (vertices i.permitted)) k above)
