-- Points in the interior of a convex piece: what lies on or to one side of all its corners, and the centroid of three corners.
use Rattle.std.proofs.Common.{◌≡◌, ◌≢◌, ℕ, zero, suc, ◌-◌, ◌<◌, ◌≤◌, ◌⊎◌, ⊎_elim, inl, inr, Bool, true, cond, List, length, ℤ, pos, ◌+ℤ◌, ◌-ℤ◌, ◌*ℤ◌, neg_ℤ, ◌≤ℤ◌, ◌<ℤ◌, sym, ◌∙◌, ap, subst, arith}
use Rattle.std.specs.Prelude.{◌==◌, int_lt}
use Rattle.std.proofs.lemmas.Int.{by_lt_z, ints}
use Rattle.std.proofs.lemmas.Bool.{cases_lt, cases_eq}
use Rattle.std.proofs.lemmas.Bool.Decides.{nat_tests}
use Rattle.std.proofs.lemmas.List.Sums.{AllPass-from_list_all, list_all-from_AllPass}
use Rattle.std.proofs.lemmas.List.Elements.{All-get_or, All-from_get_or}
use borrow.Author.Differences.{up, down, same_in}
use Rattle.siting_definitions.specs.Point.{Place, Point, grid, point_of, side}
use Rattle.siting_definitions.specs.Polygon.{edges, vertex, next_of, origin, covers_inside}
use Rattle.siting_definitions.proofs.Integers.{diff, diffs, diff-eq, as_diff, pos-diff, mul_above_ℤ, mul_comm_ℤ, neg_mul_ℤ, int_lt-true, lt-int_lt}
use Rattle.convex_region.proofs.Edges.{length-edges, edge_at, next-below}
use Rattle.edge_chain.specs.Chain.{Edge}
use Rattle.edge_chain.specs.Piece.{at, IsPiece, inner_point}
use Rattle.edge_chain.proofs.Vectors.{det, side_of, side_back, product_nonneg, factor_above}

-- ---- the way from a place v to a point, times the point's denominator
abbrev from_x : Place → Point → ℤ
from_x v r = r.x -ℤ pos r.q *ℤ v.x

abbrev from_y : Place → Point → ℤ
from_y v r = r.y -ℤ pos r.q *ℤ v.y

end-diff : (ux ux' uy uy' vx vx' vy vy' px px' py py' q q' : ℕ) → side_of (diff ux ux') (diff uy uy') (diff vx vx') (diff vy vy') (diff px px') (diff py py') (diff q q') ≡ det (diff px px' -ℤ diff q q' *ℤ diff vx vx') (diff py py' -ℤ diff q q' *ℤ diff vy vy') (diff ux ux' -ℤ diff 1 0 *ℤ diff vx vx') (diff uy uy' -ℤ diff 1 0 *ℤ diff vy vy')
end-diff ux ux' uy uy' vx vx' vy vy' px px' py py' q q' = simp diffs (diff-eq _ _ _ _ (omega arith))

end_by : (ux uy vx vy px py q : ℤ) → side_of ux uy vx vy px py q ≡ det (px -ℤ q *ℤ vx) (py -ℤ q *ℤ vy) (ux -ℤ diff 1 0 *ℤ vx) (uy -ℤ diff 1 0 *ℤ vy)
end_by ux uy vx vy px py q =
    rw (as_diff ux, as_diff uy, as_diff vx, as_diff vy, as_diff px, as_diff py, as_diff q)
    (end-diff (up ux) (down ux) (up uy) (down uy) (up vx) (down vx) (up vy) (down vy) (up px) (down px) (up py) (down py) (up q) (down q))

-- the side of p on an edge that ends at v
side_to : (u v : Place) (p : Point) → side u v p ≡ det (from_x v p) (from_y v p) (from_x v (at u)) (from_y v (at u))
unfolding side
side_to u v p =
    end_by u.x u.y v.x v.y p.x p.y (pos p.q)
    ∙ ap (λ w. det (p.x -ℤ pos p.q *ℤ v.x) (p.y -ℤ pos p.q *ℤ v.y) (u.x -ℤ w *ℤ v.x) (u.y -ℤ w *ℤ v.y)) (sym (pos-diff 1))

start-diff : (ux ux' uy uy' vx vx' vy vy' px px' py py' q q' : ℕ) → side_of (diff vx vx') (diff vy vy') (diff ux ux') (diff uy uy') (diff px px') (diff py py') (diff q q') ≡ det (diff ux ux' -ℤ diff 1 0 *ℤ diff vx vx') (diff uy uy' -ℤ diff 1 0 *ℤ diff vy vy') (diff px px' -ℤ diff q q' *ℤ diff vx vx') (diff py py' -ℤ diff q q' *ℤ diff vy vy')
start-diff ux ux' uy uy' vx vx' vy vy' px px' py py' q q' = simp diffs (diff-eq _ _ _ _ (omega arith))

start_by : (ux uy vx vy px py q : ℤ) → side_of vx vy ux uy px py q ≡ det (ux -ℤ diff 1 0 *ℤ vx) (uy -ℤ diff 1 0 *ℤ vy) (px -ℤ q *ℤ vx) (py -ℤ q *ℤ vy)
start_by ux uy vx vy px py q =
    rw (as_diff ux, as_diff uy, as_diff vx, as_diff vy, as_diff px, as_diff py, as_diff q)
    (start-diff (up ux) (down ux) (up uy) (down uy) (up vx) (down vx) (up vy) (down vy) (up px) (down px) (up py) (down py) (up q) (down q))

-- and on one that starts there
side_from : (v w : Place) (p : Point) → side v w p ≡ det (from_x v (at w)) (from_y v (at w)) (from_x v p) (from_y v p)
unfolding side
side_from v w p =
    start_by w.x w.y v.x v.y p.x p.y (pos p.q)
    ∙ ap (λ z. det (w.x -ℤ z *ℤ v.x) (w.y -ℤ z *ℤ v.y) (p.x -ℤ pos p.q *ℤ v.x) (p.y -ℤ pos p.q *ℤ v.y)) (sym (pos-diff 1))

grid-diff : (ux ux' uy uy' vx vx' vy vy' wx wx' wy wy' s s' : ℕ) → side_of (diff ux ux') (diff uy uy') (diff vx vx') (diff vy vy') (diff s s' *ℤ diff wx wx') (diff s s' *ℤ diff wy wy') (diff s s') ≡ diff s s' *ℤ side_of (diff ux ux') (diff uy uy') (diff vx vx') (diff vy vy') (diff wx wx') (diff wy wy') (diff 1 0)
grid-diff ux ux' uy uy' vx vx' vy vy' wx wx' wy wy' s s' = simp diffs (diff-eq _ _ _ _ (omega arith))

grid_by : (ux uy vx vy wx wy s : ℤ) → side_of ux uy vx vy (s *ℤ wx) (s *ℤ wy) s ≡ s *ℤ side_of ux uy vx vy wx wy (diff 1 0)
grid_by ux uy vx vy wx wy s =
    rw (as_diff ux, as_diff uy, as_diff vx, as_diff vy, as_diff wx, as_diff wy, as_diff s)
    (grid-diff (up ux) (down ux) (up uy) (down uy) (up vx) (down vx) (up vy) (down vy) (up wx) (down wx) (up wy) (down wy) (up s) (down s))

-- the side of a place as a grid point and as a point
pub side_grid : (u v w : Place) → side u v (point_of (grid w)) ≡ pos 65536 *ℤ side u v (at w)
unfolding side
side_grid u v w =
    grid_by u.x u.y v.x v.y w.x w.y (pos 65536)
    ∙ ap (λ z. pos 65536 *ℤ side_of u.x u.y v.x v.y w.x w.y z) (sym (pos-diff 1))

line-diff : (ax ax' ay ay' bx bx' by by' vx vx' vy vy' rx rx' ry ry' q q' : ℕ) → side_of (diff ax ax') (diff ay ay') (diff bx bx') (diff by by') (diff rx rx') (diff ry ry') (diff q q') ≡ diff q q' *ℤ side_of (diff ax ax') (diff ay ay') (diff bx bx') (diff by by') (diff vx vx') (diff vy vy') (diff 1 0) +ℤ det (diff bx bx' -ℤ diff ax ax') (diff by by' -ℤ diff ay ay') (diff rx rx' -ℤ diff q q' *ℤ diff vx vx') (diff ry ry' -ℤ diff q q' *ℤ diff vy vy')
line-diff ax ax' ay ay' bx bx' by by' vx vx' vy vy' rx rx' ry ry' q q' = simp diffs (diff-eq _ _ _ _ (omega arith))

line_by : (ax ay bx by vx vy rx ry q : ℤ) → side_of ax ay bx by rx ry q ≡ q *ℤ side_of ax ay bx by vx vy (diff 1 0) +ℤ det (bx -ℤ ax) (by -ℤ ay) (rx -ℤ q *ℤ vx) (ry -ℤ q *ℤ vy)
line_by ax ay bx by vx vy rx ry q =
    rw (as_diff ax, as_diff ay, as_diff bx, as_diff by, as_diff vx, as_diff vy, as_diff rx, as_diff ry, as_diff q)
    (line-diff (up ax) (down ax) (up ay) (down ay) (up bx) (down bx) (up by) (down by) (up vx) (down vx) (up vy) (down vy) (up rx) (down rx) (up ry) (down ry) (up q) (down q))

-- the side of a point on any edge, by that of v and the way from v
side_by_way : (a b v : Place) (r : Point) → side a b r ≡ pos r.q *ℤ side a b (at v) +ℤ det (b.x -ℤ a.x) (b.y -ℤ a.y) (from_x v r) (from_y v r)
unfolding side
side_by_way a b v r =
    line_by a.x a.y b.x b.y v.x v.y r.x r.y (pos r.q)
    ∙ ap (λ z. pos r.q *ℤ side_of a.x a.y b.x b.y v.x v.y z +ℤ det (b.x -ℤ a.x) (b.y -ℤ a.y) (r.x -ℤ pos r.q *ℤ v.x) (r.y -ℤ pos r.q *ℤ v.y)) (sym (pos-diff 1))

four-diff : (dx dx' dy dy' px px' py py' wx wx' wy wy' ux ux' uy uy' : ℕ) → det (diff wx wx') (diff wy wy') (diff ux ux') (diff uy uy') *ℤ det (diff dx dx') (diff dy dy') (diff px px') (diff py py') ≡ det (diff dx dx') (diff dy dy') (diff wx wx') (diff wy wy') *ℤ det (diff px px') (diff py py') (diff ux ux') (diff uy uy') +ℤ det (diff dx dx') (diff dy dy') (diff ux ux') (diff uy uy') *ℤ det (diff wx wx') (diff wy wy') (diff px px') (diff py py')
four-diff dx dx' dy dy' px px' py py' wx wx' wy wy' ux ux' uy uy' = simp diffs (diff-eq _ _ _ _ (omega arith))

-- four vectors d, p, w and u
four_vectors : (dx dy px py wx wy ux uy : ℤ) → det wx wy ux uy *ℤ det dx dy px py ≡ det dx dy wx wy *ℤ det px py ux uy +ℤ det dx dy ux uy *ℤ det wx wy px py
four_vectors dx dy px py wx wy ux uy =
    rw (as_diff dx, as_diff dy, as_diff px, as_diff py, as_diff wx, as_diff wy, as_diff ux, as_diff uy)
    (four-diff (up dx) (down dx) (up dy) (down dy) (up px) (down px) (up py) (down py) (up wx) (down wx) (up wy) (down wy) (up ux) (down ux) (up uy) (down uy))

first-diff : (dx dx' dy dy' wx wx' wy wy' ux ux' uy uy' : ℕ) → det (diff wx wx') (diff wy wy') (diff ux ux') (diff uy uy') *ℤ diff dx dx' ≡ diff wx wx' *ℤ det (diff dx dx') (diff dy dy') (diff ux ux') (diff uy uy') -ℤ diff ux ux' *ℤ det (diff dx dx') (diff dy dy') (diff wx wx') (diff wy wy')
first-diff dx dx' dy dy' wx wx' wy wy' ux ux' uy uy' = simp diffs (diff-eq _ _ _ _ (omega arith))

-- d by w and u, on each axis
first_part : (dx dy wx wy ux uy : ℤ) → det wx wy ux uy *ℤ dx ≡ wx *ℤ det dx dy ux uy -ℤ ux *ℤ det dx dy wx wy
first_part dx dy wx wy ux uy =
    rw (as_diff dx, as_diff dy, as_diff wx, as_diff wy, as_diff ux, as_diff uy)
    (first-diff (up dx) (down dx) (up dy) (down dy) (up wx) (down wx) (up wy) (down wy) (up ux) (down ux) (up uy) (down uy))

second-diff : (dx dx' dy dy' wx wx' wy wy' ux ux' uy uy' : ℕ) → det (diff wx wx') (diff wy wy') (diff ux ux') (diff uy uy') *ℤ diff dy dy' ≡ diff wy wy' *ℤ det (diff dx dx') (diff dy dy') (diff ux ux') (diff uy uy') -ℤ diff uy uy' *ℤ det (diff dx dx') (diff dy dy') (diff wx wx') (diff wy wy')
second-diff dx dx' dy dy' wx wx' wy wy' ux ux' uy uy' = simp diffs (diff-eq _ _ _ _ (omega arith))

second_part : (dx dy wx wy ux uy : ℤ) → det wx wy ux uy *ℤ dy ≡ wy *ℤ det dx dy ux uy -ℤ uy *ℤ det dx dy wx wy
second_part dx dy wx wy ux uy =
    rw (as_diff dx, as_diff dy, as_diff wx, as_diff wy, as_diff ux, as_diff uy)
    (second-diff (up dx) (down dx) (up dy) (down dy) (up wx) (down wx) (up wy) (down wy) (up ux) (down ux) (up uy) (down uy))

-- ---- four vectors by signs: w and u turn left, p lies strictly between them, and neither w nor u lies to the right of d
-- a number that is 0 after a product with one above 0 is 0
zero_factor : (k x y z r s : ℤ) → k *ℤ x ≡ y *ℤ r -ℤ z *ℤ s → pos 0 <ℤ k → r ≡ pos 0 → s ≡ pos 0 → x ≡ pos 0
zero_factor k x y z r s law above r0 s0 =
    let product : k *ℤ x ≡ pos 0 = law ∙ ap (λ w. y *ℤ w -ℤ z *ℤ s) r0 ∙ ap (λ w. y *ℤ pos 0 -ℤ z *ℤ w) s0 ∙ nothing y z in
    by_lt_z (pos 0) x
    (λ more. let e = mul_above_ℤ k x above more in absurd (omega (arith, ints, e, product)))
    (λ le.
    by_lt_z x (pos 0)
    (λ less. let e = mul_above_ℤ k (neg_ℤ x) above (omega (arith, ints)) in absurd (omega (arith, ints, e, product, mul_comm_ℤ k (neg_ℤ x), mul_comm_ℤ k x, neg_mul_ℤ x k)))
    (λ ge. same_in _ _ (omega (arith, ints))))
  where
    nothing : (y z : ℤ) → y *ℤ pos 0 -ℤ z *ℤ pos 0 ≡ pos 0
    nothing y z = same_in _ _ (omega (arith, ints))

ahead : (dx dy px py wx wy ux uy : ℤ) → pos 0 <ℤ det wx wy ux uy → pos 0 <ℤ det px py ux uy → pos 0 <ℤ det wx wy px py → pos 0 ≤ℤ det dx dy wx wy → pos 0 ≤ℤ det dx dy ux uy → (pos 0 <ℤ det dx dy px py) ⊎ ((dx ≡ pos 0) × (dy ≡ pos 0))
ahead dx dy px py wx wy ux uy left s t w u =
    let law = four_vectors dx dy px py wx wy ux uy in
    let first = product_nonneg (det dx dy wx wy) (det px py ux uy) w (omega (arith, ints)) in
    let second = product_nonneg (det dx dy ux uy) (det wx wy px py) u (omega (arith, ints)) in
    by_lt_z (pos 0) (det dx dy wx wy)
    (λ more. let e = mul_above_ℤ (det dx dy wx wy) (det px py ux uy) more s in inl (factor_above (det wx wy ux uy) (det dx dy px py) (omega (arith, ints, law, e, second)) left))
    (λ w0.
    by_lt_z (pos 0) (det dx dy ux uy)
    (λ more. let e = mul_above_ℤ (det dx dy ux uy) (det wx wy px py) more t in inl (factor_above (det wx wy ux uy) (det dx dy px py) (omega (arith, ints, law, e, first)) left))
    (λ u0.
    let r : det dx dy ux uy ≡ pos 0 = same_in _ _ (omega (arith, ints)) in
    let s : det dx dy wx wy ≡ pos 0 = same_in _ _ (omega (arith, ints)) in
    inr (zero_factor (det wx wy ux uy) dx wx ux (det dx dy ux uy) (det dx dy wx wy) (first_part dx dy wx wy ux uy) left r s, zero_factor (det wx wy ux uy) dy wy uy (det dx dy ux uy) (det dx dy wx wy) (second_part dx dy wx wy ux uy) left r s)))

-- ---- the vertex before another, and a farthest vertex
abbrev before : ℕ → ℕ → ℕ
before n m = cond (m == 0) (n - 1) (m - 1)

before_below : (n m : ℕ) → m < n → before n m < n
before_below n m h = grind (arith, nat_tests)

next_of-before : (n m : ℕ) → m < n → next_of n (before n m) ≡ m
next_of-before n m h = grind (arith, nat_tests)

next_not_before : (n m : ℕ) → 3 ≤ n → m < n → next_of n m ≢ before n m
next_not_before n m few h = grind (arith, nat_tests)

next_not_same : (n m : ℕ) → 3 ≤ n → m < n → next_of n m ≢ m
next_not_same n m few h = grind (arith, nat_tests)

-- of the numbers at 0 to k, none is less than the one at m
record IsLeast (g : ℕ → ℤ) (k m : ℕ) : Type 0 where
  within : m ≤ k
  all : (j : ℕ) → j ≤ k → (g m) ≤ℤ (g j)

same_number : (g : ℕ → ℤ) (i j : ℕ) → i ≡ j → (g i) ≤ℤ (g j)
same_number g i j e = let f : g i ≡ g j = ap g e in omega (arith, ints, f)

-- of finitely many numbers one is the least
least_one : (g : ℕ → ℤ) (k : ℕ) → (m : ℕ) × IsLeast g k m
least_one g zero = (0, record { within = omega arith; all = λ j h. same_number g 0 j (omega arith) })
least_one g (suc k) =
    let m = (least_one g k).0 in
    let last = (least_one g k).1 in
    by_lt_z (g (suc k)) (g m)
    (λ less. (
      suc k,
      record {
        within = omega arith;
        all = λ j h. ⊎_elim (λ below. let e = last.all j (omega arith) in omega (arith, ints, e)) (λ not_below. same_number g (suc k) j (omega arith)) (cases_lt j (suc k));
      },
    ))
    (λ more. (
      m,
      record {
        within = let e = last.within in omega arith;
        all = λ j h. ⊎_elim (λ below. last.all j (omega arith)) (λ not_below. let e = same_number g (suc k) j (omega arith) in omega (arith, ints, e)) (cases_lt j (suc k));
      },
    ))

-- ---- a piece by its indices
-- p lies strictly to the left of each edge of a piece that holds it in its interior
pub inside_at : (vs : List Place) (p : Point) (i : ℕ) → i < length vs → covers_inside vs p ≡ true → pos 0 <ℤ side (vertex vs i) (vertex vs (next_of (length vs) i)) p
unfolding covers_inside
inside_at vs p i within all =
    let test : Edge → Bool = λ e. int_lt (pos 0) (side e.0 e.1 p) in
    let passes : Edge → Type 0 = λ e. test e ≡ true in
    let here = All-get_or passes (edges vs) i (origin, origin) (omega (arith, length-edges vs)) (AllPass-from_list_all test (edges vs) all) in
    int_lt-true _ _ (subst passes (edge_at vs i within) here)

-- a corner that is no end of an edge lies strictly to its left
corner_left : (vs : List Place) (i j : ℕ) → IsPiece vs → i < length vs → j < length vs → j ≢ i → j ≢ next_of (length vs) i → pos 0 <ℤ side (vertex vs i) (vertex vs (next_of (length vs) i)) (at (vertex vs j))
corner_left vs i j piece hi hj start end =
    let s = vertex vs i in
    let t = vertex vs (next_of (length vs) i) in
    factor_above (pos 65536) (side s t (at (vertex vs j))) (subst (λ z. pos 0 <ℤ z) (side_grid s t (vertex vs j)) (piece.convex i j hi hj start end)) (omega (arith, ints))

place_by : ℤ → ℤ → Place
place_by x y = record { x = x; y = y }

place_same : (v w : Place) → v.x ≡ w.x → v.y ≡ w.y → v ≡ w
unfolding place_by
place_same v w ex ey = ap (λ x. place_by x v.y) ex ∙ ap (λ y. place_by w.x y) ey

-- where no corner lies to the right of an edge's line, a point in the interior lies strictly to its left, or the edge is a point
pub inside_left : (vs : List Place) (p : Point) (a b : Place) → IsPiece vs → covers_inside vs p ≡ true → ((i : ℕ) → i < length vs → pos 0 ≤ℤ side a b (at (vertex vs i))) → (pos 0 <ℤ side a b p) ⊎ (b ≡ a)
inside_left vs p a b piece inside beside =
    let n = length vs in
    let few : 3 ≤ n = piece.few in
    let g : ℕ → ℤ = λ j. side a b (at (vertex vs j)) in
    let m = (least_one g (n - 1)).0 in
    let least = (least_one g (n - 1)).1 in
    let last : m ≤ n - 1 = least.within in
    let within : m < n = omega arith in
    let back = before_below n m within in
    let next = next-below n m within in
    let is : next_of n (before n m) ≡ m = next_of-before n m within in
    let u = vertex vs (before n m) in
    let v = vertex vs m in
    let w = vertex vs (next_of n m) in
    let edge : pos 0 <ℤ side u v p = subst (λ k. pos 0 <ℤ side u (vertex vs k) p) is (inside_at vs p (before n m) back inside) in
    let corner : pos 0 <ℤ side u v (at w) = subst (λ k. pos 0 <ℤ side u (vertex vs k) (at w)) is (corner_left vs (before n m) (next_of n m) piece back next (next_not_before n m few within) (λ e. next_not_same n m few within (e ∙ is))) in
    let to_p : pos 0 <ℤ det (from_x v p) (from_y v p) (from_x v (at u)) (from_y v (at u)) = subst (λ z. pos 0 <ℤ z) (side_to u v p) edge in
    let to_w : pos 0 <ℤ det (from_x v (at w)) (from_y v (at w)) (from_x v (at u)) (from_y v (at u)) = subst (λ z. pos 0 <ℤ z) (side_to u v (at w)) corner in
    let from_p : pos 0 <ℤ det (from_x v (at w)) (from_y v (at w)) (from_x v p) (from_y v p) = subst (λ z. pos 0 <ℤ z) (side_from v w p) (inside_at vs p m within inside) in
    let at_v : pos 0 ≤ℤ side a b (at v) = beside m within in
    let ge_w : side a b (at v) ≤ℤ side a b (at w) = least.all (next_of n m) (omega arith) in
    let ge_u : side a b (at v) ≤ℤ side a b (at u) = least.all (before n m) (omega arith) in
    let turn_w : pos 0 ≤ℤ det (b.x -ℤ a.x) (b.y -ℤ a.y) (from_x v (at w)) (from_y v (at w)) = one_way (side a b (at v)) (side a b (at w)) _ (side_by_way a b v (at w)) ge_w in
    let turn_u : pos 0 ≤ℤ det (b.x -ℤ a.x) (b.y -ℤ a.y) (from_x v (at u)) (from_y v (at u)) = one_way (side a b (at v)) (side a b (at u)) _ (side_by_way a b v (at u)) ge_u in
    ⊎_elim
    (λ above. let e = product_nonneg (pos p.q) (side a b (at v)) (omega (arith, ints)) at_v in inl (omega (arith, ints, side_by_way a b v p, e, above)))
    (λ none. inr (sym (place_same a b (same_in _ _ (let e = none.0 in omega (arith, ints, e))) (same_in _ _ (let e = none.1 in omega (arith, ints, e))))))
    (ahead (b.x -ℤ a.x) (b.y -ℤ a.y) (from_x v p) (from_y v p) (from_x v (at w)) (from_y v (at w)) (from_x v (at u)) (from_y v (at u)) to_w to_p from_p turn_w turn_u)
  where
    one_way : (x y d : ℤ) → y ≡ pos 1 *ℤ x +ℤ d → x ≤ℤ y → pos 0 ≤ℤ d
    one_way x y d law le = omega (arith, ints)

-- ---- the centroid of three corners lies in the interior
centroid-diff : (sx sx' sy sy' tx tx' ty ty' ax ax' ay ay' bx bx' by by' cx cx' cy cy' : ℕ) → side_of (diff sx sx') (diff sy sy') (diff tx tx') (diff ty ty') (diff ax ax' +ℤ diff bx bx' +ℤ diff cx cx') (diff ay ay' +ℤ diff by by' +ℤ diff cy cy') (diff 3 0) ≡ side_of (diff sx sx') (diff sy sy') (diff tx tx') (diff ty ty') (diff ax ax') (diff ay ay') (diff 1 0) +ℤ side_of (diff sx sx') (diff sy sy') (diff tx tx') (diff ty ty') (diff bx bx') (diff by by') (diff 1 0) +ℤ side_of (diff sx sx') (diff sy sy') (diff tx tx') (diff ty ty') (diff cx cx') (diff cy cy') (diff 1 0)
centroid-diff sx sx' sy sy' tx tx' ty ty' ax ax' ay ay' bx bx' by by' cx cx' cy cy' = simp diffs (diff-eq _ _ _ _ (omega arith))

centroid_by : (sx sy tx ty ax ay bx by cx cy : ℤ) → side_of sx sy tx ty (ax +ℤ bx +ℤ cx) (ay +ℤ by +ℤ cy) (diff 3 0) ≡ side_of sx sy tx ty ax ay (diff 1 0) +ℤ side_of sx sy tx ty bx by (diff 1 0) +ℤ side_of sx sy tx ty cx cy (diff 1 0)
centroid_by sx sy tx ty ax ay bx by cx cy =
    rw (as_diff sx, as_diff sy, as_diff tx, as_diff ty, as_diff ax, as_diff ay, as_diff bx, as_diff by, as_diff cx, as_diff cy)
    (centroid-diff (up sx) (down sx) (up sy) (down sy) (up tx) (down tx) (up ty) (down ty) (up ax) (down ax) (up ay) (down ay) (up bx) (down bx) (up by) (down by) (up cx) (down cx) (up cy) (down cy))

centroid_side : (s t : Place) (vs : List Place) → side s t (inner_point vs) ≡ side s t (at (vertex vs 0)) +ℤ side s t (at (vertex vs 1)) +ℤ side s t (at (vertex vs 2))
unfolding side
centroid_side s t vs =
    let a = vertex vs 0 in
    let b = vertex vs 1 in
    let c = vertex vs 2 in
    ap (λ z. side_of s.x s.y t.x t.y (a.x +ℤ b.x +ℤ c.x) (a.y +ℤ b.y +ℤ c.y) z) (pos-diff 3)
    ∙ centroid_by s.x s.y t.x t.y a.x a.y b.x b.y c.x c.y
    ∙ ap (λ z. side_of s.x s.y t.x t.y a.x a.y z +ℤ side_of s.x s.y t.x t.y b.x b.y z +ℤ side_of s.x s.y t.x t.y c.x c.y z) (sym (pos-diff 1))

start-zero : (sx sx' sy sy' tx tx' ty ty' : ℕ) → side_of (diff sx sx') (diff sy sy') (diff tx tx') (diff ty ty') (diff sx sx') (diff sy sy') (diff 1 0) ≡ diff 0 0
start-zero sx sx' sy sy' tx tx' ty ty' = simp diffs (diff-eq _ _ _ _ (omega arith))

zero_by : (sx sy tx ty : ℤ) → side_of sx sy tx ty sx sy (diff 1 0) ≡ diff 0 0
zero_by sx sy tx ty =
    rw (as_diff sx, as_diff sy, as_diff tx, as_diff ty) (start-zero (up sx) (down sx) (up sy) (down sy) (up tx) (down tx) (up ty) (down ty))

-- the ends of an edge lie on its line
pub side_at_start : (s t : Place) → side s t (at s) ≡ pos 0
unfolding side
side_at_start s t = ap (λ z. side_of s.x s.y t.x t.y s.x s.y z) (pos-diff 1) ∙ zero_by s.x s.y t.x t.y ∙ sym (pos-diff 0)

pub side_at_end : (s t : Place) → side s t (at t) ≡ pos 0
side_at_end s t = same_in _ _ (omega (arith, ints, side_back t s (at t), side_at_start t s))

-- no corner lies to the right of an edge, and one on its line is an end
corner_beside : (vs : List Place) (i j : ℕ) → IsPiece vs → i < length vs → j < length vs → (pos 0 <ℤ side (vertex vs i) (vertex vs (next_of (length vs) i)) (at (vertex vs j))) ⊎ ((side (vertex vs i) (vertex vs (next_of (length vs) i)) (at (vertex vs j)) ≡ pos 0) × ((j ≡ i) ⊎ (j ≡ next_of (length vs) i)))
corner_beside vs i j piece hi hj =
    let s = vertex vs i in
    let t = vertex vs (next_of (length vs) i) in
    ⊎_elim (λ e. inr (ap (λ k. side s t (at (vertex vs k))) e ∙ side_at_start s t, inl e))
    (λ not_start.
    ⊎_elim (λ e. inr (ap (λ k. side s t (at (vertex vs k))) e ∙ side_at_end s t, inr e))
    (λ not_end. inl (corner_left vs i j piece hi hj not_start not_end))
    (cases_eq j (next_of (length vs) i)))
    (cases_eq j i)

-- of three corners, one isn't an end of the edge
three_sides : (x y z : ℤ) (i k : ℕ) → ((pos 0 <ℤ x) ⊎ ((x ≡ pos 0) × ((0 ≡ i) ⊎ (0 ≡ k)))) → ((pos 0 <ℤ y) ⊎ ((y ≡ pos 0) × ((1 ≡ i) ⊎ (1 ≡ k)))) → ((pos 0 <ℤ z) ⊎ ((z ≡ pos 0) × ((2 ≡ i) ⊎ (2 ≡ k)))) → pos 0 <ℤ (x +ℤ y +ℤ z)
three_sides x y z i k a b c = omega (arith, ints, a, b, c)

pub inner_point_inside : (vs : List Place) → IsPiece vs → covers_inside vs (inner_point vs) ≡ true
unfolding covers_inside
inner_point_inside vs piece =
    let few : 3 ≤ length vs = piece.few in
    let test : Edge → Bool = λ e. int_lt (pos 0) (side e.0 e.1 (inner_point vs)) in
    let passes : Edge → Type 0 = λ e. test e ≡ true in
    list_all-from_AllPass test (edges vs)
    (All-from_get_or passes (edges vs) (origin, origin)
    (λ i h.
    let within : i < length vs = omega (arith, length-edges vs) in
    let s = vertex vs i in
    let t = vertex vs (next_of (length vs) i) in
    let sum = three_sides (side s t (at (vertex vs 0))) (side s t (at (vertex vs 1))) (side s t (at (vertex vs 2))) i (next_of (length vs) i) (corner_beside vs i 0 piece within (omega arith)) (corner_beside vs i 1 piece within (omega arith)) (corner_beside vs i 2 piece within (omega arith)) in
    let above : pos 0 <ℤ side s t (inner_point vs) = subst (λ z. pos 0 <ℤ z) (sym (centroid_side s t vs)) sum in
    subst passes (sym (edge_at vs i within)) (lt-int_lt (pos 0) (side s t (inner_point vs)) above)))
