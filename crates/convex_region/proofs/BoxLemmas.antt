-- A point that a polygon holds lies in the polygon's bounding box: at a vertex that is farthest in some direction, the two
-- edges that meet there hold the point in a cone, of which no point is farther in that direction.
use Rattle.std.proofs.Common.{◌≡◌, ◌≢◌, ℕ, zero, suc, ◌-◌, ◌<◌, ◌≤◌, ◌==◌, List, [], ◌∷◌, length, map, true, cond, ℤ, pos, negsuc, neg_ℤ, ◌-ℤ◌, ◌*ℤ◌, ◌≤ℤ◌, ◌<ℤ◌, refl, ap, ◌∙◌, subst, ⊎_elim, arith}
use Rattle.std.specs.List.{fold}
use Rattle.std.specs.Int.{int_max, int_min}
use Rattle.std.proofs.lemmas.Bool.{cases_lt}
use Rattle.std.proofs.lemmas.Bool.Decides.{nat_tests}
use Rattle.std.proofs.lemmas.Int.{by_lt_z, fold-int_max_bounds, fold-int_min_bounds}
use Rattle.std.proofs.lemmas.List.{get_or-map, length-map}
use Rattle.std.proofs.lemmas.List.Elements.{All-get_or}
use Rattle.std.proofs.lemmas.List.Sums.{AllPass-from_list_all}
use borrow.Author.Differences.{up, down, ints, same_in}
use Rattle.siting_definitions.specs.Integer.{least, greatest}
use Rattle.siting_definitions.specs.Point.{Place, Point, grid, point_of, side}
use Rattle.siting_definitions.specs.Polygon.{edges, vertex, next_of, origin, covers}
use Rattle.siting_definitions.specs.Instance.{IsPolygon}
use Rattle.siting_definitions.proofs.Integers.{diff, diffs, diff-eq, as_diff, neg_mul_ℤ, mul_le_ℤ, scale_le_ℤ, mul_above_ℤ, le_trans_ℤ, int_le-true}
use Rattle.convex_region.specs.Box.{LiesInBox}
use Rattle.convex_region.proofs.Boxes.{x_of, y_of}
use Rattle.convex_region.proofs.Edges.{edge_at, length-edges, beside, next-below}

-- ---- the turn from one way to another: above 0 to the left
abbrev pub turn : ℤ → ℤ → ℤ → ℤ → ℤ
turn ax ay bx by = ax *ℤ by -ℤ ay *ℤ bx

from_end-diff : (ax ax' ay ay' vx vx' vy vy' px px' py py' q q' : ℕ) → (diff vx vx' -ℤ diff ax ax') *ℤ (diff py py' -ℤ diff q q' *ℤ diff ay ay') -ℤ (diff vy vy' -ℤ diff ay ay') *ℤ (diff px px' -ℤ diff q q' *ℤ diff ax ax') ≡ (diff vx vx' -ℤ diff ax ax') *ℤ (diff py py' -ℤ diff q q' *ℤ diff vy vy') -ℤ (diff vy vy' -ℤ diff ay ay') *ℤ (diff px px' -ℤ diff q q' *ℤ diff vx vx')
from_end-diff ax ax' ay ay' vx vx' vy vy' px px' py py' q q' = simp diffs (diff-eq _ _ _ _ (omega arith))

from_end : (ax ay vx vy px py q : ℤ) → (vx -ℤ ax) *ℤ (py -ℤ q *ℤ ay) -ℤ (vy -ℤ ay) *ℤ (px -ℤ q *ℤ ax) ≡ turn (vx -ℤ ax) (vy -ℤ ay) (px -ℤ q *ℤ vx) (py -ℤ q *ℤ vy)
from_end ax ay vx vy px py q =
    rw (as_diff ax, as_diff ay, as_diff vx, as_diff vy, as_diff px, as_diff py, as_diff q)
    (from_end-diff (up ax) (down ax) (up ay) (down ay) (up vx) (down vx) (up vy) (down vy) (up px) (down px) (up py) (down py) (up q) (down q))

scaled-diff : (ax ax' ay ay' bx bx' by by' vx vx' vy vy' w w' : ℕ) → diff ax ax' *ℤ (diff w w' *ℤ diff by by' -ℤ diff w w' *ℤ diff vy vy') -ℤ diff ay ay' *ℤ (diff w w' *ℤ diff bx bx' -ℤ diff w w' *ℤ diff vx vx') ≡ (diff ax ax' *ℤ (diff by by' -ℤ diff vy vy') -ℤ diff ay ay' *ℤ (diff bx bx' -ℤ diff vx vx')) *ℤ diff w w'
scaled-diff ax ax' ay ay' bx bx' by by' vx vx' vy vy' w w' = simp diffs (diff-eq _ _ _ _ (omega arith))

scaled : (ax ay bx by vx vy w : ℤ) → turn ax ay (w *ℤ bx -ℤ w *ℤ vx) (w *ℤ by -ℤ w *ℤ vy) ≡ turn ax ay (bx -ℤ vx) (by -ℤ vy) *ℤ w
scaled ax ay bx by vx vy w =
    rw (as_diff ax, as_diff ay, as_diff bx, as_diff by, as_diff vx, as_diff vy, as_diff w)
    (scaled-diff (up ax) (down ax) (up ay) (down ay) (up bx) (down bx) (up by) (down by) (up vx) (down vx) (up vy) (down vy) (up w) (down w))

-- the side of p on an edge, by the way from the edge's end
side_from_end : (a v : Place) (p : Point) → side a v p ≡ turn (v.x -ℤ a.x) (v.y -ℤ a.y) (p.x -ℤ pos p.q *ℤ v.x) (p.y -ℤ pos p.q *ℤ v.y)
unfolding side
side_from_end a v p = from_end a.x a.y v.x v.y p.x p.y (pos p.q)

-- and by the way from its start
side_from_start : (v b : Place) (p : Point) → side v b p ≡ turn (b.x -ℤ v.x) (b.y -ℤ v.y) (p.x -ℤ pos p.q *ℤ v.x) (p.y -ℤ pos p.q *ℤ v.y)
unfolding side
side_from_start v b p = refl

side_of_vertex : (a v b : Place) → side a v (point_of (grid b)) ≡ turn (v.x -ℤ a.x) (v.y -ℤ a.y) (b.x -ℤ v.x) (b.y -ℤ v.y) *ℤ pos 65536
side_of_vertex a v b = side_from_end a v (point_of (grid b)) ∙ scaled (v.x -ℤ a.x) (v.y -ℤ a.y) b.x b.y v.x v.y (pos 65536)

-- ---- signs of products
not_below_product : (a s : ℤ) → (pos 0) ≤ℤ a → (pos 0) ≤ℤ s → (pos 0) ≤ℤ (a *ℤ s)
not_below_product a (pos n) h k = let e : (pos 0 *ℤ pos n) ≤ℤ (a *ℤ pos n) = mul_le_ℤ (pos 0) a n h in omega (arith, ints, e)
not_below_product a (negsuc n) h k = absurd (omega (arith, ints))

not_above_product : (b s : ℤ) → b ≤ℤ (pos 0) → (pos 0) ≤ℤ s → (b *ℤ s) ≤ℤ (pos 0)
not_above_product b (pos n) h k = let e : (b *ℤ pos n) ≤ℤ (pos 0 *ℤ pos n) = mul_le_ℤ b (pos 0) n h in omega (arith, ints, e)
not_above_product b (negsuc n) h k = absurd (omega (arith, ints))

-- ---- the cone
cone : (u k a b s t : ℤ) → u *ℤ k ≡ b *ℤ s -ℤ a *ℤ t → (pos 0) <ℤ k → (pos 0) ≤ℤ a → b ≤ℤ (pos 0) → (pos 0) ≤ℤ s → (pos 0) ≤ℤ t → u ≤ℤ (pos 0)
cone u k a b s t law left ahead back first second =
    by_lt_z (pos 0) u
    (λ above.
    let e : (pos 0) <ℤ (b *ℤ s -ℤ a *ℤ t) = subst (λ z. (pos 0) <ℤ z) law (mul_above_ℤ u k above left) in
    let f = not_above_product b s back first in
    let g = not_below_product a t ahead second in
    absurd (omega (arith, ints, e, f, g)))
    (λ le. le)

-- the same in the opposite direction
cone_back : (u k a b s t : ℤ) → u *ℤ k ≡ b *ℤ s -ℤ a *ℤ t → (pos 0) <ℤ k → a ≤ℤ (pos 0) → (pos 0) ≤ℤ b → (pos 0) ≤ℤ s → (pos 0) ≤ℤ t → (pos 0) ≤ℤ u
cone_back u k a b s t law left back ahead first second =
    let opposite : neg_ℤ u *ℤ k ≡ neg_ℤ b *ℤ s -ℤ neg_ℤ a *ℤ t = rw (neg_mul_ℤ u k, neg_mul_ℤ b s, neg_mul_ℤ a t, law) (same_in _ _ (omega (arith, ints))) in
    let e = cone (neg_ℤ u) k (neg_ℤ a) (neg_ℤ b) s t opposite left (omega (arith, ints)) (omega (arith, ints)) first second in
    omega (arith, ints, e)

cone_x-diff : (ax ax' ay ay' bx bx' by by' px px' py py' : ℕ) → diff px px' *ℤ turn (diff ax ax') (diff ay ay') (diff bx bx') (diff by by') ≡ diff bx bx' *ℤ turn (diff ax ax') (diff ay ay') (diff px px') (diff py py') -ℤ diff ax ax' *ℤ turn (diff bx bx') (diff by by') (diff px px') (diff py py')
cone_x-diff ax ax' ay ay' bx bx' by by' px px' py py' = simp diffs (diff-eq _ _ _ _ (omega arith))

cone_x : (ax ay bx by px py : ℤ) → px *ℤ turn ax ay bx by ≡ bx *ℤ turn ax ay px py -ℤ ax *ℤ turn bx by px py
cone_x ax ay bx by px py =
    rw (as_diff ax, as_diff ay, as_diff bx, as_diff by, as_diff px, as_diff py)
    (cone_x-diff (up ax) (down ax) (up ay) (down ay) (up bx) (down bx) (up by) (down by) (up px) (down px) (up py) (down py))

cone_y-diff : (ax ax' ay ay' bx bx' by by' px px' py py' : ℕ) → diff py py' *ℤ turn (diff ax ax') (diff ay ay') (diff bx bx') (diff by by') ≡ diff by by' *ℤ turn (diff ax ax') (diff ay ay') (diff px px') (diff py py') -ℤ diff ay ay' *ℤ turn (diff bx bx') (diff by by') (diff px px') (diff py py')
cone_y-diff ax ax' ay ay' bx bx' by by' px px' py py' = simp diffs (diff-eq _ _ _ _ (omega arith))

cone_y : (ax ay bx by px py : ℤ) → py *ℤ turn ax ay bx by ≡ by *ℤ turn ax ay px py -ℤ ay *ℤ turn bx by px py
cone_y ax ay bx by px py =
    rw (as_diff ax, as_diff ay, as_diff bx, as_diff by, as_diff px, as_diff py)
    (cone_y-diff (up ax) (down ax) (up ay) (down ay) (up bx) (down bx) (up by) (down by) (up px) (down px) (up py) (down py))

-- ---- a vertex with its two edges, and a point that both hold
pub record Meets (a v b : Place) (p : Point) : Type 0 where
  pub first : (pos 0) ≤ℤ side a v p
  pub second : (pos 0) ≤ℤ side v b p
  pub left : (pos 0) <ℤ side a v (point_of (grid b))

-- the polygon turns left at a vertex that meets a point of it
turn_left : (a v b : Place) (p : Point) → Meets a v b p → (pos 0) <ℤ turn (v.x -ℤ a.x) (v.y -ℤ a.y) (b.x -ℤ v.x) (b.y -ℤ v.y)
turn_left a v b p m =
    let k = turn (v.x -ℤ a.x) (v.y -ℤ a.y) (b.x -ℤ v.x) (b.y -ℤ v.y) in
    let e : (pos 0) <ℤ (k *ℤ pos 65536) = subst (λ z. (pos 0) <ℤ z) (side_of_vertex a v b) m.left in
    above_0 k e
  where
    above_0 : (k : ℤ) → (pos 0) <ℤ (k *ℤ pos 65536) → (pos 0) <ℤ k
    above_0 k e = omega (arith, ints)

-- the two sides of the point, by its way from the vertex
beside_first : (a v b : Place) (p : Point) → Meets a v b p → (pos 0) ≤ℤ turn (v.x -ℤ a.x) (v.y -ℤ a.y) (p.x -ℤ pos p.q *ℤ v.x) (p.y -ℤ pos p.q *ℤ v.y)
beside_first a v b p m = subst (λ z. (pos 0) ≤ℤ z) (side_from_end a v p) m.first

beside_second : (a v b : Place) (p : Point) → Meets a v b p → (pos 0) ≤ℤ turn (b.x -ℤ v.x) (b.y -ℤ v.y) (p.x -ℤ pos p.q *ℤ v.x) (p.y -ℤ pos p.q *ℤ v.y)
beside_second a v b p m = subst (λ z. (pos 0) ≤ℤ z) (side_from_start v b p) m.second

-- a point of the polygon isn't to the right of a vertex that is farthest right among its neighbours
not_right : (a v b : Place) (p : Point) → Meets a v b p → a.x ≤ℤ v.x → b.x ≤ℤ v.x → p.x ≤ℤ (pos p.q *ℤ v.x)
not_right a v b p m ha hb =
    let e = cone (p.x -ℤ pos p.q *ℤ v.x) _ (v.x -ℤ a.x) (b.x -ℤ v.x) _ _
    (cone_x (v.x -ℤ a.x) (v.y -ℤ a.y) (b.x -ℤ v.x) (b.y -ℤ v.y) (p.x -ℤ pos p.q *ℤ v.x) (p.y -ℤ pos p.q *ℤ v.y))
    (turn_left a v b p m) (omega (arith, ints)) (omega (arith, ints)) (beside_first a v b p m) (beside_second a v b p m) in
    omega (arith, ints, e)

-- nor above one that is highest
not_above : (a v b : Place) (p : Point) → Meets a v b p → a.y ≤ℤ v.y → b.y ≤ℤ v.y → p.y ≤ℤ (pos p.q *ℤ v.y)
not_above a v b p m ha hb =
    let e = cone (p.y -ℤ pos p.q *ℤ v.y) _ (v.y -ℤ a.y) (b.y -ℤ v.y) _ _
    (cone_y (v.x -ℤ a.x) (v.y -ℤ a.y) (b.x -ℤ v.x) (b.y -ℤ v.y) (p.x -ℤ pos p.q *ℤ v.x) (p.y -ℤ pos p.q *ℤ v.y))
    (turn_left a v b p m) (omega (arith, ints)) (omega (arith, ints)) (beside_first a v b p m) (beside_second a v b p m) in
    omega (arith, ints, e)

-- nor to the left of one that is farthest left
not_left : (a v b : Place) (p : Point) → Meets a v b p → neg_ℤ a.x ≤ℤ neg_ℤ v.x → neg_ℤ b.x ≤ℤ neg_ℤ v.x → (pos p.q *ℤ v.x) ≤ℤ p.x
not_left a v b p m ha hb =
    let e = cone_back (p.x -ℤ pos p.q *ℤ v.x) _ (v.x -ℤ a.x) (b.x -ℤ v.x) _ _
    (cone_x (v.x -ℤ a.x) (v.y -ℤ a.y) (b.x -ℤ v.x) (b.y -ℤ v.y) (p.x -ℤ pos p.q *ℤ v.x) (p.y -ℤ pos p.q *ℤ v.y))
    (turn_left a v b p m) (omega (arith, ints)) (omega (arith, ints)) (beside_first a v b p m) (beside_second a v b p m) in
    omega (arith, ints, e)

-- nor below one that is lowest
not_below : (a v b : Place) (p : Point) → Meets a v b p → neg_ℤ a.y ≤ℤ neg_ℤ v.y → neg_ℤ b.y ≤ℤ neg_ℤ v.y → (pos p.q *ℤ v.y) ≤ℤ p.y
not_below a v b p m ha hb =
    let e = cone_back (p.y -ℤ pos p.q *ℤ v.y) _ (v.y -ℤ a.y) (b.y -ℤ v.y) _ _
    (cone_y (v.x -ℤ a.x) (v.y -ℤ a.y) (b.x -ℤ v.x) (b.y -ℤ v.y) (p.x -ℤ pos p.q *ℤ v.x) (p.y -ℤ pos p.q *ℤ v.y))
    (turn_left a v b p m) (omega (arith, ints)) (omega (arith, ints)) (beside_first a v b p m) (beside_second a v b p m) in
    omega (arith, ints, e)

-- ---- the vertex before another, and a farthest vertex
abbrev pub before : ℕ → ℕ → ℕ
before n m = cond (m == 0) (n - 1) (m - 1)

before_below : (n m : ℕ) → m < n → before n m < n
before_below n m h = grind (arith, nat_tests)

next_of-before : (n m : ℕ) → m < n → next_of n (before n m) ≡ m
next_of-before n m h = grind (arith, nat_tests)

next_not_before : (n m : ℕ) → 3 ≤ n → m < n → next_of n m ≢ before n m
next_not_before n m few h = grind (arith, nat_tests)

next_not_same : (n m : ℕ) → 3 ≤ n → m < n → next_of n m ≢ m
next_not_same n m few h = grind (arith, nat_tests)

-- of the numbers at 0 to k, none is greater than the one at m
pub record IsFarthest (g : ℕ → ℤ) (k m : ℕ) : Type 0 where
  pub within : m ≤ k
  pub all : (j : ℕ) → j ≤ k → (g j) ≤ℤ (g m)

same_number : (g : ℕ → ℤ) (i j : ℕ) → i ≡ j → (g i) ≤ℤ (g j)
same_number g i j e = let f : g i ≡ g j = ap g e in omega (arith, ints, f)

-- of finitely many numbers one is the greatest
farthest : (g : ℕ → ℤ) (k : ℕ) → (m : ℕ) × IsFarthest g k m
farthest g zero = (0, record { within = omega arith; all = λ j h. same_number g j 0 (omega arith) })
farthest g (suc k) =
    let m = (farthest g k).0 in
    let last = (farthest g k).1 in
    by_lt_z (g m) (g (suc k))
    (λ less. (
      suc k,
      record {
        within = omega arith;
        all =
            λ j h. ⊎_elim (λ below. let e = last.all j (omega arith) in omega (arith, ints, e)) (λ not_below. same_number g j (suc k) (omega arith)) (cases_lt j (suc k));
      },
    ))
    (λ more. (
      m,
      record {
        within = let e = last.within in omega arith;
        all = λ j h. ⊎_elim (λ below. last.all j (omega arith)) (λ not_below. let e = same_number g j (suc k) (omega arith) in omega (arith, ints, e)) (cases_lt j (suc k));
      },
    ))

-- ---- what a polygon that holds p shows of an edge and of a vertex
pub covers_at : (vs : List Place) (p : Point) (i : ℕ) → i < length vs → covers vs p ≡ true → (pos 0) ≤ℤ side (vertex vs i) (vertex vs (next_of (length vs) i)) p
unfolding covers
covers_at vs p i within all =
    let passes : Place × Place → Type 0 = λ e. beside p e ≡ true in
    let here = All-get_or passes (edges vs) i (origin, origin) (omega (arith, length-edges vs)) (AllPass-from_list_all (beside p) (edges vs) all) in
    int_le-true _ _ (subst passes (edge_at vs i within) here)

-- a vertex of a polygon meets each point that the polygon holds
meets : (vs : List Place) (p : Point) (m : ℕ) → IsPolygon vs → covers vs p ≡ true → m < length vs → Meets (vertex vs (before (length vs) m)) (vertex vs m) (vertex vs (next_of (length vs) m)) p
meets vs p m polygon covered within =
    let n = length vs in
    let few : 3 ≤ n = polygon.few in
    let back = before_below n m within in
    let ahead = next-below n m within in
    let at : next_of n (before n m) ≡ m = next_of-before n m within in
    record {
      first = subst (λ k. (pos 0) ≤ℤ side (vertex vs (before n m)) (vertex vs k) p) at (covers_at vs p (before n m) back covered);
      second = covers_at vs p m within covered;
      left =
          subst (λ k. (pos 0) <ℤ side (vertex vs (before n m)) (vertex vs k) (point_of (grid (vertex vs (next_of n m))))) at
          (polygon.convex (before n m) (next_of n m) back ahead (next_not_before n m few within)
          (λ e. next_not_same n m few within (e ∙ at)));
    }

-- in a direction h, what the two edges at a farthest vertex show of p
toward : (h : Place → ℤ) (R : Place → Type 0) (vs : List Place) (p : Point) → IsPolygon vs → covers vs p ≡ true → ((a v b : Place) → Meets a v b p → (h a) ≤ℤ (h v) → (h b) ≤ℤ (h v) → R v) → (m : ℕ) × (m < length vs) × R (vertex vs m)
toward h R vs p polygon covered law =
    let n = length vs in
    let g : ℕ → ℤ = λ j. h (vertex vs j) in
    let m = (farthest g (n - 1)).0 in
    let far = (farthest g (n - 1)).1 in
    let few : 3 ≤ n = polygon.few in
    let last : m ≤ n - 1 = far.within in
    let within : m < n = omega arith in
    let back = before_below n m within in
    let ahead = next-below n m within in
    (m, within, law _ _ _ (meets vs p m polygon covered within) (far.all (before n m) (omega arith)) (far.all (next_of n m) (omega arith)))

-- ---- the ends of a list of numbers
pub least-at : (h : Place → ℤ) (vs : List Place) (m : ℕ) → m < length vs → (least (map h vs)) ≤ℤ (h (vertex vs m))
least-at h [] m within = absurd (omega arith)
least-at h (v ∷ vs) zero within = (fold-int_min_bounds (h v) (map h vs) _ refl).0
least-at h (v ∷ vs) (suc m) within =
    let r = fold int_min (h v) (map h vs) in
    let below : m < length vs = omega arith in
    let at_m = All-get_or (λ z. r ≤ℤ z) (map h vs) m (pos 0) (omega (arith, length-map vs h)) ((fold-int_min_bounds (h v) (map h vs) r refl).1) in
    subst (λ z. r ≤ℤ z) (get_or-map h vs m origin (pos 0) below) at_m

-- no number of a list is above the greatest
pub greatest-at : (h : Place → ℤ) (vs : List Place) (m : ℕ) → m < length vs → (h (vertex vs m)) ≤ℤ (greatest (map h vs))
greatest-at h [] m within = absurd (omega arith)
greatest-at h (v ∷ vs) zero within = (fold-int_max_bounds (h v) (map h vs) _ refl).0
greatest-at h (v ∷ vs) (suc m) within =
    let r = fold int_max (h v) (map h vs) in
    let below : m < length vs = omega arith in
    let at_m = All-get_or (λ z. z ≤ℤ r) (map h vs) m (pos 0) (omega (arith, length-map vs h)) ((fold-int_max_bounds (h v) (map h vs) r refl).1) in
    subst (λ z. z ≤ℤ r) (get_or-map h vs m origin (pos 0) below) at_m

-- ---- the law
pub lies_in_box : (vs : List Place) (p : Point) → IsPolygon vs → covers vs p ≡ true → LiesInBox vs p
lies_in_box vs p polygon covered =
    let r = toward x_of (λ v. p.x ≤ℤ (pos p.q *ℤ v.x)) vs p polygon covered (λ a v b. not_right a v b p) in
    let u = toward y_of (λ v. p.y ≤ℤ (pos p.q *ℤ v.y)) vs p polygon covered (λ a v b. not_above a v b p) in
    let l = toward (λ v. neg_ℤ v.x) (λ v. (pos p.q *ℤ v.x) ≤ℤ p.x) vs p polygon covered (λ a v b. not_left a v b p) in
    let d = toward (λ v. neg_ℤ v.y) (λ v. (pos p.q *ℤ v.y) ≤ℤ p.y) vs p polygon covered (λ a v b. not_below a v b p) in
    record {
      left = le_trans_ℤ _ _ _ (scale_le_ℤ p.q _ _ (least-at x_of vs l.0 l.1)) l.2;
      lower = le_trans_ℤ _ _ _ (scale_le_ℤ p.q _ _ (least-at y_of vs d.0 d.1)) d.2;
      right = le_trans_ℤ _ _ _ r.2 (scale_le_ℤ p.q _ _ (greatest-at x_of vs r.0 r.1));
      upper = le_trans_ℤ _ _ _ u.2 (scale_le_ℤ p.q _ _ (greatest-at y_of vs u.0 u.1));
    }
