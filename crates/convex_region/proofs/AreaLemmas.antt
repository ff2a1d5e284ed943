-- The area of a convex polygon is above 0: it is that of the triangles from vertex 0 to each edge.
use Rattle.std.proofs.Common.{◌≡◌, ◌≢◌, ℕ, zero, suc, ◌+◌, ◌-◌, ◌<◌, ◌≤◌, List, length, ℤ, pos, ◌+ℤ◌, ◌-ℤ◌, ◌*ℤ◌, ◌≤ℤ◌, ◌<ℤ◌, refl, subst, arith}
use borrow.Author.Differences.{up, down, ints}
use Rattle.siting_definitions.specs.Point.{Place, grid, point_of, side}
use Rattle.siting_definitions.specs.Polygon.{vertex, next_of, doubled_area, turned}
use Rattle.siting_definitions.specs.Instance.{IsPolygon}
use Rattle.siting_definitions.proofs.Integers.{diff, diffs, diff-eq, as_diff, le_lt_trans_ℤ}
use Rattle.convex_region.proofs.Edges.{ends, cross_of, area_to, area_more, area_all, turned_not, next_below, next_last}

-- the side of c on the edge from a to b is that of the triangle of the three, in grid units
triangle-diff : (ax ax' ay ay' bx bx' by by' cx cx' cy cy' w w' : ℕ) → (diff bx bx' -ℤ diff ax ax') *ℤ (diff w w' *ℤ diff cy cy' -ℤ diff w w' *ℤ diff ay ay') -ℤ (diff by by' -ℤ diff ay ay') *ℤ (diff w w' *ℤ diff cx cx' -ℤ diff w w' *ℤ diff ax ax') ≡ ((diff ax ax' *ℤ diff by by' -ℤ diff bx bx' *ℤ diff ay ay') +ℤ (diff bx bx' *ℤ diff cy cy' -ℤ diff cx cx' *ℤ diff by by') -ℤ (diff ax ax' *ℤ diff cy cy' -ℤ diff cx cx' *ℤ diff ay ay')) *ℤ diff w w'
triangle-diff ax ax' ay ay' bx bx' by by' cx cx' cy cy' w w' = simp diffs (diff-eq _ _ _ _ (omega arith))

triangle_by : (ax ay bx by cx cy w : ℤ) → (bx -ℤ ax) *ℤ (w *ℤ cy -ℤ w *ℤ ay) -ℤ (by -ℤ ay) *ℤ (w *ℤ cx -ℤ w *ℤ ax) ≡ ((ax *ℤ by -ℤ bx *ℤ ay) +ℤ (bx *ℤ cy -ℤ cx *ℤ by) -ℤ (ax *ℤ cy -ℤ cx *ℤ ay)) *ℤ w
triangle_by ax ay bx by cx cy w =
    rw (as_diff ax, as_diff ay, as_diff bx, as_diff by, as_diff cx, as_diff cy, as_diff w)
    (triangle-diff (up ax) (down ax) (up ay) (down ay) (up bx) (down bx) (up by) (down by) (up cx) (down cx) (up cy) (down cy) (up w) (down w))

abbrev pub cross : Place → Place → ℤ
cross a b = cross_of (ends a b)

triangle : (a b c : Place) → side a b (point_of (grid c)) ≡ (cross a b +ℤ cross b c -ℤ cross a c) *ℤ pos 65536
unfolding side
triangle a b c = triangle_by a.x a.y b.x b.y c.x c.y (pos 65536)

le_of_lt : (a b : ℤ) → a <ℤ b → a ≤ℤ b
le_of_lt a b h = omega (arith, ints)

-- a left turn adds area
added : (area ab bc ac s : ℤ) → s ≡ (ab +ℤ bc -ℤ ac) *ℤ pos 65536 → (pos 0) <ℤ s → (area +ℤ ac) <ℤ ((area +ℤ ab) +ℤ bc)
added area ab bc ac s is above = omega (arith, ints)

there_and_back : (ax ay bx by : ℤ) → (pos 0) ≤ℤ ((pos 0 +ℤ (ax *ℤ by -ℤ bx *ℤ ay)) +ℤ (bx *ℤ ay -ℤ ax *ℤ by))
there_and_back ax ay bx by = omega (arith, ints)

-- ---- the area of the first k edges, closed from vertex k to vertex 0
abbrev pub closed : List Place → ℕ → ℤ
closed vs k = area_to vs k +ℤ cross (vertex vs k) (vertex vs 0)

next_edge : (vs : List Place) (k : ℕ) → k + 1 < length vs → area_to vs k +ℤ cross (vertex vs k) (vertex vs (k + 1)) ≡ area_to vs (k + 1)
next_edge vs k within =
    subst (λ j. area_to vs k +ℤ cross (vertex vs k) (vertex vs j) ≡ area_to vs (k + 1)) (next_below (length vs) k within)
    (area_more vs k (area_to vs k) _ (omega arith) refl refl)

-- each edge more adds area
closed-more : (vs : List Place) (k : ℕ) → IsPolygon vs → 1 ≤ k → k + 1 < length vs → (closed vs k) <ℤ (closed vs (k + 1))
closed-more vs k polygon some within =
    let next = next_below (length vs) k within in
    let start : 0 ≢ k = λ e. absurd (omega arith) in
    let end : 0 ≢ next_of (length vs) k = λ e. absurd (omega (arith, next)) in
    let left = subst (λ j. (pos 0) <ℤ side (vertex vs k) (vertex vs j) (point_of (grid (vertex vs 0)))) next
    (polygon.convex k 0 (omega arith) (omega arith) start end) in
    let more = added (area_to vs k) (cross (vertex vs k) (vertex vs (k + 1))) (cross (vertex vs (k + 1)) (vertex vs 0)) (cross (vertex vs k) (vertex vs 0)) _ (triangle (vertex vs k) (vertex vs (k + 1)) (vertex vs 0)) left in
    subst (λ z. (closed vs k) <ℤ (z +ℤ cross (vertex vs (k + 1)) (vertex vs 0))) (next_edge vs k within) more

closed-first : (vs : List Place) → 1 < length vs → (pos 0) ≤ℤ closed vs 1
closed-first vs within =
    subst (λ z. (pos 0) ≤ℤ (z +ℤ cross (vertex vs 1) (vertex vs 0))) (next_edge vs 0 within)
    (there_and_back (vertex vs 0).x (vertex vs 0).y (vertex vs 1).x (vertex vs 1).y)

-- the area of the first vertices, closed to a polygon, isn't below 0
closed-not-below : (vs : List Place) (k : ℕ) → IsPolygon vs → k + 1 < length vs → (pos 0) ≤ℤ closed vs (k + 1)
closed-not-below vs zero polygon within = closed-first vs within
closed-not-below vs (suc k) polygon within =
    let before = closed-not-below vs k polygon (omega arith) in
    let step = closed-more vs (k + 1) polygon (omega arith) (omega arith) in
    let at : k + 1 ≡ suc k = omega arith in
    subst (λ j. (pos 0) ≤ℤ closed vs (j + 1)) at (le_of_lt _ _ (le_lt_trans_ℤ _ _ _ before step))

-- ---- the area
pub area_above : (vs : List Place) → IsPolygon vs → (pos 0) <ℤ doubled_area vs
area_above vs polygon =
    let few : 3 ≤ length vs = polygon.few in
    above vs (length vs - 3) polygon (omega arith)
  where
    above : (vs : List Place) (k : ℕ) → IsPolygon vs → k + 3 ≡ length vs → (pos 0) <ℤ doubled_area vs
    above vs k polygon whole =
        let last = k + 1 + 1 in
        let step = le_lt_trans_ℤ _ _ _ (closed-not-below vs k polygon (omega arith)) (closed-more vs (k + 1) polygon (omega arith) (omega arith)) in
        let all = area_more vs last (area_to vs last) _ (omega arith) refl refl in
        let closing = subst (λ j. area_to vs last +ℤ cross (vertex vs last) (vertex vs j) ≡ area_to vs (last + 1)) (next_last (length vs) last (omega arith)) all in
        subst (λ z. (pos 0) <ℤ z) (area_all vs (last + 1) _ (omega arith) closing) step

-- a convex polygon stands as it is when it is turned
pub turned_is : (vs : List Place) → IsPolygon vs → turned vs ≡ vs
turned_is vs polygon = turned_not vs (le_of_lt (pos 0) (doubled_area vs) (area_above vs polygon))
