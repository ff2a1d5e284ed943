-- Polygons and points in fine units.
use Rattle.std.proofs.Common.{◌≡◌, ℕ, ◌^◌, ◌<◌, Bool, ◌&&◌, List, [], ◌∷◌, ◌++◌, length, map, take, drop, ℤ, pos, ◌*ℤ◌, ◌≤ℤ◌, ◌<ℤ◌, refl, sym, ◌∙◌, ap, subst, arith}
use Rattle.std.specs.Prelude.{int_le, int_lt}
use Rattle.std.specs.List.{list_all, zip}
use Rattle.std.proofs.Math.Nat.{one-le-pow}
use Rattle.std.proofs.lemmas.Int.{by_lt_z, ints}
use Rattle.std.proofs.lemmas.List.{map-append, drop-map, take-map, length-map, get_or-map}
use Rattle.std.proofs.lemmas.List.Folds.{list_all-map}
use borrow.Author.Differences.{up, down}
use Rattle.siting_definitions.specs.Point.{Place, Point, grid, point_of, side}
use Rattle.siting_definitions.specs.Polygon.{edges, vertex, next_of, origin, covers, covers_inside, IsConvex}
use Rattle.siting_definitions.specs.Instance.{IsPolygon}
use Rattle.siting_definitions.proofs.Integers.{diff, diffs, diff-eq, as_diff, mul_above_ℤ, le-int_le, lt-int_le, lt-int_lt, le-int_lt}
use Rattle.convex_region.proofs.Edges.{next-below}
use Rattle.edge_chain.specs.Chain.{Edge}
use Rattle.edge_chain.specs.Piece.{at, IsPiece}
use Rattle.edge_chain.proofs.Vectors.{side_of, product_nonneg, product_below_right, product_nonpos_right, factor_above}
use Rattle.edge_chain.proofs.PieceLemmas.{side_grid}
use Rattle.cover_check.specs.Cover.{fine, fine_point}

scaled-diff : (sx sx' sy sy' tx tx' ty ty' px px' py py' q q' w w' : ℕ) → side_of (diff w w' *ℤ diff sx sx') (diff w w' *ℤ diff sy sy') (diff w w' *ℤ diff tx tx') (diff w w' *ℤ diff ty ty') (diff w w' *ℤ diff px px') (diff w w' *ℤ diff py py') (diff q q') ≡ diff w w' *ℤ (diff w w' *ℤ side_of (diff sx sx') (diff sy sy') (diff tx tx') (diff ty ty') (diff px px') (diff py py') (diff q q'))
scaled-diff sx sx' sy sy' tx tx' ty ty' px px' py py' q q' w w' = simp diffs (diff-eq _ _ _ _ (omega arith))

scaled : (sx sy tx ty px py q w : ℤ) → side_of (w *ℤ sx) (w *ℤ sy) (w *ℤ tx) (w *ℤ ty) (w *ℤ px) (w *ℤ py) q ≡ w *ℤ (w *ℤ side_of sx sy tx ty px py q)
scaled sx sy tx ty px py q w =
    rw (as_diff sx, as_diff sy, as_diff tx, as_diff ty, as_diff px, as_diff py, as_diff q, as_diff w)
    (scaled-diff (up sx) (down sx) (up sy) (down sy) (up tx) (down tx) (up ty) (down ty) (up px) (down px) (up py) (down py) (up q) (down q) (up w) (down w))

-- a side in fine units
side_fine : (k : ℕ) (s t : Place) (p : Point) → side (fine k s) (fine k t) (fine_point k p) ≡ pos (2 ^ k) *ℤ (pos (2 ^ k) *ℤ side s t p)
unfolding side
side_fine k s t p = scaled s.x s.y t.x t.y p.x p.y (pos p.q) (pos (2 ^ k))

w_above : (k : ℕ) → pos 0 <ℤ pos (2 ^ k)
w_above k = let e = one-le-pow k 2 (omega arith) in omega (arith, ints, e)

twice_above : (w z : ℤ) → pos 0 <ℤ w → pos 0 <ℤ z → pos 0 <ℤ (w *ℤ (w *ℤ z))
twice_above w z h k = mul_above_ℤ w (w *ℤ z) h (mul_above_ℤ w z h k)

twice_nonneg : (w z : ℤ) → pos 0 <ℤ w → pos 0 ≤ℤ z → pos 0 ≤ℤ (w *ℤ (w *ℤ z))
twice_nonneg w z h k = product_nonneg w (w *ℤ z) (omega (arith, ints)) (product_nonneg w z (omega (arith, ints)) k)

twice_below : (w z : ℤ) → pos 0 <ℤ w → z <ℤ pos 0 → (w *ℤ (w *ℤ z)) <ℤ pos 0
twice_below w z h k = product_below_right w (w *ℤ z) h (product_below_right w z h k)

twice_nonpos : (w z : ℤ) → pos 0 <ℤ w → z ≤ℤ pos 0 → (w *ℤ (w *ℤ z)) ≤ℤ pos 0
twice_nonpos w z h k = product_nonpos_right w (w *ℤ z) (omega (arith, ints)) (product_nonpos_right w z (omega (arith, ints)) k)

-- a side has the same sign in both units
beside_fine : (k : ℕ) (s t : Place) (p : Point) → int_le (pos 0) (side (fine k s) (fine k t) (fine_point k p)) ≡ int_le (pos 0) (side s t p)
beside_fine k s t p =
    ap (λ z. int_le (pos 0) z) (side_fine k s t p)
    ∙ by_lt_z (side s t p) (pos 0)
    (λ less. lt-int_le (pos 0) _ (twice_below (pos (2 ^ k)) (side s t p) (w_above k) less) ∙ sym (lt-int_le (pos 0) (side s t p) less))
    (λ more. le-int_le (pos 0) _ (twice_nonneg (pos (2 ^ k)) (side s t p) (w_above k) more) ∙ sym (le-int_le (pos 0) (side s t p) more))

left_fine : (k : ℕ) (s t : Place) (p : Point) → int_lt (pos 0) (side (fine k s) (fine k t) (fine_point k p)) ≡ int_lt (pos 0) (side s t p)
left_fine k s t p =
    ap (λ z. int_lt (pos 0) z) (side_fine k s t p)
    ∙ by_lt_z (pos 0) (side s t p)
    (λ more. lt-int_lt (pos 0) _ (twice_above (pos (2 ^ k)) (side s t p) (w_above k) more) ∙ sym (lt-int_lt (pos 0) (side s t p) more))
    (λ less. le-int_lt (pos 0) _ (twice_nonpos (pos (2 ^ k)) (side s t p) (w_above k) less) ∙ sym (le-int_lt (pos 0) (side s t p) less))

-- ---- the edges of a polygon in fine units
fine_edge : ℕ → Edge → Edge
fine_edge k e = (fine k e.0, fine k e.1)

zip-map : (k : ℕ) (us vs : List Place) → zip (map (fine k) us) (map (fine k) vs) ≡ map (fine_edge k) (zip us vs)
unfolding fine_edge
zip-map k [] vs = refl
zip-map k (u ∷ us) [] = refl
zip-map k (u ∷ us) (v ∷ vs) = ap (λ (es : List Edge). (fine k u, fine k v) ∷ es) (zip-map k us vs)

edges-fine : (k : ℕ) (vs : List Place) → edges (map (fine k) vs) ≡ map (fine_edge k) (edges vs)
edges-fine k vs =
    ap (λ ws. zip (map (fine k) vs) ws)
    (ap (λ ws. ws ++ take 1 (map (fine k) vs)) (drop-map (fine k) 1 vs) ∙ ap (λ ws. map (fine k) (drop 1 vs) ++ ws) (take-map (fine k) 1 vs) ∙ sym (map-append (fine k) (drop 1 vs) (take 1 vs)))
    ∙ zip-map k vs (drop 1 vs ++ take 1 vs)

same_tests : (p q : Edge → Bool) → ((e : Edge) → p e ≡ q e) → (es : List Edge) → list_all p es ≡ list_all q es
same_tests p q same [] = refl
same_tests p q same (e ∷ es) = ap (λ b. b && list_all p es) (same e) ∙ ap (λ b. q e && b) (same_tests p q same es)

pub covers-fine : (k : ℕ) (vs : List Place) (p : Point) → covers (map (fine k) vs) (fine_point k p) ≡ covers vs p
unfolding covers fine_edge
covers-fine k vs p =
    ap (λ (es : List Edge). list_all (λ (e : Edge). int_le (pos 0) (side e.0 e.1 (fine_point k p))) es) (edges-fine k vs)
    ∙ list_all-map (λ (e : Edge). int_le (pos 0) (side e.0 e.1 (fine_point k p))) (fine_edge k) (edges vs)
    ∙ same_tests _ _ (λ (e : Edge). beside_fine k e.0 e.1 p) (edges vs)

pub inside-fine : (k : ℕ) (vs : List Place) (p : Point) → covers_inside (map (fine k) vs) (fine_point k p) ≡ covers_inside vs p
unfolding covers_inside fine_edge
inside-fine k vs p =
    ap (λ (es : List Edge). list_all (λ (e : Edge). int_lt (pos 0) (side e.0 e.1 (fine_point k p))) es) (edges-fine k vs)
    ∙ list_all-map (λ (e : Edge). int_lt (pos 0) (side e.0 e.1 (fine_point k p))) (fine_edge k) (edges vs)
    ∙ same_tests _ _ (λ (e : Edge). left_fine k e.0 e.1 p) (edges vs)

-- ---- a polygon is a piece in fine units
vertex-fine : (k : ℕ) (vs : List Place) (i : ℕ) → i < length vs → vertex (map (fine k) vs) i ≡ fine k (vertex vs i)
vertex-fine k vs i h = get_or-map (fine k) vs i origin origin h

left_at : (k : ℕ) (s t v : Place) → pos 0 <ℤ side s t (point_of (grid v)) → pos 0 <ℤ side (fine k s) (fine k t) (point_of (grid (fine k v)))
left_at k s t v h =
    let here : pos 0 <ℤ side s t (at v) = factor_above (pos 65536) (side s t (at v)) (subst (λ z. pos 0 <ℤ z) (side_grid s t v) h) (omega (arith, ints)) in
    let there : pos 0 <ℤ side (fine k s) (fine k t) (at (fine k v)) = subst (λ z. pos 0 <ℤ z) (sym (side_fine k s t (at v))) (twice_above (pos (2 ^ k)) (side s t (at v)) (w_above k) here) in
    subst (λ z. pos 0 <ℤ z) (sym (side_grid (fine k s) (fine k t) (fine k v))) (mul_above_ℤ (pos 65536) _ (omega (arith, ints)) there)

convex-fine : (k : ℕ) (vs : List Place) → IsConvex vs → IsConvex (map (fine k) vs)
convex-fine k vs convex i j hi hj start end =
    let n : length (map (fine k) vs) ≡ length vs = length-map vs (fine k) in
    let within : i < length vs = omega (arith, n) in
    let corner : j < length vs = omega (arith, n) in
    let next : next_of (length (map (fine k) vs)) i ≡ next_of (length vs) i = ap (λ m. next_of m i) n in
    let left = left_at k (vertex vs i) (vertex vs (next_of (length vs) i)) (vertex vs j) (convex i j within corner start (λ e. end (e ∙ sym next))) in
    rw (next, vertex-fine k vs i within, vertex-fine k vs (next_of (length vs) i) (next-below (length vs) i within), vertex-fine k vs j corner) left

pub piece-fine : (k : ℕ) (vs : List Place) → IsPolygon vs → IsPiece (map (fine k) vs)
piece-fine k vs h =
    let few = h.few in record { few = omega (arith, length-map vs (fine k)); convex = convex-fine k vs h.convex }
