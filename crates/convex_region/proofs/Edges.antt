-- The edges of a polygon, by their places in the list.
use Rattle.std.proofs.Common.{◌≡◌, ℕ, ◌+◌, ◌<◌, ◌≤◌, List, [], ◌∷◌, ◌++◌, length, get_or, refl, sym, ap, ◌∙◌, subst, arith, true, false, Bool, ⊎_elim, length-append, add-one, take, take_all, ◌&&◌, ℤ, pos, ◌+ℤ◌, ◌*ℤ◌, ◌-ℤ◌, ◌≤ℤ◌, ◌<ℤ◌, map, drop, reverse, length-drop, FitsSigned, to_z, of_z}
use Rattle.std.specs.Prelude.{int_le, int_lt}
use Rattle.std.proofs.lemmas.Bool.{cases_lt}
use Rattle.std.proofs.lemmas.Bool.Decides.{nat_tests}
use Rattle.std.proofs.lemmas.Int.{ints, by_lt_z}
use Rattle.std.proofs.lemmas.List.{get_or_append_left, get_or_push, get_or_read, length-take, length-reverse}
use Rattle.std.specs.List.{list_all, fold}
use Rattle.std.proofs.lemmas.List.Folds.{list_all_more, list_all_at, fold-map}
use Rattle.std.proofs.lemmas.List.Sums.{fold_more}
use Rattle.std.proofs.lemmas.Slice.Zip.{length-zip, get_or-zip}
use lib.Signed.{lt_z, le_z}
use mir.Syntax.{w64, w128}
use Rattle.siting_definitions.specs.Point.{Place, Point, grid, point_of, side}
use Rattle.siting_definitions.specs.Polygon.{edges, vertex, next_of, origin, covers, covers_inside, doubled_area, turned, IsConvex}
use Rattle.convex_region.specs.Dent.{IsDent}
use Rattle.siting_definitions.proofs.Integers.{le-int_le, lt-int_le, lt-int_lt, le-int_lt}

-- the index after one that isn't the last
pub next_below : (n i : ℕ) → i + 1 < n → next_of n i ≡ i + 1
next_below n i h = grind (arith, nat_tests)

-- the index after the last
pub next_last : (n i : ℕ) → i + 1 ≡ n → next_of n i ≡ 0
next_last n i h = grind (arith, nat_tests)

-- each is an index
pub next-below : (n i : ℕ) → i < n → next_of n i < n
next-below n i h = grind (arith, nat_tests)

-- there are as many edges as vertices
pub length-edges : (vs : List Place) → length (edges vs) ≡ length vs
length-edges [] = refl
length-edges (v ∷ vs) = length-zip (v ∷ vs) (vs ++ v ∷ []) ∙ omega (arith, length-append vs (v ∷ []))

-- the vertices from the second on, and then the first: each is the next one of its index
turned_at : (v : Place) (vs : List Place) (i : ℕ) → i < length (v ∷ vs) → get_or (vs ++ v ∷ []) i origin ≡ vertex (v ∷ vs) (next_of (length (v ∷ vs)) i)
turned_at v vs i h =
    ⊎_elim
    (λ (less : i < length vs). rw (next_below (length (v ∷ vs)) i (omega arith), add-one) (get_or_append_left vs (v ∷ []) origin i less))
    (λ (more : length vs ≤ i). let last : length vs ≡ i = omega arith in rw (next_last (length (v ∷ vs)) i (omega arith)) (get_or_push vs v origin i last))
    (cases_lt i (length vs))

-- edge i goes from vertex i to the next one
pub edge_at : (vs : List Place) (i : ℕ) → i < length vs → get_or (edges vs) i (origin, origin) ≡ (vertex vs i, vertex vs (next_of (length vs) i))
edge_at [] i h = absurd (omega arith)
edge_at (v ∷ vs) i h =
    get_or-zip (v ∷ vs) (vs ++ v ∷ []) i (origin, origin) h (omega (arith, length-append vs (v ∷ [])))
    ∙ ap (λ (w : Place). (vertex (v ∷ vs) i, w)) (turned_at v vs i h)

-- ---- a test of every edge, in a loop over the places of the edges
pub each_edge_more : (test : Place × Place → Bool) (vs : List Place) (i : ℕ) → i < length vs → list_all test (take i (edges vs)) ≡ true → test (vertex vs i, vertex vs (next_of (length vs) i)) ≡ true → list_all test (take (i + 1) (edges vs)) ≡ true
each_edge_more test vs i h before here =
    list_all_more test (edges vs) i (origin, origin) (omega (arith, length-edges vs))
    ∙ ap (λ t. t && test (get_or (edges vs) i (origin, origin))) before
    ∙ ap test (edge_at vs i h)
    ∙ here

pub each_edge_fails : (test : Place × Place → Bool) (vs : List Place) (i : ℕ) → i < length vs → test (vertex vs i, vertex vs (next_of (length vs) i)) ≡ false → list_all test (edges vs) ≡ false
each_edge_fails test vs i h here =
    list_all_at test (edges vs) i (origin, origin) (omega (arith, length-edges vs)) (ap test (edge_at vs i h) ∙ here)

pub each_edge_all : (test : Place × Place → Bool) (vs : List Place) (n : ℕ) → length vs ≤ n → list_all test (take n (edges vs)) ≡ true → list_all test (edges vs) ≡ true
each_edge_all test vs n h all = subst (λ (es : List (Place × Place)). list_all test es ≡ true) (take_all n (edges vs) (omega (arith, length-edges vs))) all

-- ---- whether a polygon holds a point
abbrev pub beside : Point → Place × Place → Bool
beside p e = int_le (pos 0) (side e.0 e.1 p)

-- whether a point lies strictly to the left of an edge
abbrev pub to_the_left : Point → Place × Place → Bool
to_the_left p e = int_lt (pos 0) (side e.0 e.1 p)

-- no edge of all of them has the point to its right
pub covers_all : (us vs : List Place) (p : Point) (n : ℕ) → us ≡ vs → length us ≤ n → list_all (beside p) (take n (edges us)) ≡ true → true ≡ covers vs p
unfolding covers
covers_all us vs p n same whole all = subst (λ ws. true ≡ list_all (beside p) (edges ws)) same (sym (each_edge_all (beside p) us n whole all))

-- one edge has it there
pub covers_fails : (us vs : List Place) (p : Point) (i : ℕ) → us ≡ vs → i < length us → beside p (vertex us i, vertex us (next_of (length us) i)) ≡ false → false ≡ covers vs p
unfolding covers
covers_fails us vs p i same within here = subst (λ ws. false ≡ list_all (beside p) (edges ws)) same (sym (each_edge_fails (beside p) us i within here))

-- all edges have the point strictly to their left
pub covers_inside_all : (us vs : List Place) (p : Point) (n : ℕ) → us ≡ vs → length us ≤ n → list_all (to_the_left p) (take n (edges us)) ≡ true → true ≡ covers_inside vs p
unfolding covers_inside
covers_inside_all us vs p n same whole all = subst (λ ws. true ≡ list_all (to_the_left p) (edges ws)) same (sym (each_edge_all (to_the_left p) us n whole all))

-- one edge hasn't
pub covers_inside_fails : (us vs : List Place) (p : Point) (i : ℕ) → us ≡ vs → i < length us → to_the_left p (vertex us i, vertex us (next_of (length us) i)) ≡ false → false ≡ covers_inside vs p
unfolding covers_inside
covers_inside_fails us vs p i same within here = subst (λ ws. false ≡ list_all (to_the_left p) (edges ws)) same (sym (each_edge_fails (to_the_left p) us i within here))

-- ---- the tests of a side in the code
pub side_not_below : (r s : ℤ) → FitsSigned w128 r → r ≡ s → lt_z (to_z w128 (of_z w128 r)) (pos 0) ≡ false → int_le (pos 0) s ≡ true
side_not_below r s fits same test = le-int_le (pos 0) s (omega (arith, ints))

-- a side below 0
pub side_below : (r s : ℤ) → FitsSigned w128 r → r ≡ s → lt_z (to_z w128 (of_z w128 r)) (pos 0) ≡ true → int_le (pos 0) s ≡ false
side_below r s fits same test = lt-int_le (pos 0) s (omega (arith, ints))

-- a side above 0
pub side_above : (r s : ℤ) → FitsSigned w128 r → r ≡ s → le_z (to_z w128 (of_z w128 r)) (pos 0) ≡ false → int_lt (pos 0) s ≡ true
side_above r s fits same test = lt-int_lt (pos 0) s (omega (arith, ints))

-- a side that isn't above 0
pub side_not_above : (r s : ℤ) → FitsSigned w128 r → r ≡ s → le_z (to_z w128 (of_z w128 r)) (pos 0) ≡ true → int_lt (pos 0) s ≡ false
side_not_above r s fits same test = le-int_lt (pos 0) s (omega (arith, ints))

-- ---- the area
-- twice the signed area of the triangle of the origin and an edge
abbrev pub cross_of : Place × Place → ℤ
cross_of e = e.0.x *ℤ e.1.y -ℤ e.1.x *ℤ e.0.y

-- the ends of an edge
abbrev pub ends : Place → Place → Place × Place
ends a b = (a, b)

-- the ends of edge i, as the code reads them
pub edge_read : (vs : List Place) (i j : ℕ) (a b : Place) → i < length vs → a ≡ get_or vs i a → j ≡ next_of (length vs) i → b ≡ get_or vs j b → ends a b ≡ ends (vertex vs i) (vertex vs (next_of (length vs) i))
edge_read vs i j a b within at_i next at_j =
    let left : a ≡ vertex vs i = get_or_read vs i a within at_i origin in
    let at_next : b ≡ get_or vs (next_of (length vs) i) b = subst (λ k. b ≡ get_or vs k b) next at_j in
    let right : b ≡ vertex vs (next_of (length vs) i) = get_or_read vs (next_of (length vs) i) b (next-below (length vs) i within) at_next origin in
    ap (λ w. ends w b) left ∙ ap (ends (vertex vs i)) right

-- twice the area of the triangles of the origin and the first i edges
abbrev pub area_to : List Place → ℕ → ℤ
area_to vs i = fold ◌+ℤ◌ (pos 0) (map cross_of (take i (edges vs)))

-- with one edge more
pub area_more : (vs : List Place) (i : ℕ) (area k : ℤ) → i < length vs → area ≡ area_to vs i → k ≡ cross_of (vertex vs i, vertex vs (next_of (length vs) i)) → area +ℤ k ≡ area_to vs (i + 1)
area_more vs i area k within before here =
    let add : ℤ → Place × Place → ℤ = λ b e. b +ℤ cross_of e in
    ap (λ b. b +ℤ k) (before ∙ fold-map ◌+ℤ◌ cross_of (pos 0) (take i (edges vs)))
    ∙ ap (λ b. fold add (pos 0) (take i (edges vs)) +ℤ b) (here ∙ ap cross_of (sym (edge_at vs i within)))
    ∙ sym (fold_more add (pos 0) (edges vs) i (origin, origin) (omega (arith, length-edges vs)))
    ∙ sym (fold-map ◌+ℤ◌ cross_of (pos 0) (take (i + 1) (edges vs)))

-- with all edges it is the polygon's
pub area_all : (vs : List Place) (n : ℕ) (area : ℤ) → length vs ≤ n → area ≡ area_to vs n → area ≡ doubled_area vs
unfolding doubled_area
area_all vs n area whole before = before ∙ ap (λ es. fold ◌+ℤ◌ (pos 0) (map cross_of es)) (take_all n (edges vs) (omega (arith, length-edges vs)))

-- ---- turning
pub turned_back : (vs : List Place) → doubled_area vs <ℤ pos 0 → turned vs ≡ take 1 vs ++ reverse (drop 1 vs)
unfolding turned
turned_back vs less = rw (lt-int_lt (doubled_area vs) (pos 0) less) refl

-- a list with an area that isn't below 0 stays as it is
pub turned_not : (vs : List Place) → (pos 0) ≤ℤ doubled_area vs → turned vs ≡ vs
unfolding turned
turned_not vs more = rw (le-int_lt (doubled_area vs) (pos 0) more) refl

-- the turned list is as long
pub length-turned : (vs : List Place) → length (turned vs) ≡ length vs
length-turned vs =
    by_lt_z (doubled_area vs) (pos 0)
    (λ less. ap length (turned_back vs less) ∙ length-append (take 1 vs) (reverse (drop 1 vs)) ∙ omega (arith, length-take 1 vs, length-reverse (drop 1 vs), length-drop 1 vs))
    (λ more. ap length (turned_not vs more))

-- the test of an area, as the code makes it
pub area_below : (r s : ℤ) → FitsSigned w64 r → r ≡ s → lt_z (to_z w64 (of_z w64 r)) (pos 0) ≡ true → s <ℤ pos 0
area_below r s fits same test = omega (arith, ints)

-- where it fails
pub area_not_below : (r s : ℤ) → FitsSigned w64 r → r ≡ s → lt_z (to_z w64 (of_z w64 r)) (pos 0) ≡ false → (pos 0) ≤ℤ s
area_not_below r s fits same test = omega (arith, ints)

-- ---- dents
-- a list with no dent is convex
pub IsConvex-by_dents : (vs : List Place) → ((i j : ℕ) → IsDent vs i j → ⊥) → IsConvex vs
IsConvex-by_dents vs none i j edge within not_start not_end =
    by_lt_z (pos 0) (side (vertex vs i) (vertex vs (next_of (length vs) i)) (point_of (grid (vertex vs j))))
    (λ left. left)
    (λ beside. absurd (none i j (record { edge = edge; within = within; not_start = not_start; not_end = not_end; beside = beside })))
