-- A line that parts an edge from two points tells how often the edge rises past each, so a closed chain winds as often round both.
use Rattle.std.proofs.Common.{◌≡◌, ℕ, ◌+◌, ◌⊎◌, ⊎_elim, inl, inr, Bool, true, false, not, ◌&&◌, List, [], ◌∷◌, ℤ, pos, ◌-ℤ◌, ◌*ℤ◌, neg_ℤ, ◌≤ℤ◌, ◌<ℤ◌, refl, sym, ◌∙◌, ap, subst, arith}
use Rattle.std.specs.Prelude.{int_lt}
use Rattle.std.specs.List.{sum_by, All}
use Rattle.std.proofs.lemmas.Int.{by_lt_z, ints}
use Rattle.std.proofs.lemmas.Bool.{true≢false}
use Rattle.std.proofs.lemmas.List.Sums.{sum_by-cons}
use Rattle.std.proofs.lemmas.List.Elements.{All-head, All-tail}
use borrow.Author.Differences.{up, down, same_in}
use Rattle.siting_definitions.specs.Point.{Place, Point, side}
use Rattle.siting_definitions.proofs.Integers.{diff, diffs, diff-eq, as_diff, mul_le_ℤ, le_of_mul_le_ℤ, mul_assoc_ℤ, mul_comm_ℤ, pos-diff, int_le-true, le-int_le, lt-int_lt, le-int_lt}
use Rattle.edge_chain.specs.Chain.{Edge, reversed, is_low, rises, winding}
use Rattle.edge_chain.specs.Piece.{at}
use Rattle.edge_chain.proofs.Vectors.{det, turn, way_x, way_y, side_of, three_vectors, side_above, side_nonpos, product_nonneg, product_nonpos, product_below_right, product_nonpos_right, both_nonpos, low_way, high_way}
use Rattle.edge_chain.proofs.WindingLemmas.{once, rising, falling, winding_is}

-- ---- how a place and a point differ across a line
way-diff : (ux ux' uy uy' vx vx' vy vy' ax ax' ay ay' px px' py py' q q' : ℕ) → det (diff vx vx' -ℤ diff ux ux') (diff vy vy' -ℤ diff uy uy') (diff q q' *ℤ diff ax ax' -ℤ diff px px') (diff q q' *ℤ diff ay ay' -ℤ diff py py') ≡ diff q q' *ℤ side_of (diff ux ux') (diff uy uy') (diff vx vx') (diff vy vy') (diff ax ax') (diff ay ay') (diff 1 0) -ℤ side_of (diff ux ux') (diff uy uy') (diff vx vx') (diff vy vy') (diff px px') (diff py py') (diff q q')
way-diff ux ux' uy uy' vx vx' vy vy' ax ax' ay ay' px px' py py' q q' = simp diffs (diff-eq _ _ _ _ (omega arith))

one_is : pos 1 ≡ diff 1 0
one_is = pos-diff 1

way_by : (ux uy vx vy ax ay px py q : ℤ) → det (vx -ℤ ux) (vy -ℤ uy) (q *ℤ ax -ℤ px) (q *ℤ ay -ℤ py) ≡ q *ℤ side_of ux uy vx vy ax ay (diff 1 0) -ℤ side_of ux uy vx vy px py q
way_by ux uy vx vy ax ay px py q =
    rw (as_diff ux, as_diff uy, as_diff vx, as_diff vy, as_diff ax, as_diff ay, as_diff px, as_diff py, as_diff q)
    (way-diff (up ux) (down ux) (up uy) (down uy) (up vx) (down vx) (up vy) (down vy) (up ax) (down ax) (up ay) (down ay) (up px) (down px) (up py) (down py) (up q) (down q))

-- the way from p to a, across the line from u to v
across : Place → Place → Point → Place → ℤ
across u v p a = det (v.x -ℤ u.x) (v.y -ℤ u.y) (way_x p a) (way_y p a)

across_is : (u v a : Place) (p : Point) → across u v p a ≡ pos p.q *ℤ side u v (at a) -ℤ side u v p
unfolding side across
across_is u v a p =
    way_by u.x u.y v.x v.y a.x a.y p.x p.y (pos p.q)
    ∙ ap (λ w. pos p.q *ℤ side_of u.x u.y v.x v.y a.x a.y w -ℤ side_of u.x u.y v.x v.y p.x p.y (pos p.q)) (sym one_is)

-- p lies strictly to the left of the line, and a on it or to its right
across_below : (u v a : Place) (p : Point) → pos 0 <ℤ side u v p → side u v (at a) ≤ℤ pos 0 → across u v p a <ℤ pos 0
across_below u v a p left right =
    let e = product_nonpos_right (pos p.q) (side u v (at a)) (omega (arith, ints)) right in omega (arith, ints, across_is u v a p, left, e)

heights : (u v a b : Place) (p r : Point) → way_y r b *ℤ across u v p a -ℤ way_y p a *ℤ across u v r b ≡ neg_ℤ ((v.y -ℤ u.y) *ℤ det (way_x p a) (way_y p a) (way_x r b) (way_y r b))
unfolding across
heights u v a b p r = three_vectors (way_x p a) (way_y p a) (way_x r b) (way_y r b) (v.x -ℤ u.x) (v.y -ℤ u.y)

-- the sign of d is that of t, by that of their product
same_sign : (d t : ℤ) → pos 0 <ℤ (d *ℤ t) → (pos 0 <ℤ d → pos 0 <ℤ t) × (d ≤ℤ pos 0 → t ≤ℤ pos 0)
same_sign d t h = (
  λ above. by_lt_z (pos 0) t (λ yes. yes) (λ not_. let e = product_nonpos_right d t (omega (arith, ints)) not_ in absurd (omega (arith, ints, e))),
  λ not_above. by_lt_z (pos 0) t (λ yes. let e = product_nonpos d t not_above (omega (arith, ints)) in absurd (omega (arith, ints, e))) (λ le. le),
)

other_sign : (d t : ℤ) → (d *ℤ t) <ℤ pos 0 → (pos 0 <ℤ d → t <ℤ pos 0) × (d ≤ℤ pos 0 → pos 0 ≤ℤ t)
other_sign d t h = (
  λ above. by_lt_z t (pos 0) (λ yes. yes) (λ not_. let e = product_nonneg d t (omega (arith, ints)) not_ in absurd (omega (arith, ints, e))),
  λ not_above. by_lt_z t (pos 0) (λ yes. let e = both_nonpos d t not_above (omega (arith, ints)) in absurd (omega (arith, ints, e))) (λ le. le),
)

-- ---- a line that parts an edge from two points: the points lie strictly to its left, the ends of the edge on it or to its right
pub record IsParted (p q : Point) (e : Edge) : Type 0 where
  pub u : Place
  pub v : Place
  pub left_p : pos 0 <ℤ side u v p
  pub left_q : pos 0 <ℤ side u v q
  pub start : side u v (at e.0) ≤ℤ pos 0
  pub end : side u v (at e.1) ≤ℤ pos 0

-- whether the line from u to v goes up
abbrev pub goes_up : Place → Place → Bool
goes_up u v = int_lt u.y v.y

-- an edge that starts low and ends high has the point to its left exactly where the line goes up
straddle : (u v a b : Place) (p : Point) → pos 0 <ℤ side u v p → side u v (at a) ≤ℤ pos 0 → side u v (at b) ≤ℤ pos 0 → is_low a p ≡ true → is_low b p ≡ false → int_lt (pos 0) (side a b p) ≡ goes_up u v
straddle u v a b p left ra rb la lb =
    let ha = low_way a p la in
    let hb = high_way b p lb in
    let first = product_below_right (way_y p b) (across u v p a) hb (across_below u v a p left ra) in
    let second = both_nonpos (way_y p a) (across u v p b) ha (let e = across_below u v b p left rb in omega (arith, ints, e)) in
    let product : pos 0 <ℤ ((v.y -ℤ u.y) *ℤ turn p a b) = omega (arith, ints, heights u v a b p p, first, second) in
    let signs = same_sign (v.y -ℤ u.y) (turn p a b) product in
    by_lt_z u.y v.y
    (λ up_. lt-int_lt (pos 0) (side a b p) (side_above a b p (signs.0 (omega (arith, ints)))) ∙ sym (lt-int_lt u.y v.y up_))
    (λ down_. le-int_lt (pos 0) (side a b p) (side_nonpos a b p (signs.1 (omega (arith, ints)))) ∙ sym (le-int_lt u.y v.y down_))

-- whether a place at heights above p and up to q's lies strictly to the right of the line from p to q
abbrev pub is_beyond : Point → Point → Place → Bool
is_beyond p q w = int_lt (det (way_x p w) (way_y p w) (way_x q w) (way_y q w)) (pos 0)

middle : (u v w : Place) (p q : Point) → pos 0 <ℤ side u v p → pos 0 <ℤ side u v q → side u v (at w) ≤ℤ pos 0 → is_low w p ≡ false → is_low w q ≡ true → is_beyond p q w ≡ goes_up u v
middle u v w p q left_p left_q right high low =
    let hp = high_way w p high in
    let hq = low_way w q low in
    let first = both_nonpos (way_y q w) (across u v p w) hq (let e = across_below u v w p left_p right in omega (arith, ints, e)) in
    let second = product_below_right (way_y p w) (across u v q w) hp (across_below u v w q left_q right) in
    let t = det (way_x p w) (way_y p w) (way_x q w) (way_y q w) in
    let product : ((v.y -ℤ u.y) *ℤ t) <ℤ pos 0 = omega (arith, ints, heights u v w w p q, first, second) in
    let signs = other_sign (v.y -ℤ u.y) t product in
    by_lt_z u.y v.y
    (λ up_. lt-int_lt t (pos 0) (signs.0 (omega (arith, ints))) ∙ sym (lt-int_lt u.y v.y up_))
    (λ down_. le-int_lt t (pos 0) (signs.1 (omega (arith, ints))) ∙ sym (le-int_lt u.y v.y down_))

-- ---- rises, by heights alone
pub rises_by : (u v a b : Place) (p : Point) → pos 0 <ℤ side u v p → side u v (at a) ≤ℤ pos 0 → side u v (at b) ≤ℤ pos 0 → rises (a, b) p ≡ (is_low a p && not (is_low b p) && goes_up u v)
rises_by u v a b p left ra rb =
    same_and (is_low a p) (is_low b p) (int_lt (pos 0) (side a b p)) (goes_up u v) (straddle u v a b p left ra rb)
  where
    same_and : (x y s t : Bool) → (x ≡ true → y ≡ false → s ≡ t) → (x && not y && s) ≡ (x && not y && t)
    same_and true true s t h = refl
    same_and true false s t h = h refl refl
    same_and false true s t h = refl
    same_and false false s t h = refl

-- whether a place lies above p, at q's height or below, and strictly to the right of the line from p to q
abbrev pub is_between : Point → Point → Place → Bool
is_between p q w = not (is_low w p) && is_low w q && is_beyond p q w

between_by : (u v w : Place) (p q : Point) → pos 0 <ℤ side u v p → pos 0 <ℤ side u v q → side u v (at w) ≤ℤ pos 0 → is_between p q w ≡ (not (is_low w p) && is_low w q && goes_up u v)
between_by u v w p q left_p left_q right =
    same_and (is_low w p) (is_low w q) (is_beyond p q w) (goes_up u v) (middle u v w p q left_p left_q right)
  where
    same_and : (x y s t : Bool) → (x ≡ false → y ≡ true → s ≡ t) → (not x && y && s) ≡ (not x && y && t)
    same_and true y s t h = refl
    same_and false true s t h = h refl refl
    same_and false false s t h = refl

-- what is low at p is low at a point that is no lower
low-higher : (w : Place) (p q : Point) → (p.y *ℤ pos q.q) ≤ℤ (q.y *ℤ pos p.q) → is_low w p ≡ true → is_low w q ≡ true
low-higher w p q higher low =
    let first : ((pos p.q *ℤ w.y) *ℤ pos q.q) ≤ℤ (p.y *ℤ pos q.q) = mul_le_ℤ (pos p.q *ℤ w.y) p.y q.q (int_le-true (pos p.q *ℤ w.y) p.y low) in
    let order : (pos p.q *ℤ w.y) *ℤ pos q.q ≡ (pos q.q *ℤ w.y) *ℤ pos p.q =
    mul_assoc_ℤ (pos p.q) w.y (pos q.q) ∙ mul_comm_ℤ (pos p.q) (w.y *ℤ pos q.q) ∙ ap (λ z. z *ℤ pos p.q) (mul_comm_ℤ w.y (pos q.q)) in
    le-int_le (pos q.q *ℤ w.y) q.y (le_of_mul_le_ℤ (pos q.q *ℤ w.y) q.y p.q p.q_pos (omega (arith, ints, first, order, higher)))

-- how an edge's rises and falls past two points differ: by its ends alone
identity : (la lb ma mb s : Bool) → (la ≡ true → ma ≡ true) → (lb ≡ true → mb ≡ true) → once (la && not lb && s) + once (mb && not ma && s) + once (not la && ma && s) ≡ once (ma && not mb && s) + once (lb && not la && s) + once (not lb && mb && s)
identity true true true true s h k = omega arith
identity true true true false s h k = absurd (true≢false (sym (k refl)))
identity true true false true s h k = absurd (true≢false (sym (h refl)))
identity true true false false s h k = absurd (true≢false (sym (h refl)))
identity true false true true s h k = omega arith
identity true false true false s h k = omega arith
identity true false false true s h k = absurd (true≢false (sym (h refl)))
identity true false false false s h k = absurd (true≢false (sym (h refl)))
identity false true true true s h k = omega arith
identity false true true false s h k = absurd (true≢false (sym (k refl)))
identity false true false true s h k = omega arith
identity false true false false s h k = absurd (true≢false (sym (k refl)))
identity false false true true s h k = omega arith
identity false false true false s h k = omega arith
identity false false false true s h k = omega arith
identity false false false false s h k = omega arith

edge_identity : (p q : Point) (e : Edge) → (p.y *ℤ pos q.q) ≤ℤ (q.y *ℤ pos p.q) → IsParted p q e → once (rises e p) + once (rises (reversed e) q) + once (is_between p q e.0) ≡ once (rises e q) + once (rises (reversed e) p) + once (is_between p q e.1)
edge_identity p q e higher h =
    let s = goes_up h.u h.v in
    let e1 = ap once (rises_by h.u h.v e.0 e.1 p h.left_p h.start h.end) in
    let e2 = ap once (rises_by h.u h.v e.1 e.0 q h.left_q h.end h.start) in
    let e3 = ap once (between_by h.u h.v e.0 p q h.left_p h.left_q h.start) in
    let e4 = ap once (rises_by h.u h.v e.0 e.1 q h.left_q h.start h.end) in
    let e5 = ap once (rises_by h.u h.v e.1 e.0 p h.left_p h.end h.start) in
    let e6 = ap once (between_by h.u h.v e.1 p q h.left_p h.left_q h.end) in
    omega (arith, e1, e2, e3, e4, e5, e6, identity (is_low e.0 p) (is_low e.1 p) (is_low e.0 q) (is_low e.1 q) s (low-higher e.0 p q higher) (low-higher e.1 p q higher))

-- ---- chains
-- an edge whose ends are one counts for nothing: it neither rises nor falls
abbrev pub IsPoint : Edge → Type 0
IsPoint e = e.1 ≡ e.0

point_identity : (p q : Point) (e : Edge) → IsPoint e → once (rises e p) + once (rises (reversed e) q) + once (is_between p q e.0) ≡ once (rises e q) + once (rises (reversed e) p) + once (is_between p q e.1)
point_identity p q e same =
    subst (λ (w : Place). once (rises (e.0, w) p) + once (rises (w, e.0) q) + once (is_between p q e.0) ≡ once (rises (e.0, w) q) + once (rises (w, e.0) p) + once (is_between p q w)) (sym same) (flat e.0 p q)
  where
    none : (x s : Bool) → once (x && not x && s) ≡ 0
    none true s = refl
    none false s = refl

    flat : (a : Place) (p q : Point) → once (rises (a, a) p) + once (rises (a, a) q) + once (is_between p q a) ≡ once (rises (a, a) q) + once (rises (a, a) p) + once (is_between p q a)
    flat a p q = omega arith

abbrev pub Passes : Point → Point → Edge → Type 0
Passes p q e = IsParted p q e ⊎ IsPoint e

-- the identity, over a chain
chain_identity : (p q : Point) (es : List Edge) → (p.y *ℤ pos q.q) ≤ℤ (q.y *ℤ pos p.q) → All (Passes p q) es → rising es p + falling es q + sum_by (λ (e : Edge). once (is_between p q e.0)) es ≡ rising es q + falling es p + sum_by (λ (e : Edge). once (is_between p q e.1)) es
chain_identity p q [] higher all = refl
chain_identity p q (e ∷ es) higher all =
    let here = ⊎_elim (edge_identity p q e higher) (point_identity p q e) (All-head (Passes p q) e es all) in
    let rest = chain_identity p q es higher (All-tail (Passes p q) e es all) in
    let c1 = sum_by-cons (λ (e : Edge). once (rises e p)) e es in
    let c2 = sum_by-cons (λ (e : Edge). once (rises (reversed e) q)) e es in
    let c3 = sum_by-cons (λ (e : Edge). once (is_between p q e.0)) e es in
    let c4 = sum_by-cons (λ (e : Edge). once (rises e q)) e es in
    let c5 = sum_by-cons (λ (e : Edge). once (rises (reversed e) p)) e es in
    let c6 = sum_by-cons (λ (e : Edge). once (is_between p q e.1)) e es in
    omega (arith, here, rest, c1, c2, c3, c4, c5, c6)

-- as many edges leave each place as enter it
abbrev pub Balanced : List Edge → Type 0
Balanced es = (f : Place → ℕ) → sum_by (λ (e : Edge). f e.0) es ≡ sum_by (λ (e : Edge). f e.1) es

same_higher : (p q : Point) (es : List Edge) → (p.y *ℤ pos q.q) ≤ℤ (q.y *ℤ pos p.q) → Balanced es → All (Passes p q) es → winding es p ≡ winding es q
same_higher p q es higher balanced all =
    let e = chain_identity p q es higher all in
    let f = balanced (λ w. once (is_between p q w)) in
    same_in _ _ (omega (arith, ints, winding_is es p, winding_is es q, e, f))

turned : (p q : Point) (e : Edge) → Passes p q e → Passes q p e
turned p q e h =
    ⊎_elim (λ (k : IsParted p q e). inl (record { u = k.u; v = k.v; left_p = k.left_q; left_q = k.left_p; start = k.start; end = k.end })) (λ k. inr k) h

-- a balanced chain whose edges are each parted from p and q winds as often round both
pub same_winding : (p q : Point) (es : List Edge) → Balanced es → All (Passes p q) es → winding es p ≡ winding es q
same_winding p q es balanced all =
    by_lt_z (q.y *ℤ pos p.q) (p.y *ℤ pos q.q)
    (λ less. sym (same_higher q p es (omega (arith, ints)) balanced (λ k d h. turned p q _ (all k d h))))
    (λ le. same_higher p q es le balanced all)
