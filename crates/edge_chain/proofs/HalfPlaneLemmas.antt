-- A half plane that holds the corners of a counter-clockwise triangle holds what the triangle holds.
use Rattle.std.proofs.Common.{◌≡◌, ℕ, true, ℤ, pos, ◌+ℤ◌, ◌-ℤ◌, ◌*ℤ◌, ◌≤ℤ◌, ◌<ℤ◌, sym, ◌∙◌, subst, arith}
use Rattle.std.proofs.lemmas.Int.{ints}
use Rattle.std.proofs.lemmas.Bool.{and_parts}
use borrow.Author.Differences.{up, down, same_in}
use Rattle.siting_definitions.specs.Point.{Place, Point, side}
use Rattle.siting_definitions.specs.Polygon.{covers, doubled_area}
use Rattle.siting_definitions.proofs.Integers.{diff, diffs, diff-eq, as_diff, int_le-true, int_lt-true}
use Rattle.edge_chain.specs.Triangle.{Triangle, corners}
use Rattle.edge_chain.specs.Line.{HalfPlane, Holds}
use Rattle.edge_chain.specs.Piece.{at}
use Rattle.edge_chain.proofs.Vectors.{area, sides_sum, side_of, area_of, product_nonneg, factor_nonneg}
use Rattle.edge_chain.proofs.CoverLemmas.{holds, area_is}

-- ---- the point by the corners, each weighted by the side of the point on the opposite edge
weights_x-diff : (ax ax' ay ay' bx bx' by by' cx cx' cy cy' px px' py py' q q' : ℕ) → side_of (diff bx bx') (diff by by') (diff cx cx') (diff cy cy') (diff px px') (diff py py') (diff q q') *ℤ diff ax ax' +ℤ side_of (diff cx cx') (diff cy cy') (diff ax ax') (diff ay ay') (diff px px') (diff py py') (diff q q') *ℤ diff bx bx' +ℤ side_of (diff ax ax') (diff ay ay') (diff bx bx') (diff by by') (diff px px') (diff py py') (diff q q') *ℤ diff cx cx' ≡ area_of (diff ax ax') (diff ay ay') (diff bx bx') (diff by by') (diff cx cx') (diff cy cy') *ℤ diff px px'
weights_x-diff ax ax' ay ay' bx bx' by by' cx cx' cy cy' px px' py py' q q' = simp diffs (diff-eq _ _ _ _ (omega arith))

weights_x : (ax ay bx by cx cy px py q : ℤ) → side_of bx by cx cy px py q *ℤ ax +ℤ side_of cx cy ax ay px py q *ℤ bx +ℤ side_of ax ay bx by px py q *ℤ cx ≡ area_of ax ay bx by cx cy *ℤ px
weights_x ax ay bx by cx cy px py q =
    rw (as_diff ax, as_diff ay, as_diff bx, as_diff by, as_diff cx, as_diff cy, as_diff px, as_diff py, as_diff q)
    (weights_x-diff (up ax) (down ax) (up ay) (down ay) (up bx) (down bx) (up by) (down by) (up cx) (down cx) (up cy) (down cy) (up px) (down px) (up py) (down py) (up q) (down q))

weights_y-diff : (ax ax' ay ay' bx bx' by by' cx cx' cy cy' px px' py py' q q' : ℕ) → side_of (diff bx bx') (diff by by') (diff cx cx') (diff cy cy') (diff px px') (diff py py') (diff q q') *ℤ diff ay ay' +ℤ side_of (diff cx cx') (diff cy cy') (diff ax ax') (diff ay ay') (diff px px') (diff py py') (diff q q') *ℤ diff by by' +ℤ side_of (diff ax ax') (diff ay ay') (diff bx bx') (diff by by') (diff px px') (diff py py') (diff q q') *ℤ diff cy cy' ≡ area_of (diff ax ax') (diff ay ay') (diff bx bx') (diff by by') (diff cx cx') (diff cy cy') *ℤ diff py py'
weights_y-diff ax ax' ay ay' bx bx' by by' cx cx' cy cy' px px' py py' q q' = simp diffs (diff-eq _ _ _ _ (omega arith))

weights_y : (ax ay bx by cx cy px py q : ℤ) → side_of bx by cx cy px py q *ℤ ay +ℤ side_of cx cy ax ay px py q *ℤ by +ℤ side_of ax ay bx by px py q *ℤ cy ≡ area_of ax ay bx by cx cy *ℤ py
weights_y ax ay bx by cx cy px py q =
    rw (as_diff ax, as_diff ay, as_diff bx, as_diff by, as_diff cx, as_diff cy, as_diff px, as_diff py, as_diff q)
    (weights_y-diff (up ax) (down ax) (up ay) (down ay) (up bx) (down bx) (up by) (down by) (up cx) (down cx) (up cy) (down cy) (up px) (down px) (up py) (down py) (up q) (down q))

sides_x : (a b c : Place) (p : Point) → side b c p *ℤ a.x +ℤ side c a p *ℤ b.x +ℤ side a b p *ℤ c.x ≡ area a b c *ℤ p.x
unfolding side
sides_x a b c p = weights_x a.x a.y b.x b.y c.x c.y p.x p.y (pos p.q)

sides_y : (a b c : Place) (p : Point) → side b c p *ℤ a.y +ℤ side c a p *ℤ b.y +ℤ side a b p *ℤ c.y ≡ area a b c *ℤ p.y
unfolding side
sides_y a b c p = weights_y a.x a.y b.x b.y c.x c.y p.x p.y (pos p.q)

-- ---- a weighted sum of linear terms
spread-diff : (u u' v v' w w' r r' s s' t t' ax ax' ay ay' bx bx' by by' cx cx' cy cy' : ℕ) → diff u u' *ℤ (diff r r' *ℤ diff ax ax' +ℤ diff s s' *ℤ diff bx bx' +ℤ diff t t' *ℤ diff cx cx') +ℤ diff v v' *ℤ (diff r r' *ℤ diff ay ay' +ℤ diff s s' *ℤ diff by by' +ℤ diff t t' *ℤ diff cy cy') +ℤ diff w w' *ℤ (diff r r' +ℤ diff s s' +ℤ diff t t') ≡ diff r r' *ℤ (diff u u' *ℤ diff ax ax' +ℤ diff v v' *ℤ diff ay ay' +ℤ diff w w') +ℤ diff s s' *ℤ (diff u u' *ℤ diff bx bx' +ℤ diff v v' *ℤ diff by by' +ℤ diff w w') +ℤ diff t t' *ℤ (diff u u' *ℤ diff cx cx' +ℤ diff v v' *ℤ diff cy cy' +ℤ diff w w')
spread-diff u u' v v' w w' r r' s s' t t' ax ax' ay ay' bx bx' by by' cx cx' cy cy' = simp diffs (diff-eq _ _ _ _ (omega arith))

spread : (u v w r s t ax ay bx by cx cy : ℤ) → u *ℤ (r *ℤ ax +ℤ s *ℤ bx +ℤ t *ℤ cx) +ℤ v *ℤ (r *ℤ ay +ℤ s *ℤ by +ℤ t *ℤ cy) +ℤ w *ℤ (r +ℤ s +ℤ t) ≡ r *ℤ (u *ℤ ax +ℤ v *ℤ ay +ℤ w) +ℤ s *ℤ (u *ℤ bx +ℤ v *ℤ by +ℤ w) +ℤ t *ℤ (u *ℤ cx +ℤ v *ℤ cy +ℤ w)
spread u v w r s t ax ay bx by cx cy =
    rw (as_diff u, as_diff v, as_diff w, as_diff r, as_diff s, as_diff t, as_diff ax, as_diff ay, as_diff bx, as_diff by, as_diff cx, as_diff cy)
    (spread-diff (up u) (down u) (up v) (down v) (up w) (down w) (up r) (down r) (up s) (down s) (up t) (down t) (up ax) (down ax) (up ay) (down ay) (up bx) (down bx) (up by) (down by) (up cx) (down cx) (up cy) (down cy))

gather-diff : (u u' v v' w w' d d' x x' y y' q q' : ℕ) → diff d d' *ℤ (diff u u' *ℤ diff x x' +ℤ diff v v' *ℤ diff y y' +ℤ diff w w' *ℤ diff q q') ≡ diff u u' *ℤ (diff d d' *ℤ diff x x') +ℤ diff v v' *ℤ (diff d d' *ℤ diff y y') +ℤ diff w w' *ℤ (diff d d' *ℤ diff q q')
gather-diff u u' v v' w w' d d' x x' y y' q q' = simp diffs (diff-eq _ _ _ _ (omega arith))

gather : (u v w d x y q : ℤ) → d *ℤ (u *ℤ x +ℤ v *ℤ y +ℤ w *ℤ q) ≡ u *ℤ (d *ℤ x) +ℤ v *ℤ (d *ℤ y) +ℤ w *ℤ (d *ℤ q)
gather u v w d x y q =
    rw (as_diff u, as_diff v, as_diff w, as_diff d, as_diff x, as_diff y, as_diff q)
    (gather-diff (up u) (down u) (up v) (down v) (up w) (down w) (up d) (down d) (up x) (down x) (up y) (down y) (up q) (down q))

sum_order : (r s t : ℤ) → s +ℤ t +ℤ r ≡ r +ℤ s +ℤ t
sum_order r s t = same_in _ _ (omega (arith, ints))

-- a linear term at p, times the area, by its values at the corners
weighted : (h : HalfPlane) (a b c : Place) (p : Point) → area a b c *ℤ (h.u *ℤ p.x +ℤ h.v *ℤ p.y +ℤ h.w *ℤ pos p.q) ≡ side b c p *ℤ (h.u *ℤ a.x +ℤ h.v *ℤ a.y +ℤ h.w) +ℤ side c a p *ℤ (h.u *ℤ b.x +ℤ h.v *ℤ b.y +ℤ h.w) +ℤ side a b p *ℤ (h.u *ℤ c.x +ℤ h.v *ℤ c.y +ℤ h.w)
weighted h a b c p =
    gather h.u h.v h.w (area a b c) p.x p.y (pos p.q)
    ∙ rw (← sides_x a b c p, ← sides_y a b c p, ← sides_sum a b c p, ← sum_order (side a b p) (side b c p) (side c a p)) (spread h.u h.v h.w (side b c p) (side c a p) (side a b p) a.x a.y b.x b.y c.x c.y)

-- ---- the law
at_corner : (h : HalfPlane) (v : Place) → Holds h (at v) → pos 0 ≤ℤ (h.u *ℤ v.x +ℤ h.v *ℤ v.y +ℤ h.w)
at_corner h v held = omega (arith, ints, held, times_one h.w)
  where
    times_one : (w : ℤ) → w *ℤ pos 1 ≡ w
    times_one w = omega (arith, ints)

pub held_with_corners : (h : HalfPlane) (t : Triangle) (p : Point) → Holds h (at t.a) → Holds h (at t.b) → Holds h (at t.c) → holds p t ≡ true → Holds h p
unfolding covers
held_with_corners h t p ha hb hc held =
    let parts = and_parts _ _ held in
    let turn : pos 0 <ℤ doubled_area (corners t) = int_lt-true (pos 0) (doubled_area (corners t)) parts.0 in
    let above : pos 0 <ℤ area t.a t.b t.c = omega (arith, ints, turn, area_is t) in
    let first = and_parts _ _ parts.1 in
    let second = and_parts _ _ first.1 in
    let third = and_parts _ _ second.1 in
    let a = product_nonneg _ _ (int_le-true (pos 0) (side t.b t.c p) second.0) (at_corner h t.a ha) in
    let b = product_nonneg _ _ (int_le-true (pos 0) (side t.c t.a p) third.0) (at_corner h t.b hb) in
    let c = product_nonneg _ _ (int_le-true (pos 0) (side t.a t.b p) first.0) (at_corner h t.c hc) in
    factor_nonneg (area t.a t.b t.c) (h.u *ℤ p.x +ℤ h.v *ℤ p.y +ℤ h.w *ℤ pos p.q) (omega (arith, ints, weighted h t.a t.b t.c p, a, b, c)) above

-- ---- the half plane to the left of an edge
edge_plane : Place → Place → HalfPlane
edge_plane s t = record { u = s.y -ℤ t.y; v = t.x -ℤ s.x; w = (t.y -ℤ s.y) *ℤ s.x -ℤ (t.x -ℤ s.x) *ℤ s.y }

plane-diff : (sx sx' sy sy' tx tx' ty ty' px px' py py' q q' : ℕ) → (diff sy sy' -ℤ diff ty ty') *ℤ diff px px' +ℤ (diff tx tx' -ℤ diff sx sx') *ℤ diff py py' +ℤ ((diff ty ty' -ℤ diff sy sy') *ℤ diff sx sx' -ℤ (diff tx tx' -ℤ diff sx sx') *ℤ diff sy sy') *ℤ diff q q' ≡ side_of (diff sx sx') (diff sy sy') (diff tx tx') (diff ty ty') (diff px px') (diff py py') (diff q q')
plane-diff sx sx' sy sy' tx tx' ty ty' px px' py py' q q' = simp diffs (diff-eq _ _ _ _ (omega arith))

plane_by : (sx sy tx ty px py q : ℤ) → (sy -ℤ ty) *ℤ px +ℤ (tx -ℤ sx) *ℤ py +ℤ ((ty -ℤ sy) *ℤ sx -ℤ (tx -ℤ sx) *ℤ sy) *ℤ q ≡ side_of sx sy tx ty px py q
plane_by sx sy tx ty px py q =
    rw (as_diff sx, as_diff sy, as_diff tx, as_diff ty, as_diff px, as_diff py, as_diff q)
    (plane-diff (up sx) (down sx) (up sy) (down sy) (up tx) (down tx) (up ty) (down ty) (up px) (down px) (up py) (down py) (up q) (down q))

plane_is : (s t : Place) (p : Point) → (edge_plane s t).u *ℤ p.x +ℤ (edge_plane s t).v *ℤ p.y +ℤ (edge_plane s t).w *ℤ pos p.q ≡ side s t p
unfolding side edge_plane
plane_is s t p = plane_by s.x s.y t.x t.y p.x p.y (pos p.q)

-- the corners of a counter-clockwise triangle beside an edge: so is each point of the triangle
pub beside_with_corners : (s e : Place) (t : Triangle) (p : Point) → pos 0 ≤ℤ side s e (at t.a) → pos 0 ≤ℤ side s e (at t.b) → pos 0 ≤ℤ side s e (at t.c) → holds p t ≡ true → pos 0 ≤ℤ side s e p
beside_with_corners s e t p a b c held =
    subst (λ z. pos 0 ≤ℤ z) (plane_is s e p)
    (held_with_corners (edge_plane s e) t p (subst (λ z. pos 0 ≤ℤ z) (sym (plane_is s e (at t.a))) a) (subst (λ z. pos 0 ≤ℤ z) (sym (plane_is s e (at t.b))) b) (subst (λ z. pos 0 ≤ℤ z) (sym (plane_is s e (at t.c))) c) held)
