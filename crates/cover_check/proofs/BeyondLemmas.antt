-- Triangles beyond a side of a tile, by their coordinates.
use Rattle.std.proofs.Common.{◌≡◌, ℕ, Bool, true, false, ◌||◌, ◌^◌, ◌<◌, ◌≤◌, unsigned_abs, w64, to_z, of_z, ℤ, pos, ◌+ℤ◌, ◌-ℤ◌, ◌*ℤ◌, neg_ℤ, refl, sym, ◌∙◌, ap, arith}
use Rattle.std.specs.Prelude.{int_lt}
use Rattle.std.specs.List.{list_all}
use Rattle.std.proofs.lemmas.Int.{ints, by_lt_z}
use borrow.Author.Differences.{same_in, up, down}
use mir.Syntax.{w128}
use Rattle.siting_definitions.specs.Point.{Place}
use Rattle.siting_definitions.specs.Polygon.{doubled_area}
use Rattle.siting_definitions.proofs.Integers.{diff, diffs, diff-eq, as_diff, lt-int_lt, le-int_lt}
use Rattle.edge_chain.specs.Triangle.{Triangle, corners, is_counter_clockwise}
use Rattle.edge_chain.specs.Piece.{at}
use Rattle.edge_chain.specs.Line.{value}
use Rattle.edge_chain.proofs.CoverLemmas.{area_is}
use Rattle.cover_check.specs.Cover.{Tile, is_beyond}

-- two comparisons with the same difference
same_lt : (a b c d : ℤ) → a -ℤ b ≡ c -ℤ d → int_lt a b ≡ int_lt c d
same_lt a b c d e =
    by_lt_z a b
    (λ less. lt-int_lt a b less ∙ sym (lt-int_lt c d (omega (arith, ints, e, less))))
    (λ more. le-int_lt a b more ∙ sym (le-int_lt c d (omega (arith, ints, e, more))))

left_is : (x y z : ℤ) → int_lt (pos 1 *ℤ x +ℤ pos 0 *ℤ y +ℤ neg_ℤ z *ℤ pos 1) (pos 0) ≡ int_lt x z
left_is x y z =
    let e : (pos 1 *ℤ x +ℤ pos 0 *ℤ y +ℤ neg_ℤ z *ℤ pos 1) -ℤ pos 0 ≡ x -ℤ z = same_in _ _ (omega (arith, ints)) in
    same_lt (pos 1 *ℤ x +ℤ pos 0 *ℤ y +ℤ neg_ℤ z *ℤ pos 1) (pos 0) x z e

right_is : (x y z : ℤ) → int_lt (neg_ℤ (pos 1) *ℤ x +ℤ pos 0 *ℤ y +ℤ z *ℤ pos 1) (pos 0) ≡ int_lt z x
right_is x y z =
    let e : (neg_ℤ (pos 1) *ℤ x +ℤ pos 0 *ℤ y +ℤ z *ℤ pos 1) -ℤ pos 0 ≡ z -ℤ x = same_in _ _ (omega (arith, ints)) in
    same_lt (neg_ℤ (pos 1) *ℤ x +ℤ pos 0 *ℤ y +ℤ z *ℤ pos 1) (pos 0) z x e

below_is : (x y z : ℤ) → int_lt (pos 0 *ℤ x +ℤ pos 1 *ℤ y +ℤ neg_ℤ z *ℤ pos 1) (pos 0) ≡ int_lt y z
below_is x y z =
    let e : (pos 0 *ℤ x +ℤ pos 1 *ℤ y +ℤ neg_ℤ z *ℤ pos 1) -ℤ pos 0 ≡ y -ℤ z = same_in _ _ (omega (arith, ints)) in
    same_lt (pos 0 *ℤ x +ℤ pos 1 *ℤ y +ℤ neg_ℤ z *ℤ pos 1) (pos 0) y z e

above_is : (x y z : ℤ) → int_lt (pos 0 *ℤ x +ℤ neg_ℤ (pos 1) *ℤ y +ℤ z *ℤ pos 1) (pos 0) ≡ int_lt z y
above_is x y z =
    let e : (pos 0 *ℤ x +ℤ neg_ℤ (pos 1) *ℤ y +ℤ z *ℤ pos 1) -ℤ pos 0 ≡ z -ℤ y = same_in _ _ (omega (arith, ints)) in
    same_lt (pos 0 *ℤ x +ℤ neg_ℤ (pos 1) *ℤ y +ℤ z *ℤ pos 1) (pos 0) z y e

-- a test of the corners, where it is the same as another
same_corners : (p q : Place → Bool) (t : Triangle) → ((v : Place) → p v ≡ q v) → list_all p (corners t) ≡ list_all q (corners t)
same_corners p q t e = rw (e t.a, e t.b, e t.c) refl

-- four tests, of which one has to pass
some_of : (l r b a l' r' b' a' : Bool) → l ≡ l' → r ≡ r' → b ≡ b' → a ≡ a' → (((l || r) || b) || a) ≡ (l' || (r' || (b' || (a' || false))))
some_of true r b a l' r' b' a' el er eb ea = rw (sym el) refl
some_of false true b a l' r' b' a' el er eb ea = rw (sym el, sym er) refl
some_of false false true a l' r' b' a' el er eb ea = rw (sym el, sym er, sym eb) refl
some_of false false false true l' r' b' a' el er eb ea = rw (sym el, sym er, sym eb, sym ea) refl
some_of false false false false l' r' b' a' el er eb ea = rw (sym el, sym er, sym eb, sym ea) refl

-- a triangle lies beyond one of the four sides, by its coordinates
pub beyond_is : (tile : Tile) (t : Triangle) (l r b a : Bool) → l ≡ list_all (λ v. int_lt v.x tile.x0) (corners t) → r ≡ list_all (λ v. int_lt tile.x1 v.x) (corners t) → b ≡ list_all (λ v. int_lt v.y tile.y0) (corners t) → a ≡ list_all (λ v. int_lt tile.y1 v.y) (corners t) → (((l || r) || b) || a) ≡ is_beyond tile t
beyond_is tile t l r b a el er eb ea =
    let left = same_corners (λ v. int_lt (value (record { u = pos 1; v = pos 0; w = neg_ℤ tile.x0 }) (at v)) (pos 0)) (λ v. int_lt v.x tile.x0) t (λ v. left_is v.x v.y tile.x0) in
    let right = same_corners (λ v. int_lt (value (record { u = neg_ℤ (pos 1); v = pos 0; w = tile.x1 }) (at v)) (pos 0)) (λ v. int_lt tile.x1 v.x) t (λ v. right_is v.x v.y tile.x1) in
    let below = same_corners (λ v. int_lt (value (record { u = pos 0; v = pos 1; w = neg_ℤ tile.y0 }) (at v)) (pos 0)) (λ v. int_lt v.y tile.y0) t (λ v. below_is v.x v.y tile.y0) in
    let above = same_corners (λ v. int_lt (value (record { u = pos 0; v = neg_ℤ (pos 1); w = tile.y1 }) (at v)) (pos 0)) (λ v. int_lt tile.y1 v.y) t (λ v. above_is v.x v.y tile.y1) in
    some_of l r b a _ _ _ _ (el ∙ sym left) (er ∙ sym right) (eb ∙ sym below) (ea ∙ sym above)

-- a number of the limit of coordinates as the code reads it
pub coded : (z : ℤ) → unsigned_abs z ≤ 2 ^ 40 → to_z w64 (of_z w64 z) ≡ z
coded z small = omega (arith, ints)

-- the way of two coordinates as the code reads it
coded_way : (z : ℤ) → unsigned_abs z < 2 ^ 44 → to_z w64 (of_z w64 z) ≡ z
coded_way z small = omega (arith, ints)

-- the product of two ways as the code reads it
coded_product : (z : ℤ) → unsigned_abs z < 2 ^ 90 → to_z w128 (of_z w128 z) ≡ z
coded_product z small = omega (arith, ints)

pub product_of : (l w v b a c d b' a' c' d' : ℤ) → unsigned_abs l < 2 ^ 90 → unsigned_abs w < 2 ^ 44 → unsigned_abs v < 2 ^ 44 → l ≡ to_z w64 (of_z w64 w) *ℤ to_z w64 (of_z w64 v) → w ≡ b -ℤ a → v ≡ c -ℤ d → b ≡ b' → a ≡ a' → c ≡ c' → d ≡ d' → to_z w128 (of_z w128 l) ≡ (b' -ℤ a') *ℤ (c' -ℤ d')
product_of l w v b a c d b' a' c' d' sl sw sv el ew ev eb ea ec ed =
    let x : to_z w64 (of_z w64 w) ≡ b' -ℤ a' = coded_way w sw ∙ ew ∙ ap (λ z. z -ℤ a) eb ∙ ap (λ z. b' -ℤ z) ea in
    let y : to_z w64 (of_z w64 v) ≡ c' -ℤ d' = coded_way v sv ∙ ev ∙ ap (λ z. z -ℤ d) ec ∙ ap (λ z. c' -ℤ z) ed in
    coded_product l sl ∙ el ∙ ap (λ z. z *ℤ to_z w64 (of_z w64 v)) x ∙ ap (λ z. (b' -ℤ a') *ℤ z) y

area_diff : (ax ax' ay ay' bx bx' by by' cx cx' cy cy' : ℕ) → (diff bx bx' -ℤ diff ax ax') *ℤ (diff cy cy' -ℤ diff ay ay') -ℤ (diff by by' -ℤ diff ay ay') *ℤ (diff cx cx' -ℤ diff ax ax') ≡ (diff ax ax' *ℤ diff by by' -ℤ diff bx bx' *ℤ diff ay ay') +ℤ (diff bx bx' *ℤ diff cy cy' -ℤ diff cx cx' *ℤ diff by by') +ℤ (diff cx cx' *ℤ diff ay ay' -ℤ diff ax ax' *ℤ diff cy cy')
area_diff ax ax' ay ay' bx bx' by by' cx cx' cy cy' = simp diffs (diff-eq _ _ _ _ (omega arith))

area_products : (ax ay bx by cx cy : ℤ) → (bx -ℤ ax) *ℤ (cy -ℤ ay) -ℤ (by -ℤ ay) *ℤ (cx -ℤ ax) ≡ (ax *ℤ by -ℤ bx *ℤ ay) +ℤ (bx *ℤ cy -ℤ cx *ℤ by) +ℤ (cx *ℤ ay -ℤ ax *ℤ cy)
area_products ax ay bx by cx cy =
    rw (as_diff ax, as_diff ay, as_diff bx, as_diff by, as_diff cx, as_diff cy)
    (area_diff (up ax) (down ax) (up ay) (down ay) (up bx) (down bx) (up by) (down by) (up cx) (down cx) (up cy) (down cy))

turn_diff : (t : Triangle) (l r : ℤ) → l ≡ (t.b.x -ℤ t.a.x) *ℤ (t.c.y -ℤ t.a.y) → r ≡ (t.b.y -ℤ t.a.y) *ℤ (t.c.x -ℤ t.a.x) → r -ℤ l ≡ pos 0 -ℤ doubled_area (corners t)
turn_diff t l r el er =
    let products = area_products t.a.x t.a.y t.b.x t.b.y t.c.x t.c.y in
    omega (arith, ints, el, er, products, area_is t)

-- the turn of a triangle, by two products
pub turn_is : (t : Triangle) (l r : ℤ) → l ≡ (t.b.x -ℤ t.a.x) *ℤ (t.c.y -ℤ t.a.y) → r ≡ (t.b.y -ℤ t.a.y) *ℤ (t.c.x -ℤ t.a.x) → int_lt r l ≡ is_counter_clockwise t
turn_is t l r el er = same_lt r l (pos 0) (doubled_area (corners t)) (turn_diff t l r el er)
