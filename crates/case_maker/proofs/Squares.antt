-- A square is a convex polygon.
use Rattle.std.proofs.Common.{◌≡◌, ℕ, zero, suc, ◌+◌, ◌*◌, ◌<◌, ◌≤◌, ℤ, pos, ◌-ℤ◌, ◌*ℤ◌, ◌<ℤ◌, ◌-◌, List, [], ◌∷◌, All, w32, to_z, refl, arith, ◌∙◌, subst, lit≤}
use Rattle.std.proofs.lemmas.Int.{to_z_pos}
use Rattle.std.proofs.lemmas.List.Elements.{All-nil, All-cons}
use borrow.Author.Differences.{ints}
use Rattle.siting_definitions.specs.Point.{Place, grid, point_of, side}
use Rattle.siting_definitions.specs.Polygon.{IsConvex}
use Rattle.siting_definitions.proofs.Integers.{diff, diffs, diff-lt, pos-diff}
use Rattle.siting_definitions.specs.Instance.{IsPlace, IsPolygon}
use Rattle.siting_definitions.specs.Polygon.{turned}
use Rattle.convex_region.specs.Dent.{IsDent, IsFirstDent}
use Rattle.convex_region.proofs.AreaLemmas.{turned_is}
use Rattle.case_maker.specs.Made.{square}

abbrev place : ℕ → ℕ → Place
place x y = record { x = pos x; y = pos y }

-- c lies to the left of the edge from a to b, where the area of the triangle is above 0
left-diff : (ax ay bx by cx cy : ℕ) → bx * ay + cx * by + ax * cy < ax * by + bx * cy + cx * ay → diff 0 0 <ℤ ((diff bx 0 -ℤ diff ax 0) *ℤ (diff (65536 * cy) 0 -ℤ diff (65536 * ay) 0) -ℤ (diff by 0 -ℤ diff ay 0) *ℤ (diff (65536 * cx) 0 -ℤ diff (65536 * ax) 0))
left-diff ax ay bx by cx cy h = simp diffs (diff-lt _ _ _ _ (omega arith))

-- the same at equal numbers
abbrev Left : ℤ → ℤ → ℤ → ℤ → ℤ → ℤ → ℤ → ℤ → ℤ → Type 0
Left o ax ay bx by gx gy hx hy = o <ℤ ((bx -ℤ ax) *ℤ (hy -ℤ gy) -ℤ (by -ℤ ay) *ℤ (hx -ℤ gx))

left_same : (o o' ax ax' ay ay' bx bx' by by' gx gx' gy gy' hx hx' hy hy' : ℤ) → o ≡ o' → ax ≡ ax' → ay ≡ ay' → bx ≡ bx' → by ≡ by' → gx ≡ gx' → gy ≡ gy' → hx ≡ hx' → hy ≡ hy' → Left o' ax' ay' bx' by' gx' gy' hx' hy' → Left o ax ay bx by gx gy hx hy
left_same o o' ax ax' ay ay' bx bx' by by' gx gx' gy gy' hx hx' hy hy' e1 e2 e3 e4 e5 e6 e7 e8 e9 h = rw (e1, e2, e3, e4, e5, e6, e7, e8, e9) h

left_pos : (ax ay bx by cx cy : ℕ) → bx * ay + cx * by + ax * cy < ax * by + bx * cy + cx * ay → Left (pos 0) (pos ax) (pos ay) (pos bx) (pos by) (pos (65536 * ax)) (pos (65536 * ay)) (pos (65536 * cx)) (pos (65536 * cy))
left_pos ax ay bx by cx cy h =
    left_same (pos 0) (diff 0 0) (pos ax) (diff ax 0) (pos ay) (diff ay 0) (pos bx) (diff bx 0) (pos by) (diff by 0) (pos (65536 * ax)) (diff (65536 * ax) 0) (pos (65536 * ay)) (diff (65536 * ay) 0) (pos (65536 * cx)) (diff (65536 * cx) 0) (pos (65536 * cy)) (diff (65536 * cy) 0)
    (pos-diff 0) (pos-diff ax) (pos-diff ay) (pos-diff bx) (pos-diff by) (pos-diff (65536 * ax)) (pos-diff (65536 * ay)) (pos-diff (65536 * cx)) (pos-diff (65536 * cy))
    (left-diff ax ay bx by cx cy h)

left_of : (ax ay bx by cx cy : ℕ) → bx * ay + cx * by + ax * cy < ax * by + bx * cy + cx * ay → pos 0 <ℤ side (place ax ay) (place bx by) (point_of (grid (place cx cy)))
unfolding side
left_of ax ay bx by cx cy h = left_pos ax ay bx by cx cy h

-- e + 1 is the side's length
IsConvex-from : (low e : ℕ) → IsConvex (square low (low + e + 1))
IsConvex-from low e zero zero edge within not_start not_end = absurd (not_start refl)
IsConvex-from low e zero (suc zero) edge within not_start not_end = absurd (not_end refl)
IsConvex-from low e zero (suc (suc zero)) edge within not_start not_end = left_of low low (low + e + 1) low (low + e + 1) (low + e + 1) (omega arith)
IsConvex-from low e zero (suc (suc (suc zero))) edge within not_start not_end = left_of low low (low + e + 1) low low (low + e + 1) (omega arith)
IsConvex-from low e zero (suc (suc (suc (suc j)))) edge within not_start not_end = absurd (omega arith)
IsConvex-from low e (suc zero) zero edge within not_start not_end = left_of (low + e + 1) low (low + e + 1) (low + e + 1) low low (omega arith)
IsConvex-from low e (suc zero) (suc zero) edge within not_start not_end = absurd (not_start refl)
IsConvex-from low e (suc zero) (suc (suc zero)) edge within not_start not_end = absurd (not_end refl)
IsConvex-from low e (suc zero) (suc (suc (suc zero))) edge within not_start not_end = left_of (low + e + 1) low (low + e + 1) (low + e + 1) low (low + e + 1) (omega arith)
IsConvex-from low e (suc zero) (suc (suc (suc (suc j)))) edge within not_start not_end = absurd (omega arith)
IsConvex-from low e (suc (suc zero)) zero edge within not_start not_end = left_of (low + e + 1) (low + e + 1) low (low + e + 1) low low (omega arith)
IsConvex-from low e (suc (suc zero)) (suc zero) edge within not_start not_end = left_of (low + e + 1) (low + e + 1) low (low + e + 1) (low + e + 1) low (omega arith)
IsConvex-from low e (suc (suc zero)) (suc (suc zero)) edge within not_start not_end = absurd (not_start refl)
IsConvex-from low e (suc (suc zero)) (suc (suc (suc zero))) edge within not_start not_end = absurd (not_end refl)
IsConvex-from low e (suc (suc zero)) (suc (suc (suc (suc j)))) edge within not_start not_end = absurd (omega arith)
IsConvex-from low e (suc (suc (suc zero))) zero edge within not_start not_end = absurd (not_end refl)
IsConvex-from low e (suc (suc (suc zero))) (suc zero) edge within not_start not_end = left_of low (low + e + 1) low low (low + e + 1) low (omega arith)
IsConvex-from low e (suc (suc (suc zero))) (suc (suc zero)) edge within not_start not_end = left_of low (low + e + 1) low low (low + e + 1) (low + e + 1) (omega arith)
IsConvex-from low e (suc (suc (suc zero))) (suc (suc (suc zero))) edge within not_start not_end = absurd (not_start refl)
IsConvex-from low e (suc (suc (suc zero))) (suc (suc (suc (suc j)))) edge within not_start not_end = absurd (omega arith)
IsConvex-from low e (suc (suc (suc (suc i)))) j edge within not_start not_end = absurd (omega arith)

IsConvex-square : (low high : ℕ) → low < high → IsConvex (square low high)
IsConvex-square low high order =
    let P : ℕ → Type 0 = λ n. IsConvex (square low n) in
    let same : low + (high - low - 1) + 1 ≡ high = omega arith in
    subst P same (IsConvex-from low (high - low - 1))

IsPlace-place : (x y : ℕ) → x ≤ 1000000 → y ≤ 1000000 → IsPlace (place x y)
IsPlace-place x y a b = record { x = a; y = b }

IsPlace-four : (a b c d : Place) → IsPlace a → IsPlace b → IsPlace c → IsPlace d → All IsPlace (a ∷ b ∷ c ∷ d ∷ [])
IsPlace-four a b c d first second third fourth =
    All-cons IsPlace a (b ∷ c ∷ d ∷ []) first (All-cons IsPlace b (c ∷ d ∷ []) second (All-cons IsPlace c (d ∷ []) third (All-cons IsPlace d [] fourth (All-nil IsPlace))))

-- a square within the limits is a polygon
pub IsPolygon-square : (low high : ℕ) → low < high → high ≤ 1000000 → IsPolygon (square low high)
IsPolygon-square low high order small =
    let low_small : low ≤ 1000000 = omega arith in
    record {
      few = lit≤ tt;
      many = lit≤ tt;
      places = IsPlace-four (place low low) (place high low) (place high high) (place low high) (IsPlace-place low low low_small low_small)
          (IsPlace-place high low small low_small) (IsPlace-place high high small small) (IsPlace-place low high low_small small);
      convex = IsConvex-square low high order;
    }

-- what is built of a polygon is the polygon
pub built_is : (vs us : List Place) → IsPolygon vs → us ≡ turned vs → us ≡ vs
built_is vs us polygon built = built ∙ turned_is vs polygon

-- a convex polygon has no dent
pub no_dent : (vs : List Place) (i j : ℕ) → IsPolygon vs → IsFirstDent (turned vs) i j → ⊥
no_dent vs i j polygon first =
    let dent : IsDent vs i j = subst (λ us. IsDent us i j) (turned_is vs polygon) first.dent in
    let left = polygon.convex i j dent.edge dent.within dent.not_start dent.not_end in
    let beside = dent.beside in
    absurd (omega (arith, ints))

-- the corners that the code makes are those of the square
pub corners_are : (low high : ℕ) (a b c d : Place) → low < high → high ≤ 1000000 → a ≡ record { x = to_z w32 low; y = to_z w32 low } → b ≡ record { x = to_z w32 high; y = to_z w32 low } → c ≡ record { x = to_z w32 high; y = to_z w32 high } → d ≡ record { x = to_z w32 low; y = to_z w32 high } → (a ∷ b ∷ c ∷ d ∷ []) ≡ square low high
corners_are low high a b c d order small first second third fourth =
    let near : to_z w32 low ≡ pos low = to_z_pos w32 low (omega arith) in
    let far : to_z w32 high ≡ pos high = to_z_pos w32 high (omega arith) in
    cc
