-- The fine bound of a square within another is at least the other's.
use Rattle.std.proofs.Common.{ℕ, ◌^◌, ◌≤◌, ◌<◌, ℤ, pos, ◌+ℤ◌, ◌*ℤ◌, ◌≤ℤ◌, ◌<ℤ◌, List, [], ◌∷◌, map, Option, None, Some, arith}
use Rattle.std.proofs.Math.Nat.{mul-le-mul_right}
use Rattle.std.proofs.lemmas.Int.{clamps}
use Rattle.std.specs.Prelude.{unsigned_abs}
use borrow.Author.Differences.{ints}
use Rattle.siting_definitions.specs.Integer.{round_down}
use Rattle.siting_definitions.specs.Point.{Place}
use Rattle.siting_definitions.specs.Instance.{DemandPt, Instance, place_of}
use Rattle.siting_definitions.specs.Cost.{terms, total_of}
use Rattle.siting_definitions.specs.Square.{Square, quarter_of}
use Rattle.siting_definitions.specs.Bounds.{near_on, far_on, near2, far2, capped, fine_radius, fine_of}
use Rattle.siting_definitions.proofs.Integers.{square_le}
use Rattle.siting_definitions.proofs.Totals.{AreBelow, total-mono}
use Rattle.root_enclosure.proofs.RootLemmas.{floor_root-mono, ceil_root-mono}
use Rattle.dyadic_square.specs.Within.{LiesWithin}
use Rattle.dyadic_square.proofs.Within.{quarter-within}
use Rattle.objectives.proofs.BoundLemmas.{at_positive, at_negative, round_down-le, le-round_down}
use Rattle.objectives.proofs.CoarseLemmas.{term-moved}

-- ---- one axis
near_on-within : (low low' : ℤ) (len len' : ℕ) (a : ℤ) → low ≤ℤ low' → (low' +ℤ pos len') ≤ℤ (low +ℤ pos len) → unsigned_abs (near_on low len a) ≤ unsigned_abs (near_on low' len' a)
near_on-within low low' len len' a h k = omega (arith, ints, clamps)

far_on-within : (low low' : ℤ) (len len' : ℕ) (a : ℤ) → low ≤ℤ low' → (low' +ℤ pos len') ≤ℤ (low +ℤ pos len) → far_on low' len' a ≤ far_on low len a
far_on-within low low' len len' a h k = omega (arith, ints)

-- ---- both axes
near2-within : (s t : Square) (a : Place) → LiesWithin s t → near2 s a ≤ near2 t a
unfolding near2
near2-within s t a h =
    let x = square_le _ _ (near_on-within s.x t.x (2 ^ s.level) (2 ^ t.level) (pos 65536 *ℤ a.x) h.left h.right) in
    let y = square_le _ _ (near_on-within s.y t.y (2 ^ s.level) (2 ^ t.level) (pos 65536 *ℤ a.y) h.lower h.upper) in
    omega (arith, x, y)

-- and of a square within it no point is farther
far2-within : (s t : Square) (a : Place) → LiesWithin s t → far2 t a ≤ far2 s a
unfolding far2
far2-within s t a h =
    let x = square_le _ _ (far_on-within s.x t.x (2 ^ s.level) (2 ^ t.level) (pos 65536 *ℤ a.x) h.left h.right) in
    let y = square_le _ _ (far_on-within s.y t.y (2 ^ s.level) (2 ^ t.level) (pos 65536 *ℤ a.y) h.lower h.upper) in
    omega (arith, x, y)

capped-mono : (o : Option ℤ) (unit r r' : ℕ) → r ≤ r' → capped o unit r ≤ capped o unit r'
capped-mono None unit r r' h = h
capped-mono (Some c) unit r r' h = omega arith

-- ---- the bound
radius_above : (s t : Square) (d : DemandPt) → LiesWithin s t → pos 0 <ℤ d.w → fine_radius s d ≤ fine_radius t d
unfolding fine_radius
radius_above s t d h up =
    rw (at_positive d _ _ up, at_positive d _ _ up)
    (capped-mono d.cutoff (2 ^ 32) _ _ (floor_root-mono _ _ (mul-le-mul_right (2 ^ 32) (near2-within s t (place_of d) h))))

radius_below : (s t : Square) (d : DemandPt) → LiesWithin s t → d.w ≤ℤ pos 0 → fine_radius t d ≤ fine_radius s d
unfolding fine_radius
radius_below s t d h down =
    rw (at_negative d _ _ down, at_negative d _ _ down)
    (capped-mono d.cutoff (2 ^ 32) _ _ (ceil_root-mono _ _ (mul-le-mul_right (2 ^ 32) (far2-within s t (place_of d) h))))

term_within : (s t : Square) (d : DemandPt) → LiesWithin s t → (d.w *ℤ pos (fine_radius s d)) ≤ℤ (d.w *ℤ pos (fine_radius t d))
term_within s t d h =
    let e = term-moved d.w (fine_radius s d) (fine_radius t d) 0 (λ up. omega (arith, radius_above s t d h up)) (λ down. omega (arith, radius_below s t d h down)) in
    omega (arith, ints, e)

terms_within : (s t : Square) (ds : List DemandPt) → LiesWithin s t → AreBelow (terms ds (map (fine_radius s) ds)) (terms ds (map (fine_radius t) ds))
terms_within s t [] h = tt
terms_within s t (d ∷ ds) h = (term_within s t d h, terms_within s t ds h)

round_down-mono : (y z : ℤ) → y ≤ℤ z → round_down y ≤ℤ round_down z
round_down-mono y z h = let e = round_down-le y in le-round_down z (round_down y) (omega (arith, ints, e))

-- the fine bound of a square within another is at least the other's
pub fine_of-within : (i : Instance) (s t : Square) → LiesWithin s t → fine_of i s ≤ℤ fine_of i t
unfolding fine_of total_of
fine_of-within i s t h = round_down-mono _ _ (total-mono i.kind _ _ (terms_within s t i.points h))

-- the fine bound of a quarter is at least the square's
pub fine_of-quarter : (i : Instance) (s : Square) (k : ℕ) → 0 < s.level → fine_of i s ≤ℤ fine_of i (quarter_of s k)
fine_of-quarter i s k h = fine_of-within i s (quarter_of s k) (quarter-within s k h)
