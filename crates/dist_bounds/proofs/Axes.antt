-- What the code computes on one axis is what the definitions say of it.
use Rattle.std.proofs.Common.{◌≡◌, ℕ, Bool, true, false, cond, refl, ◌+◌, ◌*◌, ◌^◌, ◌≤◌, max, ℤ, pos, ◌+ℤ◌, ◌-ℤ◌, ◌*ℤ◌, ◌≤ℤ◌, w32, w64, to_z, of_z, sym, ap, ◌∙◌, arith}
use Rattle.std.specs.Prelude.{unsigned_abs}
use Rattle.std.specs.Int.{int_max}
use Rattle.std.proofs.lemmas.Int.{ints, clamps}
use borrow.Author.Differences.{same_in}
use Rattle.siting_definitions.specs.Instance.{IsCoordinate}
use Rattle.siting_definitions.specs.Point.{Place, Pt, point_of}
use Rattle.siting_definitions.specs.Cost.{distance2}
use Rattle.siting_definitions.specs.Square.{Square, IsSquare}
use Rattle.siting_definitions.specs.Bounds.{near_on, far_on, near2, far2}

-- a number that was passed to a function
abbrev pub passed : ℤ → ℤ
passed z = to_z w64 (of_z w64 z)

-- the end of a span, as it is passed
abbrev pub end_passed : ℤ → ℤ → ℤ
end_passed low side = passed (passed low +ℤ passed side)

-- a coordinate in lengths that was passed, in grid units
pub coordinate-passed : (a z : ℤ) → IsCoordinate z → a ≡ pos 65536 *ℤ to_z w32 (of_z w32 z) → a ≡ pos 65536 *ℤ z
coordinate-passed a z small e = e ∙ same_in _ _ (omega (arith, ints))

way-passed : (a b : ℤ) → unsigned_abs a ≤ 2 ^ 38 → unsigned_abs b ≤ 2 ^ 38 → passed (passed a -ℤ passed b) ≡ a -ℤ b
way-passed a b h k = same_in _ _ (omega (arith, ints))

greatest_small : (a b : ℤ) → unsigned_abs a ≤ 2 ^ 40 → unsigned_abs b ≤ 2 ^ 40 → unsigned_abs (int_max a b) ≤ 2 ^ 40
greatest_small a b h k = omega (arith, ints, clamps)

small-passed : (a : ℤ) → unsigned_abs a ≤ 2 ^ 40 → passed a ≡ a
small-passed a h = same_in _ _ (omega (arith, ints))

way_small : (a b : ℤ) → unsigned_abs a ≤ 2 ^ 38 → unsigned_abs b ≤ 2 ^ 38 → unsigned_abs (a -ℤ b) ≤ 2 ^ 40
way_small a b h k = omega (arith, ints)

int_max-comm : (a b : ℤ) → int_max a b ≡ int_max b a
int_max-comm a b = same_in _ _ (omega (arith, ints, clamps))

-- the greatest of two ways and 0, as it is computed
pub greatest_way : (low high a m n : ℤ) → unsigned_abs low ≤ 2 ^ 38 → unsigned_abs high ≤ 2 ^ 38 → unsigned_abs a ≤ 2 ^ 38 → m ≡ int_max (passed (passed low -ℤ passed a)) (passed (passed a -ℤ passed high)) → n ≡ int_max (passed m) (pos 0) → unsigned_abs (passed n) ≡ unsigned_abs (int_max (pos 0) (int_max (low -ℤ a) (a -ℤ high)))
greatest_way low high a m n l h s em en =
    let greater = int_max (low -ℤ a) (a -ℤ high) in
    let is : m ≡ greater = em ∙ rw (way-passed low a l s, way-passed a high s h) in
    let small : unsigned_abs greater ≤ 2 ^ 40 = greatest_small (low -ℤ a) (a -ℤ high) (way_small low a l s) (way_small a high s h) in
    let is_too : n ≡ int_max (pos 0) greater = en ∙ ap (λ z. int_max (passed z) (pos 0)) is ∙ ap (λ z. int_max z (pos 0)) (small-passed greater small) ∙ int_max-comm greater (pos 0) in
    let zero_small : unsigned_abs (pos 0) ≤ 2 ^ 40 = omega arith in
    let same = small-passed (int_max (pos 0) greater) (greatest_small (pos 0) greater zero_small small) in
    ap (λ z. unsigned_abs (passed z)) is_too ∙ ap (λ z. unsigned_abs z) same

-- from low on, a span of this length within the limits of squares, with the side as the code has it
pub record IsSpan (low side : ℤ) (len : ℕ) : Type 0 where
  pub length : side ≡ pos len
  pub short : side ≤ℤ pos (2 ^ 37)
  pub start : pos 0 ≤ℤ (low +ℤ pos (2 ^ 38))
  pub stop : (low +ℤ pos len) ≤ℤ pos (2 ^ 38)

-- the two spans of a square, by its side, which the code took of an equal square
pub spans_of : (s t : Square) (side : ℤ) → IsSquare s → s ≡ t → side ≡ pos (2 ^ t.level) → side ≤ℤ pos (2 ^ 37) → IsSpan s.x side (2 ^ s.level) × IsSpan s.y side (2 ^ s.level)
spans_of s t side is same length short =
    let side_is = length ∙ ap (λ (t : Square). pos (2 ^ t.level)) (sym same) in (
      record { length = side_is; short = short; start = is.left; stop = is.right },
      record { length = side_is; short = short; start = is.lower; stop = is.upper },
    )

start-passed : (low side : ℤ) (len : ℕ) → IsSpan low side len → passed low ≡ low
start-passed low side len h = omega (arith, ints)

pub end-passed : (low side : ℤ) (len : ℕ) → IsSpan low side len → end_passed low side ≡ low +ℤ pos len
end-passed low side len h = omega (arith, ints)

-- the end of a span within the limits is small
pub end-small : (low side : ℤ) (len : ℕ) → IsSpan low side len → unsigned_abs (end_passed low side) ≤ 2 ^ 38
end-small low side len h = omega (arith, ints)

place-passed : (a : ℤ) → unsigned_abs a ≤ 65536000000 → passed a ≡ a
place-passed a h = omega (arith, ints)

-- how far a lies outside of a span
pub near-passed : (low side a : ℤ) (len u : ℕ) → IsSpan low side len → unsigned_abs a ≤ 65536000000 → u ≡ unsigned_abs (int_max (pos 0) (int_max (passed low -ℤ passed a) (passed a -ℤ end_passed low side))) → u ≡ unsigned_abs (near_on low len a)
near-passed low side a len u span small e =
    e ∙ rw (end-passed low side len span, start-passed low side len span, place-passed a small)

-- how far it lies from the farther end
pub far-passed : (low side a : ℤ) (len u : ℕ) → IsSpan low side len → unsigned_abs a ≤ 65536000000 → u ≡ max (unsigned_abs (passed low -ℤ passed a)) (unsigned_abs (end_passed low side -ℤ passed a)) → u ≡ far_on low len a
far-passed low side a len u span small e =
    e ∙ rw (end-passed low side len span, start-passed low side len span, place-passed a small)

-- ---- by exchanged ends of a span
end_passed-twice : (a z : ℤ) → unsigned_abs a ≤ 2 ^ 38 → z ≡ passed a → passed z ≡ a
end_passed-twice a z h e =
    let is : passed a ≡ a = same_in _ _ (omega (arith, ints)) in
    ap (λ z. passed z) e ∙ ap (λ z. passed z) is ∙ is

-- what is computed of two ends and a place, all three passed
abbrev pub way_passed : ℤ → ℤ → ℤ → ℕ
way_passed start stop a = unsigned_abs (int_max (pos 0) (int_max (passed start -ℤ passed a) (passed a -ℤ passed stop)))

greatest_size : (p q : ℤ) → pos 0 ≤ℤ (p +ℤ q) → unsigned_abs (int_max (pos 0) (int_max p q)) ≡ max (unsigned_abs q) (unsigned_abs p)
greatest_size p q h = omega (arith, ints, clamps)

other_way : (a b : ℤ) → unsigned_abs (a -ℤ b) ≡ unsigned_abs (b -ℤ a)
other_way a b = omega (arith, ints)

both_ways : (low high a : ℤ) → low ≤ℤ high → pos 0 ≤ℤ ((high -ℤ a) +ℤ (a -ℤ low))
both_ways low high a h = omega (arith, ints)

-- how far a lies outside of the exchanged ends is how far it lies from the farther end
pub exchanged_ends : (low high a start stop : ℤ) (n : ℕ) → unsigned_abs low ≤ 2 ^ 38 → unsigned_abs high ≤ 2 ^ 38 → unsigned_abs a ≤ 65536000000 → low ≤ℤ high → start ≡ passed high → stop ≡ passed low → n ≡ way_passed start stop a → n ≡ max (unsigned_abs (low -ℤ a)) (unsigned_abs (high -ℤ a))
exchanged_ends low high a start stop n l h s order first last e =
    e ∙ rw (end_passed-twice high start h first, end_passed-twice low stop l last, place-passed a s)
    (greatest_size (high -ℤ a) (a -ℤ low) (both_ways low high a order) ∙ ap (λ n. max n (unsigned_abs (high -ℤ a))) (other_way a low))

-- the ends as they are
pub same_ends : (low high a start stop : ℤ) (n : ℕ) → unsigned_abs low ≤ 2 ^ 38 → unsigned_abs high ≤ 2 ^ 38 → unsigned_abs a ≤ 65536000000 → start ≡ passed low → stop ≡ passed high → n ≡ way_passed start stop a → n ≡ unsigned_abs (int_max (pos 0) (int_max (low -ℤ a) (a -ℤ high)))
same_ends low high a start stop n l h s first last e =
    e ∙ rw (end_passed-twice low start l first, end_passed-twice high stop h last, place-passed a s) refl

-- the end of a span isn't before its start
pub end-after : (low side : ℤ) (len : ℕ) → IsSpan low side len → passed low ≤ℤ end_passed low side
end-after low side len h = omega (arith, ints)

-- what is one number where far, and else another
pub by_far : (far : Bool) (r m n : ℕ) → (far ≡ true → r ≡ m) → (far ≡ false → r ≡ n) → r ≡ cond far m n
by_far true r m n h k = h refl
by_far false r m n h k = k refl

-- ---- both axes
pub near2-from : (s : Square) (a : Place) (ax ay : ℤ) (u v r : ℕ) → ax ≡ pos 65536 *ℤ a.x → ay ≡ pos 65536 *ℤ a.y → u ≡ unsigned_abs (near_on s.x (2 ^ s.level) ax) → v ≡ unsigned_abs (near_on s.y (2 ^ s.level) ay) → r ≡ u * u + v * v → r ≡ near2 s a
unfolding near2
near2-from s a ax ay u v r ex ey eu ev e = cc

-- and the greatest squared distance
pub far2-from : (s : Square) (a : Place) (ax ay : ℤ) (u v r : ℕ) → ax ≡ pos 65536 *ℤ a.x → ay ≡ pos 65536 *ℤ a.y → u ≡ far_on s.x (2 ^ s.level) ax → v ≡ far_on s.y (2 ^ s.level) ay → r ≡ u * u + v * v → r ≡ far2 s a
unfolding far2
far2-from s a ax ay u v r ex ey eu ev e = cc

-- ---- the distance to a grid point
pub distance_passed : (z a : ℤ) (u : ℕ) → unsigned_abs z ≤ 2 ^ 38 → unsigned_abs a ≤ 65536000000 → u ≡ unsigned_abs (passed z -ℤ passed a) → u ≡ unsigned_abs (z -ℤ a)
distance_passed z a u h k e = e ∙ omega (arith, ints)

-- the squared distance, by both ways
pub distance2-from : (z : Pt) (a : Place) (ax ay : ℤ) (u v r : ℕ) → ax ≡ pos 65536 *ℤ a.x → ay ≡ pos 65536 *ℤ a.y → u ≡ unsigned_abs (z.x -ℤ ax) → v ≡ unsigned_abs (z.y -ℤ ay) → r ≡ u * u + v * v → r ≡ distance2 a (point_of z)
unfolding distance2
distance2-from z a ax ay u v r ex ey eu ev e = cc
