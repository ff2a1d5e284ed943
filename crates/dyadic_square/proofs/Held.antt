-- What code makes of the tests whether a square holds a grid point.
use Rattle.std.proofs.Common.{◌≡◌, ℕ, ◌^◌, Bool, true, false, ◌&&◌, ℤ, pos, ◌+ℤ◌, ◌*ℤ◌, ◌≤ℤ◌, int_le, int_lt, w64, FitsSigned, to_z, of_z, arith}
use Rattle.std.proofs.lemmas.Int.{ints, to_z-of_z}
use Rattle.siting_definitions.specs.Point.{Pt, point_of}
use Rattle.siting_definitions.specs.Square.{Square, spans, holds}
use Rattle.dyadic_square.proofs.Moved.{moved, moved_is}

scaled_le : (a b : ℤ) → int_le (pos 65536 *ℤ a) (pos 65536 *ℤ b) ≡ int_le a b
scaled_le a b = grind (arith, ints)

scaled_lt : (a b : ℤ) → int_lt (pos 65536 *ℤ a) (pos 65536 *ℤ b) ≡ int_lt a b
scaled_lt a b = grind (arith, ints)

-- the test of a span, as the code makes it
pub span_passed : (r : Bool) (low side v : ℤ) (len : ℕ) → FitsSigned w64 low → FitsSigned w64 v → side ≡ pos len → pos 0 ≤ℤ (low +ℤ pos (2 ^ 38)) → (low +ℤ pos len) ≤ℤ pos (2 ^ 38) → r ≡ (int_le (to_z w64 (of_z w64 low)) (to_z w64 (of_z w64 v)) && int_lt (to_z w64 (of_z w64 v)) (moved low side)) → r ≡ spans low len 65536 v
span_passed r low side v len f g e above below passed =
    let sum : moved low side ≡ low +ℤ pos len = moved_is low side len len e (omega arith) above below in
    let added = rw sum at passed in
    let plain : r ≡ (int_le low v && int_lt v (low +ℤ pos len)) = simp to_z-of_z at added in
    rw (scaled_le low v, scaled_lt v (low +ℤ pos len)) plain

-- a point of the span in x is held where the one in y has it
pub held_both : (r : Bool) (s : Square) (p : Pt) → spans s.x (2 ^ s.level) 65536 p.x ≡ true → r ≡ spans s.y (2 ^ s.level) 65536 p.y → r ≡ holds s (point_of p)
unfolding holds
held_both r s p across e = rw across e

-- and a point outside of it is not
pub held_not : (r : Bool) (s : Square) (p : Pt) → spans s.x (2 ^ s.level) 65536 p.x ≡ false → r ≡ false → r ≡ holds s (point_of p)
unfolding holds
held_not r s p across e = rw across e
