-- What code makes of the bits of two ways.
use Rattle.std.proofs.Common.{◌≡◌, ℕ, ◌+◌, ◌*◌, ℤ, ◌-ℤ◌, unsigned_abs, w64, FitsSigned, to_z, of_z, ◌∙◌, ap, arith}
use Rattle.std.proofs.lemmas.Int.{to_z-of_z}
use Rattle.siting_definitions.specs.Square.{Square}
use Rattle.dyadic_square.specs.Order.{spread, way_between, z_of}

-- how far two numbers that were passed are apart
pub way_passed : (d : ℕ) (a b : ℤ) → FitsSigned w64 a → FitsSigned w64 b → d ≡ unsigned_abs (to_z w64 (of_z w64 a) -ℤ to_z w64 (of_z w64 b)) → d ≡ way_between a b
way_passed d a b f g e = simp to_z-of_z at e

-- the key, by the spread ways of which the code makes it
pub z_from : (root s : Square) (dx dy across upwards : ℕ) → dx ≡ way_between s.x root.x → dy ≡ way_between s.y root.y → across ≡ spread 40 dx → upwards ≡ spread 40 dy → 2 * upwards + across ≡ z_of root s
unfolding z_of
z_from root s dx dy across upwards ex ey ea eu =
    let a : across ≡ spread 40 (way_between s.x root.x) = ea ∙ ap (spread 40) ex in
    let u : upwards ≡ spread 40 (way_between s.y root.y) = eu ∙ ap (spread 40) ey in
    omega (arith, a, u)
