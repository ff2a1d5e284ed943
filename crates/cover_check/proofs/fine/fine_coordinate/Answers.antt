use Rattle.std.proofs.Common.{◌≡◌, ◌≤◌, ◌^◌, unsigned_abs, ℤ, ◌*ℤ◌, w64, FitsSigned, to_z, of_z, arith, lit<}
use Rattle.std.proofs.lemmas.Nat.{mul-le}
use Rattle.std.proofs.lemmas.Int.{to_z-of_z, fits_signed_mul, unsigned_abs-mul}
use Rattle.cover_check.proofs.fine.fine_coordinate.Goals as goal

product_is : (a b : ℤ) → FitsSigned w64 a → FitsSigned w64 b → unsigned_abs a ≤ 1048576 → unsigned_abs b ≤ 1000000 → to_z w64 (of_z w64 (to_z w64 (of_z w64 a) *ℤ to_z w64 (of_z w64 b))) ≡ a *ℤ b
product_is a b f g small low =
    let fits : FitsSigned w64 (a *ℤ b) = fits_signed_mul w64 a b 1048576 1000000 small low (lit< tt) in
    simp to_z-of_z

product_small : (a b : ℤ) → unsigned_abs a ≤ 1048576 → unsigned_abs b ≤ 1000000 → unsigned_abs (a *ℤ b) ≤ 2 ^ 40
product_small a b small low =
    omega (arith, unsigned_abs-mul a b, mul-le (unsigned_abs a) (unsigned_abs b) 1048576 1000000 small low)

pub returns-clause-value : goal.returns-clause-value
returns-clause-value c =
    product_is c.args.unit c.args.z c.ranges.unit c.ranges.z c.requires.unit c.requires.z

pub returns-clause-size : goal.returns-clause-size
returns-clause-size c =
    rw (product_is c.args.unit c.args.z c.ranges.unit c.ranges.z c.requires.unit c.requires.z)
    (product_small c.args.unit c.args.z c.requires.unit c.requires.z)
