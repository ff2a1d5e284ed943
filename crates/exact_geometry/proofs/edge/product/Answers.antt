use Rattle.std.proofs.Common.{◌≡◌, ◌<◌, ◌≤◌, ◌^◌, unsigned_abs, ℤ, ◌*ℤ◌, w64, FitsSigned, to_z, of_z, arith, lit<}
use Rattle.std.proofs.lemmas.Nat.{mul-le}
use Rattle.std.proofs.lemmas.Int.{to_z-of_z, fits_signed_mul, unsigned_abs-mul}
use Rattle.exact_geometry.proofs.edge.product.Goals as goal

product_is : (a b : ℤ) → FitsSigned w64 a → FitsSigned w64 b → unsigned_abs a ≤ 2000000 → unsigned_abs b < 2 ^ 40 → to_z w64 (of_z w64 (to_z w64 (of_z w64 a) *ℤ to_z w64 (of_z w64 b))) ≡ a *ℤ b
product_is a b f g small low =
    let low_too : unsigned_abs b ≤ 2 ^ 40 = omega arith in
    let fits : FitsSigned w64 (a *ℤ b) = fits_signed_mul w64 a b 2000000 (2 ^ 40) small low_too (lit< tt) in
    simp to_z-of_z

product_small : (a b : ℤ) → unsigned_abs a ≤ 2000000 → unsigned_abs b < 2 ^ 40 → unsigned_abs (a *ℤ b) < 2 ^ 61
product_small a b small low =
    omega (arith, unsigned_abs-mul a b, mul-le (unsigned_abs a) (unsigned_abs b) 2000000 (2 ^ 40) small (omega arith))

pub returns-clause-value : goal.returns-clause-value
returns-clause-value c =
    product_is c.args.a c.args.b c.ranges.a c.ranges.b c.requires.a c.requires.b

pub returns-clause-size : goal.returns-clause-size
returns-clause-size c =
    rw (product_is c.args.a c.args.b c.ranges.a c.ranges.b c.requires.a c.requires.b)
    (product_small c.args.a c.args.b c.requires.a c.requires.b)
