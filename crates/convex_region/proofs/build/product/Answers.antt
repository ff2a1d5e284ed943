use Rattle.std.proofs.Common.{◌≡◌, ◌≤◌, unsigned_abs, ℤ, ◌*ℤ◌, w32, w64, FitsSigned, to_z, of_z, arith, lit<}
use Rattle.std.proofs.lemmas.Nat.{mul-le}
use Rattle.std.proofs.lemmas.Int.{to_z-of_z, fits_signed_mul, unsigned_abs-mul, ints}
use Rattle.convex_region.proofs.build.product.Goals as goal

fits_product : (a b : ℤ) → unsigned_abs a ≤ 1000000 → unsigned_abs b ≤ 1000000 → FitsSigned w64 (a *ℤ b)
fits_product a b small low = fits_signed_mul w64 a b 1000000 1000000 small low (lit< tt)

wide : (a : ℤ) → unsigned_abs a ≤ 1000000 → to_z w64 (of_z w64 (to_z w32 (of_z w32 a))) ≡ a
wide a small = omega (arith, ints)

product_is : (a b : ℤ) → unsigned_abs a ≤ 1000000 → unsigned_abs b ≤ 1000000 → to_z w64 (of_z w64 (to_z w64 (of_z w64 (to_z w32 (of_z w32 a))) *ℤ to_z w64 (of_z w64 (to_z w32 (of_z w32 b))))) ≡ a *ℤ b
product_is a b small low = rw (wide a small, wide b low) (to_z-of_z w64 (a *ℤ b) (fits_product a b small low))

product_small : (a b : ℤ) → unsigned_abs a ≤ 1000000 → unsigned_abs b ≤ 1000000 → unsigned_abs (a *ℤ b) ≤ 1000000000000
product_small a b small low = omega (arith, unsigned_abs-mul a b, mul-le (unsigned_abs a) (unsigned_abs b) 1000000 1000000 small low)

pub returns-clause-value : goal.returns-clause-value
returns-clause-value c = product_is c.args.a c.args.b c.requires.a c.requires.b

pub returns-clause-size : goal.returns-clause-size
returns-clause-size c = rw (product_is c.args.a c.args.b c.requires.a c.requires.b) (product_small c.args.a c.args.b c.requires.a c.requires.b)
