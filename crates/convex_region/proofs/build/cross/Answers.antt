use Rattle.std.proofs.Common.{◌≡◌, ◌≤◌, ℤ, ◌-ℤ◌, ◌*ℤ◌, unsigned_abs, w32, w64, FitsSigned, to_z, of_z, ap, ◌∙◌, arith, rules}
use Rattle.std.proofs.lemmas.Int.{ints, to_z-of_z}
use Rattle.convex_region.proofs.Boxes.{x_of, y_of}
use Rattle.convex_region.proofs.build.cross.Goals as goal

-- what the code makes of the difference of two products
difference : (l r : ℤ) → unsigned_abs l ≤ 1000000000000 → unsigned_abs r ≤ 1000000000000 → to_z w64 (of_z w64 (to_z w64 (of_z w64 l) -ℤ to_z w64 (of_z w64 r))) ≡ l -ℤ r
difference l r small low = omega (arith, ints)

difference_small : (l r : ℤ) → unsigned_abs l ≤ 1000000000000 → unsigned_abs r ≤ 1000000000000 → unsigned_abs (l -ℤ r) ≤ 2000000000000
difference_small l r small low = omega (arith, ints)

-- a product of two coordinates that were passed
passed : (r u v x y : ℤ) → FitsSigned w32 u → FitsSigned w32 v → r ≡ to_z w32 (of_z w32 u) *ℤ to_z w32 (of_z w32 v) → u ≡ x → v ≡ y → r ≡ x *ℤ y
passed r u v x y fits_u fits_v value is_u is_v =
    value ∙ ap (λ z. z *ℤ to_z w32 (of_z w32 v)) (to_z-of_z w32 u fits_u ∙ is_u) ∙ ap (λ z. x *ℤ z) (to_z-of_z w32 v fits_v ∙ is_v)

pub returns-clause-value : goal.returns-clause-value
returns-clause-value c =
    let ax : FitsSigned w32 c.a.inside.x = search rules in
    let ay : FitsSigned w32 c.a.inside.y = search rules in
    let bx : FitsSigned w32 c.b.inside.x = search rules in
    let by : FitsSigned w32 c.b.inside.y = search rules in
    let left = passed c.product.result c.a.inside.x c.b.inside.y _ _ ax by c.product.ensures.value (ap x_of c.a.view_is) (ap y_of c.b.view_is) in
    let right = passed c.product-2.result c.b.inside.x c.a.inside.y _ _ bx ay c.product-2.ensures.value (ap x_of c.b.view_is) (ap y_of c.a.view_is) in
    difference c.product.result c.product-2.result c.product.ensures.size c.product-2.ensures.size
    ∙ ap (λ z. z -ℤ c.product-2.result) left
    ∙ ap (λ z. c.args.a.x *ℤ c.args.b.y -ℤ z) right

pub returns-clause-size : goal.returns-clause-size
returns-clause-size c =
    rw (difference c.product.result c.product-2.result c.product.ensures.size c.product-2.ensures.size)
    (difference_small c.product.result c.product-2.result c.product.ensures.size c.product-2.ensures.size)
