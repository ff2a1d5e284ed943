use Rattle.std.proofs.Common.{◌≡◌, ◌<◌, ◌^◌, ℤ, pos, ◌*ℤ◌, ◌-ℤ◌, unsigned_abs, w64, FitsSigned, to_z, of_z, rules, arith}
use Rattle.std.proofs.lemmas.Int.{ints, to_z-of_z}
use borrow.Author.Differences.{same_in}
use mir.Syntax.{w128}
use Rattle.siting_definitions.specs.Point.{side}
use Rattle.edge_chain.proofs.sides.side.Goals as goal

-- what the code makes of the difference of two numbers
difference : (l r : ℤ) → unsigned_abs l < 2 ^ 90 → unsigned_abs r < 2 ^ 90 → to_z w128 (of_z w128 (to_z w128 (of_z w128 l) -ℤ to_z w128 (of_z w128 r))) ≡ l -ℤ r
difference l r small low = omega (arith, ints)

difference_fits : (l r : ℤ) → unsigned_abs l < 2 ^ 90 → unsigned_abs r < 2 ^ 90 → FitsSigned w128 (to_z w128 (of_z w128 l) -ℤ to_z w128 (of_z w128 r))
difference_fits l r small low = omega (arith, ints)

times_one : (z : ℤ) → pos 1 *ℤ z ≡ z
times_one z = same_in _ _ (omega (arith, ints))

pub overflow_sub-result : goal.overflow_sub-result
overflow_sub-result c =
    difference_fits c.product-left.result c.product-right.result c.product-left.ensures.size c.product-right.ensures.size

pub returns : goal.returns
unfolding side
returns c =
    rw (difference c.product-left.result c.product-right.result c.product-left.ensures.size c.product-right.ensures.size, times_one c.args.e.0.y, times_one c.args.e.0.x)
    (let fl : FitsSigned w64 c.way.result = search rules in
    let fr : FitsSigned w64 c.way-2.result = search rules in
    let gl : FitsSigned w64 c.way-3.result = search rules in
    let gr : FitsSigned w64 c.way-4.result = search rules in
    grind (arith, to_z-of_z, c.product-left.ensures.value, c.product-right.ensures.value, c.way.ensures.value, c.way-2.ensures.value, c.way-3.ensures.value, c.way-4.ensures.value))
