use Rattle.std.proofs.Common.{◌≡◌, ℤ, pos, ◌*ℤ◌, ◌-◌, List, length, take, drop, w32, w64, FitsSigned, to_z, of_z, arith, rules, length-drop, take_all, subst, ap, ◌∙◌}
use Rattle.std.specs.Int.{int_max, int_min}
use Rattle.std.proofs.lemmas.Int.{ints, to_z-of_z}
use Rattle.siting_definitions.specs.Point.{Place}
use Rattle.siting_definitions.specs.Instance.{IsPlace}
use Rattle.convex_region.proofs.Boxes.{x_of, y_of, IsBox-none, IsBox-more, bounds_is, places_are}
use Rattle.convex_region.proofs.build.box_of.Goals as goal

-- a coordinate in grid units, as the code makes it
widened : (z : ℤ) → FitsSigned w32 z → to_z w64 (of_z w64 (pos 65536 *ℤ to_z w64 (of_z w64 z))) ≡ pos 65536 *ℤ z
widened z fits = omega (arith, ints)

rest_is : (vs : List Place) → take (length vs - 1) (drop 1 vs) ≡ drop 1 vs
rest_is vs = take_all (length vs - 1) (drop 1 vs) (omega (arith, length-drop 1 vs))

pub loop-v-init : goal.loop-v-init
loop-v-init c = IsBox-none _ _

-- a step of a minimum or a maximum
stepped : (f : ℤ → ℤ → ℤ) (r b u w : ℤ) → FitsSigned w32 r → FitsSigned w32 u → r ≡ f b (to_z w32 (of_z w32 u)) → u ≡ w → to_z w32 (of_z w32 r) ≡ f b w
stepped f r b u w fits_r fits_u value same = to_z-of_z w32 r fits_r ∙ value ∙ ap (f b) (to_z-of_z w32 u fits_u ∙ same)

pub loop-v-preserved : goal.loop-v-preserved
loop-v-preserved c =
    let fx : FitsSigned w32 c.v.inside.x = search rules in
    let fy : FitsSigned w32 c.v.inside.y = search rules in
    let x_is = ap x_of c.v.view_is in
    let y_is = ap y_of c.v.view_is in
    IsBox-more _ _ _ c.loop-v.v-index c.v-item.result _ _ _ _ _ _ _ _ c.loop-v-test.true c.v-item.is
    (subst IsPlace c.v.view_is c.v.invariant) c.loop-v.invariant
    (stepped int_min c.min-x0.result _ c.v.inside.x _ (search rules) fx c.min-x0.ensures.value x_is)
    (stepped int_min c.min-y0.result _ c.v.inside.y _ (search rules) fy c.min-y0.ensures.value y_is)
    (stepped int_max c.max-x1.result _ c.v.inside.x _ (search rules) fx c.max-x1.ensures.value x_is)
    (stepped int_max c.max-y1.result _ c.v.inside.y _ (search rules) fy c.max-y1.ensures.value y_is)

pub returns-clause-value : goal.returns-clause-value
returns-clause-value c =
    let fx : FitsSigned w32 c.first.inside.x = search rules in
    let fy : FitsSigned w32 c.first.inside.y = search rules in
    let f0 : FitsSigned w32 (to_z w32 c.loop-v.x0-bits) = search rules in
    let f1 : FitsSigned w32 (to_z w32 c.loop-v.y0-bits) = search rules in
    let f2 : FitsSigned w32 (to_z w32 c.loop-v.x1-bits) = search rules in
    let f3 : FitsSigned w32 (to_z w32 c.loop-v.y1-bits) = search rules in
    rw (widened (to_z w32 c.loop-v.x0-bits) f0, widened (to_z w32 c.loop-v.y0-bits) f1, widened (to_z w32 c.loop-v.x1-bits) f2, widened (to_z w32 c.loop-v.y1-bits) f3)
    (bounds_is c.args.vertices.now _ c.loop-v.v-index c.index-vertices-0.result _ _ _ _ _ _ c.requires c.index-vertices-0.is (rest_is _)
    c.loop-v-test.false (to_z-of_z w32 c.first.inside.x fx ∙ ap x_of c.first.view_is) (to_z-of_z w32 c.first.inside.y fy ∙ ap y_of c.first.view_is)
    c.loop-v.invariant)

pub returns-clause-places : goal.returns-clause-places
returns-clause-places c =
    places_are c.args.vertices.now _ c.loop-v.v-index c.index-vertices-0.result c.requires c.index-vertices-0.is
    (subst IsPlace c.first.view_is c.first.invariant) (rest_is _) c.loop-v-test.false c.loop-v.invariant.places
