use Rattle.std.proofs.Common.{◌≡◌, ◌∙◌, ℕ, All, length, ap, subst, arith, rules}
use Rattle.siting_definitions.specs.Instance.{IsPlace, IsPolygon}
use Rattle.siting_definitions.specs.Excluded.{box_of}
use Rattle.convex_region.proofs.Edges.{length-turned, IsConvex-by_dents}
use Rattle.convex_region.specs.Dent.{IsDent}
use Rattle.convex_region.proofs.polygon.Polygon.build.Goals as goal

pub overflow_cast-result : goal.overflow_cast-result
overflow_cast-result c =
    let same : length c.as_slice.result.now ≡ length c.args.corners.now =
    ap length c.as_slice.ensures.value ∙ ap length c.in-Ok.ensures ∙ length-turned c.args.corners.now in
    let small = c.in-Some.ensures.some.dent.edge in
    search rules

pub overflow_cast-result-in-Some : goal.overflow_cast-result-in-Some
overflow_cast-result-in-Some c =
    let same : length c.as_slice.result.now ≡ length c.args.corners.now =
    ap length c.as_slice.ensures.value ∙ ap length c.in-Ok.ensures ∙ length-turned c.args.corners.now in
    let small = c.in-Some.ensures.some.dent.within in
    search rules

pub box_of-bounds-requires : goal.box_of-bounds-requires
box_of-bounds-requires c =
    omega (arith, ap length c.as_slice-2.ensures.value, ap length c.in-Ok.ensures, length-turned c.args.corners.now)

polygon_is : (c : goal.After-box_of-bounds) → IsPolygon c.in-Ok.vertices.items
polygon_is c =
    let same : length c.in-Ok.vertices.items ≡ length c.args.corners.now = ap length c.in-Ok.ensures ∙ length-turned c.args.corners.now in
    record {
      few = omega arith;
      many = omega arith;
      places = subst (All IsPlace) c.as_slice-2.ensures.value c.box_of-bounds.ensures.places;
      convex = IsConvex-by_dents c.in-Ok.vertices.items (subst (λ vs. (i j : ℕ) → IsDent vs i j → ⊥) c.as_slice.ensures.value c.in_default-dent_of.ensures.none);
    }

pub invariant_of-result : goal.invariant_of-result
invariant_of-result c =
    record { polygon = polygon_is c; bounds = c.box_of-bounds.ensures.value ∙ ap box_of c.as_slice-2.ensures.value }

pub returns : goal.returns
returns c = (c.in-Ok.ensures, polygon_is c)
