use Rattle.std.proofs.Common.{◌∙◌, FitsSigned, rules}
use mir.Syntax.{w128}
use Rattle.siting_definitions.specs.Point.{point_of}
use Rattle.convex_region.proofs.Edges.{to_the_left, each_edge_more, covers_inside_all, covers_inside_fails, side_above, side_not_above}
use Rattle.convex_region.proofs.polygon.Polygon.covers_inside.Goals as goal

pub loop-i-preserved : goal.loop-i-preserved
loop-i-preserved c =
    let fits : FitsSigned w128 c.side_at.result = search rules in
    each_edge_more (to_the_left (point_of c.args.p)) c.as_slice-vertices.result.now c.loop-i.i c.loop-i-test.true c.loop-i.invariant
    (side_above c.side_at.result _ fits c.side_at.ensures c.if-side_at-le0.false)

pub returns-then-side_at-le0 : goal.returns-then-side_at-le0
returns-then-side_at-le0 c =
    let fits : FitsSigned w128 c.side_at.result = search rules in
    covers_inside_fails c.as_slice-vertices.result.now _ (point_of c.args.p) c.loop-i.i (c.as_slice-vertices.ensures.value ∙ c.self.view_is)
    c.loop-i-test.true (side_not_above c.side_at.result _ fits c.side_at.ensures c.if-side_at-le0.true)

pub returns : goal.returns
returns c =
    covers_inside_all c.as_slice-vertices.result.now _ (point_of c.args.p) c.loop-i.i (c.as_slice-vertices.ensures.value ∙ c.self.view_is)
    c.loop-i-test.false c.loop-i.invariant
