use Rattle.std.proofs.Common.{◌≡◌, take, true}
use Rattle.std.specs.List.{list_all}
use Rattle.siting_definitions.specs.Point.{point_of}
use Rattle.siting_definitions.specs.Polygon.{edges}
use Rattle.convex_region.proofs.Edges.{beside}
use Rattle.convex_region.proofs.polygon.Polygon.covers.Given as goal

abbrev pub invariant-loop-i : goal.invariant-loop-i
invariant-loop-i l = list_all (beside (point_of l.p)) (take l.i (edges l.vertices)) ≡ true
