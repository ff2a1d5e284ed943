use Rattle.std.proofs.Common.{◌≡◌, take, true}
use Rattle.std.specs.List.{list_all}
use Rattle.siting_definitions.specs.Point.{point_of}
use Rattle.siting_definitions.specs.Polygon.{edges}
use Rattle.convex_region.proofs.Edges.{to_the_left}
use Rattle.convex_region.proofs.polygon.Polygon.covers_inside.Given as goal

abbrev pub invariant-loop-i : goal.invariant-loop-i
invariant-loop-i l = list_all (to_the_left (point_of l.p)) (take l.i (edges l.vertices)) ≡ true
