use Rattle.std.proofs.Common.{◌≡◌, take, false}
use Rattle.std.specs.List.{list_any}
use Rattle.siting_definitions.specs.Point.{Place}
use Rattle.siting_definitions.specs.Polygon.{edges}
use Rattle.siting_definitions.specs.Excluded.{is_right_of}
use Rattle.exclusion.proofs.test.has_edge_beside.Given as goal

abbrev pub invariant-loop-i : goal.invariant-loop-i
invariant-loop-i l = list_any (λ (e : Place × Place). is_right_of e.0 e.1 l.sq) (take l.i (edges l.polygon)) ≡ false
