use Rattle.std.proofs.Common.{◌≡◌, ◌++◌, take}
use Rattle.siting_definitions.specs.Polygon.{edges}
use Rattle.cover_check.proofs.chains.push_ring.Given as goal

abbrev pub invariant-loop-i : goal.invariant-loop-i
invariant-loop-i l = l.edges.items ≡ l.initial.edges.items ++ take l.i (edges l.ring)
