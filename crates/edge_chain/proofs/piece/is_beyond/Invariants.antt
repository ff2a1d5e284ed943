use Rattle.std.proofs.Common.{◌≡◌, take, false, ◌&&◌}
use Rattle.std.specs.List.{list_any}
use Rattle.siting_definitions.specs.Polygon.{edges}
use Rattle.edge_chain.specs.Chain.{Edge}
use Rattle.edge_chain.specs.Piece.{at, is_right}
use Rattle.edge_chain.proofs.piece.is_beyond.Given as goal

abbrev pub invariant-loop-i : goal.invariant-loop-i
invariant-loop-i l = list_any (λ (k : Edge). is_right k (at l.e.0) && is_right k (at l.e.1)) (take l.i (edges l.piece)) ≡ false
