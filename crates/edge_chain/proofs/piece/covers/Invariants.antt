use Rattle.std.proofs.Common.{◌≡◌, take, true}
use Rattle.std.specs.List.{list_all}
use Rattle.siting_definitions.specs.Polygon.{edges}
use Rattle.edge_chain.specs.Chain.{Edge}
use Rattle.edge_chain.specs.Piece.{at, is_left}
use Rattle.edge_chain.proofs.piece.covers.Given as goal

abbrev pub invariant-loop-i : goal.invariant-loop-i
invariant-loop-i l = list_all (λ (e : Edge). is_left e (at l.v)) (take l.i (edges l.piece)) ≡ true
