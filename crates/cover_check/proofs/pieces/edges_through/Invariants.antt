use Rattle.std.proofs.Common.{◌≡◌, take}
use Rattle.std.specs.Prelude.{filter, not}
use Rattle.edge_chain.specs.Chain.{Edge}
use Rattle.edge_chain.specs.Piece.{is_clear}
use Rattle.cover_check.proofs.pieces.edges_through.Given as goal

abbrev pub invariant-loop-e : goal.invariant-loop-e
invariant-loop-e l = l.through.items ≡ filter (λ (e : Edge). not (is_clear l.piece e)) (take l.e-index l.edges)
