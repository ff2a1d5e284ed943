use Rattle.std.proofs.Common.{take, All}
use Rattle.edge_chain.specs.Wanted.{IsUnwanted}
use Rattle.cover_check.proofs.pieces.first_wanted.Given as goal

abbrev pub invariant-loop-i : goal.invariant-loop-i
invariant-loop-i l = All (λ vs. IsUnwanted l.region l.forbidden vs) (take l.i l.pieces)
