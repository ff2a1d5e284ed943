use Rattle.convex_region.proofs.TurnLemmas.{AllLeft}
use Rattle.convex_region.proofs.turns.is_convex.Given as goal

abbrev pub invariant-loop-i : goal.invariant-loop-i
invariant-loop-i l = AllLeft l.vertices l.i
