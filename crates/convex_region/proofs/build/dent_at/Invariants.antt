use Rattle.std.proofs.Common.{ℕ, ◌<◌}
use Rattle.convex_region.specs.Dent.{IsDent}
use Rattle.convex_region.proofs.build.dent_at.Given as goal

abbrev pub invariant-loop-j : goal.invariant-loop-j
invariant-loop-j l = (k : ℕ) → k < l.j → IsDent l.vertices l.i k → ⊥
