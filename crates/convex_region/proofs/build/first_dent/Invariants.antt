use Rattle.std.proofs.Common.{ℕ, ◌<◌}
use Rattle.convex_region.specs.Dent.{IsDent}
use Rattle.convex_region.proofs.build.first_dent.Given as goal

abbrev pub invariant-loop-i : goal.invariant-loop-i
invariant-loop-i l = (k : ℕ) → k < l.i → (j : ℕ) → IsDent l.vertices k j → ⊥
