use Rattle.std.proofs.Common.{◌≡◌, drop}
use Rattle.cover_check.specs.Verdict.{first_fault}
use Rattle.cover_check.proofs.held.first_fault.Given as goal

abbrev pub invariant-loop-owned : goal.invariant-loop-owned
invariant-loop-owned l = first_fault l.tile l.polygons (drop l.owned-index l.all) ≡ first_fault l.tile l.polygons l.all
