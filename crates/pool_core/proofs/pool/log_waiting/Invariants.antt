use Rattle.std.proofs.Common.{◌≤◌, ◌++◌, map, length}
use Rattle.std.specs.List.Sorted.{IsPermutation}
use Rattle.pool_core.specs.Begun.{left_of}
use Rattle.pool_core.proofs.pool.log_waiting.Given as goal

abbrev pub invariant-loop-entry : goal.invariant-loop-entry
invariant-loop-entry l = record {
  logged : IsPermutation (l.fn.log.nodes ++ map left_of l.fn.waiting.entries) (l.log.nodes ++ map left_of l.waiting.entries);
  room : length l.waiting.entries ≤ l.log.spare;
}

abbrev pub decreases-loop-entry : goal.decreases-loop-entry
decreases-loop-entry l = length l.waiting.entries
