use Rattle.std.proofs.Common.{◌≡◌, ◌≤◌, drop, length}
use Rattle.pool_core.specs.Logged.{with_bounds_from}
use Rattle.pool_core.proofs.pool.put_in_bounds.Given as goal

abbrev pub invariant-loop-i : goal.invariant-loop-i
invariant-loop-i l = record {
  nodes : with_bounds_from l.i l.log.nodes (drop l.next l.fine_bounds) ≡ with_bounds_from l.fn.from l.fn.log.nodes l.fine_bounds;
  count : length l.log.nodes ≡ length l.fn.log.nodes;
  within : l.i ≤ length l.log.nodes;
  next : l.next ≤ length l.fine_bounds;
  spare : l.log.spare ≡ l.fn.log.spare;
}
