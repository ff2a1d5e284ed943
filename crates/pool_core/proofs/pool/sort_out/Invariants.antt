use Rattle.std.proofs.Common.{◌≡◌, ◌+◌, length}
use Rattle.pool_core.proofs.SortOut.{AreSortedOut}
use Rattle.pool_core.proofs.pool.sort_out.Given as goal

abbrev pub invariant-loop-node : goal.invariant-loop-node
invariant-loop-node l = record {
  sorted : AreSortedOut l.nodes l.node-index l.waiting.entries l.log.nodes;
  waiting_room : length l.waiting.entries + l.waiting.spare ≡ l.fn.waiting.spare;
  log_room : length l.log.nodes + l.log.spare ≡ l.fn.log.spare;
}
