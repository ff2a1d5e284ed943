use Rattle.std.proofs.Common.{◌≡◌, []}
use Rattle.pool_core.proofs.tests.raises.Given as goal

abbrev pub invariant-loop : goal.invariant-loop
invariant-loop g l = record {
  job : l.pool.job ≡ l.fn.job;
  leased : l.pool.leased ≡ [];
}
