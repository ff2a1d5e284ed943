use Rattle.std.proofs.Common.{◌-◌}
use Rattle.site_workers.specs.Search.{IsBetween}
use Rattle.site_workers.proofs.worker.alone.Given as goal

abbrev pub invariant-loop-lease : goal.invariant-loop-lease
invariant-loop-lease l = IsBetween l.job l.initial.pool l.pool l.best

abbrev pub decreases-loop-lease : goal.decreases-loop-lease
decreases-loop-lease l = l.job.budget - l.pool.leases
