use Rattle.std.proofs.Common.{sym, subst}
use Rattle.pool_core.specs.Job.{Job}
use Rattle.pool_core.specs.State.{State}
use Rattle.pool_core.specs.Sound.{IsPoolOf}
use Rattle.pool_core.proofs.BegunLemmas.{first_pool}
use Rattle.bsss_cli.proofs.commands.solve.begin_job.Goals as goal

pub returns-in-Ok : goal.returns-in-Ok
returns-in-Ok c =
    let j : Job = c.job_of-job.result in
    record {
      limits = c.job_of-job.ensures.limits;
      job_is = c.job_of-job.ensures.job;
      pool_of = subst (λ (s : State). IsPoolOf j s) (sym c.in-Ok.ensures)
          (first_pool j c.job_of-job.ensures.lawful);
    }
