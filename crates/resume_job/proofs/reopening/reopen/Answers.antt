use Rattle.std.proofs.Common.{subst, arith}
use Rattle.pool_core.specs.Job.{IsJob}
use Rattle.pool_core.proofs.BegunLemmas.{begun_pool}
use Rattle.resume_job.proofs.ReopenLemmas.{few_nodes, resumable_by, lawful}
use Rattle.resume_job.proofs.reopening.reopen.Goals as goal

pub counts_of-splits-requires : goal.counts_of-splits-requires
counts_of-splits-requires c = rw c.nodes.ensures (few_nodes c.args.head c.args.nodes.now c.requires.answer)

pub begin_from-requires : goal.begin_from-requires
begin_from-requires c =
    resumable_by c.args.head c.args.nodes.now c.args.budget c.args.pool c.counts_of-splits.result.0 c.counts_of-splits.result.1 c.job_from-job.result c.requires.answer
    (rw c.nodes.ensures at c.counts_of-splits.ensures.splits) (rw c.nodes.ensures at c.counts_of-splits.ensures.open) (omega arith) (omega arith) c.job_from-job.ensures

pub returns-in-Ok-clause-sound : goal.returns-in-Ok-clause-sound
returns-in-Ok-clause-sound c =
    let job = subst IsJob c.job.view_is c.job.invariant.job in
    let resumable = resumable_by c.args.head c.args.nodes.now c.args.budget c.args.pool c.counts_of-splits.result.0 c.counts_of-splits.result.1 c.job_from-job.result c.requires.answer
    (rw c.nodes.ensures at c.counts_of-splits.ensures.splits) (rw c.nodes.ensures at c.counts_of-splits.ensures.open) (omega arith) (omega arith) c.job_from-job.ensures in
    begun_pool c.job_from-job.result c.args.nodes.now _ c.in-Ok.pool (lawful c.args.head c.args.nodes.now c.args.budget c.args.pool c.job_from-job.result c.requires.answer c.job_from-job.ensures job) resumable c.in-Ok.ensures
