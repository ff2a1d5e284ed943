-- What the fields of a job show.
use Rattle.std.specs.Prelude.{◌≡◌}
use Rattle.pool_core.specs.Job.{Job, IsJob, job_root}
use Rattle.pool_core.specs.declared.job.Job.TheInside.{Inside}

-- the job whose parts the fields have
abbrev pub job_of : Inside → Job
job_of a =
    record {
      instance = a.instance;
      gap = a.gap;
      budget = a.budget;
      pool = a.pool;
      start = a.start;
    }

-- the job is in its ranges, and `root` is its starting square
pub record JobFits (a : Inside) : Type 0 where
  pub job : IsJob (job_of a)
  pub root_is : a.root ≡ job_root (job_of a)
