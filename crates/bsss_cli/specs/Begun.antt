-- What is known of a solve between its beginning and its search.
use Rattle.std.specs.Prelude.{◌≡◌, ◌≤◌, List, [], ℕ, length, Some, IfSome, Ok, false}
use Rattle.siting_definitions.specs.Instance.{Instance, IsInstance}
use Rattle.instance_text.specs.Reading.{reading}
use Rattle.pool_core.specs.Job.{Job}
use Rattle.pool_core.specs.State.{State}
use Rattle.pool_core.specs.Sound.{IsPoolOf}
use Rattle.command_line.specs.declared.command.Settings.{Settings}
use Rattle.bsss_cli.specs.declared.status.Status.{Status}
use Rattle.siting_definitions.specs.declared.TheConstants.{INSTANCE_LIMIT}
use Rattle.bsss_cli.specs.Ports.{SourceGhosts, KeepsSource}
use Rattle.bsss_cli.specs.Outcome.{OfBytes, HasRead}
use Rattle.bsss_cli.specs.Solve.{job_to, solve}

-- the job of solving an instance under the settings, and its pool, in which no square was leased
pub record IsJob (s : Settings) (i : Instance) (j : Job) (pool : State) : Type 0 where
  pub limits : IsInstance i
  pub job_is : j ≡ job_to i s
  pub pool_of : IsPoolOf j pool

-- the bytes say the instance
pub record SaysInstance (i : Instance) (bytes : List ℕ) : Type 0 where
  pub short : length bytes ≤ INSTANCE_LIMIT
  pub read : reading bytes ≡ Ok i

-- The source was read to its end, and what it gave says the instance of the job.
pub record IsBegun {S : Type 0} (g : SourceGhosts S) (s : Settings) (old new : S)
    (j : Job) (pool : State) : Type 0 where
  pub instance : Instance
  pub text : OfBytes (g.left old) (SaysInstance instance)
  pub job : IsJob s instance j pool
  pub read : IfSome (g.left old) (λ bytes. g.left new ≡ Some [])
  pub stops : (status : Status)
      → IfSome (g.left old) (λ bytes. HasRead (solve s) (g.left old) (g.left new) status)
  pub source : (status : Status) → KeepsSource g false old new status
