-- What is known of a resumption between its beginning and its search.
use Rattle.std.specs.Prelude.{ℕ, List, Option, Ok}
use Rattle.siting_definitions.specs.Answer.{Head}
use Rattle.discard_log.specs.declared.node.Node.{Node}
use Rattle.pool_core.specs.Job.{Job}
use Rattle.pool_core.specs.State.{State}
use Rattle.pool_core.specs.Sound.{IsPoolOf}
use Rattle.search_answer.specs.Ending.{answer_of}
use Rattle.resume_job.specs.Reopening.{ReopensTo}
use Rattle.bsss_cli.specs.Ports.{SourceGhosts}
use Rattle.bsss_cli.specs.Load.{IsLoaded}
use Rattle.bsss_cli.specs.Resume.{pool_for}

-- The answer with this head and these nodes was loaded, and reopened: the job goes on from it, and
-- the pool is that with which the job begins.
pub record IsReopened {S : Type 0} (g : SourceGhosts S) (budget : ℕ) (pool : Option ℕ)
    (old new : S) (j : Job) (first : State) : Type 0 where
  pub head : Head
  pub nodes : List Node
  pub loaded : IsLoaded g old new head nodes
  pub opened : ReopensTo head nodes budget (pool_for pool (answer_of head nodes)) (Ok (j, first))
  pub pool_of : IsPoolOf j first
