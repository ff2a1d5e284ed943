-- Reopening an answer: the job that goes on from it, and the pool that it begins with.
use Rattle.std.specs.Prelude.{◌≡◌, ℕ, ◌<◌, ◌≤◌, ℤ, List, Option, option_map, Result, Ok, Err}
use Rattle.siting_definitions.specs.Point.{Pt}
use Rattle.siting_definitions.specs.Answer.{Head}
use Rattle.discard_log.specs.declared.node.Node.{Node}
use Rattle.pool_core.specs.Begun.{IsBegunFrom, left_count}
use Rattle.pool_core.specs.Job.{Job}
use Rattle.pool_core.specs.State.{State, split_count}
use Rattle.pool_core.specs.Sound.{IsFinished}
use Rattle.search_answer.specs.Ending.{Finishes, offer_of}
use Rattle.resume_job.specs.declared.reopening.ReopenError.{ReopenError}
use Rattle.resume_job.specs.declared.reopening.ReopenError.TheVariants.{SmallBudget, SmallPool}
use Rattle.resume_job.specs.declared.reopening.ReopenError.TheVariants.{NoMemory}

-- the job with the answer's instance and gap, which starts from its site with the upper cost
abbrev pub job_from : Head → ℕ → ℕ → Job
job_from h budget pool =
    record {
      instance = h.instance;
      gap = h.gap;
      budget = budget;
      pool = pool;
      start = option_map offer_of h.best;
    }

-- the splits of the nodes have leases, and the squares that they leave open have room
pub record HaveRoom (ns : List Node) (budget pool : ℕ) : Type 0 where
  pub splits : split_count ns ≤ budget
  pub left_open : left_count ns ≤ pool

abbrev pub RefusesFor : List Node → ℕ → ℕ → ReopenError → Type 0
RefusesFor ns budget pool (SmallBudget has wants) =
    (has ≡ budget) × (wants ≡ split_count ns) × (budget < split_count ns)
RefusesFor ns budget pool (SmallPool has wants) =
    (has ≡ pool) × (wants ≡ left_count ns) × (split_count ns ≤ budget) × (pool < left_count ns)
RefusesFor ns budget pool NoMemory = HaveRoom ns budget pool

-- At `Ok` the job that goes on, and the pool that begins from the nodes after as many leases as
-- they have splits; at `Err` the first of both refusals, or want of memory where neither fits.
abbrev pub ReopensTo : Head → List Node → ℕ → ℕ → Result (Job × State) ReopenError → Type 0
ReopensTo h ns budget pool (Ok opened) =
    (opened.0 ≡ job_from h budget pool) × HaveRoom ns budget pool
    × IsBegunFrom opened.0 ns (split_count ns) opened.1
ReopensTo h ns budget pool (Err error) = RefusesFor ns budget pool error

-- A search that began from the nodes of an answer and finished, with the answer that it ends with.
pub record IsResumption (h : Head) (ns : List Node) (budget pool : ℕ)
    (s : State) (best : Option (Pt × ℤ)) (after : Head) (ms : List Node) : Type 0 where
  pub first : State
  pub begun : IsBegunFrom (job_from h budget pool) ns (split_count ns) first
  pub beginning : s.beginning ≡ first.beginning
  pub finished : IsFinished (job_from h budget pool) s best
  pub finishes : Finishes (job_from h budget pool) s best after ms
