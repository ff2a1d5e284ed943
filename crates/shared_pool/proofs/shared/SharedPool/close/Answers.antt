use Rattle.std.proofs.Common.{ℤ, Option, sym, subst}
use Rattle.std.specs.Prelude.{⊤, MatchOption}
use Rattle.siting_definitions.specs.Point.{Pt}
use Rattle.pool_core.specs.Job.{IsOffer, cost_in}
use Rattle.pool_core.specs.Sound.{IsFinished}
use Rattle.shared_pool.specs.Runs.{IsEndOf}
use Rattle.shared_pool.specs.TableFits.{IsLast, IsReached}
use Rattle.shared_pool.specs.Desks.{key, first_pool, root_view}
use Rattle.shared_pool.proofs.FirstAndLast.{Ends, ends}
use Rattle.shared_pool.proofs.shared.SharedPool.close.Goals as goal

-- what the table and the root desk end with
pub ended : (c : goal.After-free) → Ends (key c.args.self) (root_view c.args.root) c.take-pool.result
ended c =
    ends (key c.args.self) c.args.root.seat.id (root_view c.args.root) _ _ c.take-pool.result c.args.root.first c.args.root.rests.role_is c.requires.out
    c.close_with-closed.ensures.values.2 c.take-pool.ensures.value

pub returns-clause-last : goal.returns-clause-last
returns-clause-last c = subst (IsLast (key c.args.self) c.take-pool.result) (sym c.args.root.shown_best) (ended c).last

pub returns-clause-run : goal.returns-clause-run
returns-clause-run c = subst (λ (b : Option (Pt × ℤ)). IsReached (first_pool c.args.self) (cost_in b) c.take-pool.result) (sym c.args.root.shown_best) (ended c).reached

pub returns-clause-end : goal.returns-clause-end
returns-clause-end c = subst (λ (b : Option (Pt × ℤ)). IsEndOf (first_pool c.args.self) (root_view c.args.root).pasts c.take-pool.result (cost_in b)) (sym c.args.root.shown_best) (ended c).end_is

pub returns-clause-seats : goal.returns-clause-seats
returns-clause-seats c = (ended c).seats

pub returns-clause-offer : goal.returns-clause-offer
returns-clause-offer c = subst (λ (b : Option (Pt × ℤ)). MatchOption b ⊤ (λ b. IsOffer (first_pool c.args.self).job.instance b.0 b.1)) (sym c.args.root.shown_best) (ended c).offer

pub returns-clause-job : goal.returns-clause-job
returns-clause-job c = (ended c).job

pub returns-clause-beginning : goal.returns-clause-beginning
returns-clause-beginning c = (ended c).beginning

pub returns-clause-leased : goal.returns-clause-leased
returns-clause-leased c = (ended c).leased

pub returns-clause-finished : goal.returns-clause-finished
returns-clause-finished c over = subst (IsFinished (first_pool c.args.self).job c.take-pool.result) (sym c.args.root.shown_best) ((ended c).finished over)

pub returns-clause-kept : goal.returns-clause-kept
returns-clause-kept c = (ended c).kept
