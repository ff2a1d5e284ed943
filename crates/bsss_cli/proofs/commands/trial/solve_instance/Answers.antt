use Rattle.std.proofs.Common.{ℕ, sym, subst}
use Rattle.pool_core.specs.Job.{Job}
use Rattle.pool_core.specs.Seats.{IsKeptBy}
use Rattle.search_answer.specs.Ending.{Finishes}
use Rattle.bsss_cli.proofs.SolveLemmas.{answers}
use Rattle.bsss_cli.proofs.commands.trial.solve_instance.Goals as goal

pub returns : goal.returns
returns c =
    let closed = c.alone-closed.result in
    let ended = c.finish in
    let kept = subst (λ (n : ℕ). IsKeptBy closed.pool n) (sym c.requires.workers)
    c.alone-closed.ensures.seats in
    let done = subst (λ (x : Job). Finishes x closed.pool closed.best ended.result.0 ended.result.1)
    c.in-Ok.ensures.job_is ended.ensures.answer in
    answers c.args.settings c.args.instance closed.pool closed.best ended.result.0 ended.result.1
    c.in-Ok.ensures.limits done kept ended.ensures.worked
