use Rattle.std.proofs.Common.{ℕ, sym, subst}
use Rattle.pool_core.specs.Seats.{IsKeptBy}
use Rattle.bsss_cli.proofs.SolveLemmas.{solve_says}
use Rattle.bsss_cli.proofs.commands.solve.run_solve.Goals as goal

pub returns : goal.returns
returns g c =
    let closed = c.alone-closed.result in
    let kept = subst (λ (n : ℕ). IsKeptBy closed.pool n) (sym c.requires.workers)
    c.alone-closed.ensures.seats in
    rw (sym c.in-Ok.ensures.0)
    (solve_says c.args.settings c.args.source.now c.begin_solve.new.source c.in-Ok.begun.0
    c.in-Ok.begun.1 closed.pool closed.best c.finish-head.result.0 c.finish-head.result.1
    c.in-Ok.ensures.1 c.finish-head.ensures.answer kept c.finish-head.ensures.worked
    c.say_answer.ensures)
