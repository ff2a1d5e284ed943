use Rattle.std.proofs.Common.{sym}
use Rattle.bsss_cli.proofs.SolveLemmas.{solve_says, solve_lacks_memory}
use Rattle.bsss_cli.proofs.commands.solve.run_solve_by_team.Goals as goal

pub returns-in-Err-team : goal.returns-in-Err-team
returns-in-Err-team g c =
    rw (sym c.in-Ok.ensures.0)
    (solve_lacks_memory c.args.settings c.args.source.now c.begin_solve.new.source
    c.in-Ok.begun.0 c.in-Ok.begun.1 _ c.in-Ok.ensures.1)

pub returns-in-Ok-team : goal.returns-in-Ok-team
returns-in-Ok-team g c =
    let closed = c.in-Ok-team.closed in
    let ended = c.finish_by_workers-head in
    rw (sym c.in-Ok.ensures.0)
    (solve_says c.args.settings c.args.source.now c.begin_solve.new.source c.in-Ok.begun.0
    c.in-Ok.begun.1 closed.pool closed.best ended.result.0 ended.result.1 c.in-Ok.ensures.1
    ended.ensures.answer c.in-Ok-team.ensures.kept ended.ensures.worked c.say_answer.ensures)
