use Rattle.std.proofs.Common.{sym}
use Rattle.bsss_cli.proofs.ResumeLemmas.{resume_says, lacks_memory}
use Rattle.bsss_cli.proofs.commands.resume.run_resume_by_team.Goals as goal

pub returns-in-Err : goal.returns-in-Err
returns-in-Err g c = c.in-Err.ensures c.args.workers

pub returns-in-Err-team : goal.returns-in-Err-team
returns-in-Err-team g c =
    let before = c.in-Ok.ensures.1 in
    rw (sym c.in-Ok.ensures.0)
    (lacks_memory c.args.budget c.args.pool c.args.workers c.args.source.now
    c.begin_resume.new.source before.head before.nodes _ before.loaded)

pub returns-in-Ok-team : goal.returns-in-Ok-team
returns-in-Ok-team g c =
    let closed = c.in-Ok-team.closed in
    let searched = c.in-Ok-team.ensures in
    let ended = c.finish_by_workers-head in
    rw (sym c.in-Ok.ensures.0)
    (resume_says c.args.budget c.args.pool c.args.workers c.args.source.now
    c.begin_resume.new.source c.in-Ok.begun.0 c.in-Ok.begun.1 closed.pool closed.best
    ended.result.0 ended.result.1 c.in-Ok.ensures.1 searched.beginning searched.finished
    ended.ensures.answer searched.kept c.say_answer.ensures)
