use Rattle.std.proofs.Common.{sym}
use Rattle.bsss_cli.proofs.ResumeLemmas.{resume_says}
use Rattle.bsss_cli.proofs.commands.resume.run_resume.Goals as goal

pub returns-in-Err : goal.returns-in-Err
returns-in-Err g c = c.in-Err.ensures 1

pub returns : goal.returns
returns g c =
    let closed = c.alone-closed.result in
    let searched = c.alone-closed.ensures in
    let ended = c.finish-head in
    rw (sym c.in-Ok.ensures.0)
    (resume_says c.args.budget c.args.pool 1 c.args.source.now c.begin_resume.new.source
    c.in-Ok.begun.0 c.in-Ok.begun.1 closed.pool closed.best ended.result.0 ended.result.1
    c.in-Ok.ensures.1 searched.beginning searched.finished ended.ensures.answer searched.seats
    c.say_answer.ensures)
