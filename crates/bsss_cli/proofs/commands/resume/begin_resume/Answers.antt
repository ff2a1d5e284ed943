use Rattle.std.proofs.Common.{◌≡◌, sym, ap, ◌∙◌}
use Rattle.std.specs.Prelude.{unwrap_or}
use Rattle.siting_definitions.specs.Answer.{Head}
use Rattle.search_answer.specs.Ending.{answer_of}
use Rattle.bsss_cli.specs.Resume.{pool_for, resume}
use Rattle.bsss_cli.proofs.LoadLemmas.{Ran-loading}
use Rattle.bsss_cli.proofs.ResumeLemmas.{resume_first, lacks_memory}
use Rattle.bsss_cli.proofs.ResumeLemmas.{says_small_budget, says_small_pool}
use Rattle.bsss_cli.proofs.commands.resume.begin_resume.Goals as goal

pub returns-in-Err : goal.returns-in-Err
returns-in-Err g c =
    λ workers. Ran-loading (resume c.args.budget c.args.pool workers)
    (resume_first c.args.budget c.args.pool workers) c.in-Err.ensures

pub returns-in-Err-SmallBudget : goal.returns-in-Err-SmallBudget
returns-in-Err-SmallBudget g c =
    let small = c.in-Err-SmallBudget in
    λ workers. rw (sym c.in-Ok.ensures.0)
    (says_small_budget c.args.budget c.args.pool workers c.args.source.now
    c.load_answer.new.source c.in-Ok.loaded.0 c.in-Ok.loaded.1 c.unwrap_or-room.result small.has
    small.wants small.field-0 c.in-Ok.ensures.1 small.field-0-is small.ensures.opened
    c.say_small_budget.ensures)

pub returns-in-Err-SmallPool : goal.returns-in-Err-SmallPool
returns-in-Err-SmallPool g c =
    let h = c.in-Ok.loaded.0 in
    let ns = c.in-Ok.loaded.1 in
    let small = c.in-Err-SmallPool in
    let room : c.unwrap_or-room.result ≡ pool_for c.args.pool (answer_of h ns) =
    c.unwrap_or-room.ensures ∙ ap (λ (x : Head). unwrap_or c.args.pool x.pool) c.head.view_is in
    λ workers. rw (sym c.in-Ok.ensures.0)
    (says_small_pool c.args.budget c.args.pool workers c.args.source.now
    c.load_answer.new.source h ns c.unwrap_or-room.result small.has small.wants small.field-0
    c.in-Ok.ensures.1 room small.field-0-is small.ensures.opened c.say_small_pool.ensures)

pub returns : goal.returns
returns g c =
    λ workers. rw (sym c.in-Ok.ensures.0)
    (lacks_memory c.args.budget c.args.pool workers c.args.source.now c.load_answer.new.source
    c.in-Ok.loaded.0 c.in-Ok.loaded.1 _ c.in-Ok.ensures.1)
