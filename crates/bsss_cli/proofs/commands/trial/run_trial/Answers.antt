use Rattle.std.proofs.Common.{◌≡◌, ap, ◌∙◌, arith}
use Rattle.std.specs.Prelude.{length}
use Rattle.siting_definitions.specs.Answer.{Answer}
use Rattle.cert_checker.specs.declared.checking.Accepted.{Accepted}
use Rattle.certificate.proofs.LengthLemmas.{few_marks}
use Rattle.search_answer.specs.Ending.{answer_of}
use Rattle.bsss_cli.proofs.TrialLemmas.{trial_says, tally-nodes}
use Rattle.bsss_cli.proofs.commands.trial.run_trial.Goals as goal

pub say_summary-requires : goal.say_summary-requires
say_summary-requires g c =
    let a : Answer = answer_of c.in-Ok.answer.0 c.in-Ok.answer.1 in
    let count : c.in-Ok-check_answer.accepted.nodes ≡ length a.marks =
    ap (λ (x : Accepted). x.nodes) c.in-Ok-check_answer.ensures ∙ tally-nodes a.marks in
    omega (arith, count, few_marks a c.in-Ok.ensures.valid)

pub returns-in-Ok-check_answer : goal.returns-in-Ok-check_answer
returns-in-Ok-check_answer g c told =
    trial_says c.args.seed c.args.points c.args.settings told
    (answer_of c.in-Ok.answer.0 c.in-Ok.answer.1) c.in-Ok-check_answer.accepted c.in-Ok.ensures
    c.in-Ok-check_answer.ensures c.say_summary.ensures
