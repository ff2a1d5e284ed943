use Rattle.std.proofs.Common.{Option, subst}
use Rattle.command_line.specs.declared.command.Command.{Command}
use Rattle.bsss_cli.specs.Outcome.{Completes}
use Rattle.bsss_cli.specs.Commands.{promise_of}
use Rattle.bsss_cli.proofs.OutcomeLemmas.{Completes-writes}
use Rattle.bsss_cli.proofs.CommandLemmas.{command_wants}
use Rattle.bsss_cli.proofs.top_call.run.Goals as goal

pub returns-then-has_team-clause-complete : goal.returns-then-has_team-clause-complete
returns-then-has_team-clause-complete g c =
    let told = g.S.Source.left c.args.source.now in
    let command = c.parse_words-command.result in
    let status = c.run_by_team.result in
    subst (λ (x : Option Command). Completes (promise_of x) told status) c.parse_words-command.ensures.value
    (Completes-writes (promise_of command) told _ _ status (command_wants command told status)
    c.run_by_team.ensures.written)

pub returns-else-has_team-clause-complete : goal.returns-else-has_team-clause-complete
returns-else-has_team-clause-complete g c =
    let told = g.S.Source.left c.args.source.now in
    let command = c.parse_words-command.result in
    let status = c.run_command.result in
    subst (λ (x : Option Command). Completes (promise_of x) told status) c.parse_words-command.ensures.value
    (Completes-writes (promise_of command) told _ _ status (command_wants command told status)
    c.run_command.ensures.written)
