use Rattle.std.proofs.Common.{Option, subst}
use Rattle.command_line.specs.declared.command.Command.{Command}
use Rattle.bsss_cli.specs.Outcome.{Completes}
use Rattle.bsss_cli.specs.Commands.{promise_of}
use Rattle.bsss_cli.proofs.OutcomeLemmas.{Completes-writes}
use Rattle.bsss_cli.proofs.CommandLemmas.{command_wants}
use Rattle.bsss_cli.proofs.top_call.run_alone.Goals as goal

pub returns-clause-complete : goal.returns-clause-complete
returns-clause-complete g c =
    let told = g.S.Source.left c.args.source.now in
    subst (λ (command : Option Command). Completes (promise_of command) told c.run_command.result) c.parse_words.ensures.value
    (Completes-writes (promise_of c.parse_words.result) told _ _ c.run_command.result (command_wants c.parse_words.result told c.run_command.result) c.run_command.ensures.written)
