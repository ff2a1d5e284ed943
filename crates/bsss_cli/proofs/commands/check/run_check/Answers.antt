use Rattle.std.proofs.Common.{false}
use Rattle.bsss_cli.proofs.CheckLemmas.{Ran-checked, as_read, read_as_needed, heard_of_one}
use Rattle.bsss_cli.proofs.commands.check.run_check.Goals as goal

pub returns : goal.returns
returns g c =
    let told = g.S.Source.left c.args.source.now in
    let rest = g.S.Source.left c.check.new.source in
    let ensures = c.check.ensures in
    Ran-checked false c.args.source.now c.check.new.source c.check.result c.say_verdict.result
    (record {
      answers = ensures.answers;
      read_fault = ensures.read_fault;
      read = as_read told rest _ ensures.read;
      stops = λ status something. read_as_needed told rest _ status something ensures.read;
      later = ensures.later;
      heard = λ strict. heard_of_one _ c.check.result (ensures.heard strict);
    })
    c.say_verdict.ensures
