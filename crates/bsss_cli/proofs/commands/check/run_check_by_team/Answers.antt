use Rattle.std.proofs.Common.{true}
use Rattle.bsss_cli.proofs.CheckLemmas.{Ran-checked, read_ahead, heard_of_team}
use Rattle.bsss_cli.proofs.commands.check.run_check_by_team.Goals as goal

pub returns : goal.returns
returns g c =
    let told = g.S.Source.left c.args.source.now in
    let rest = g.S.Source.left c.check_with.new.source in
    let ensures = c.check_with.ensures in
    Ran-checked true c.args.source.now c.check_with.new.source c.check_with.result c.say_verdict.result
    (record {
      answers = ensures.answers;
      read_fault = ensures.read_fault;
      read = ensures.read;
      stops = λ status something. read_ahead told rest _ status something ensures.read;
      later = ensures.later;
      heard = λ strict. heard_of_team _ c.check_with.result (ensures.heard strict);
    })
    c.say_verdict.ensures
