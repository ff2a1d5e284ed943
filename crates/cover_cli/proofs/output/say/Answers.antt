use Rattle.cover_cli.proofs.OutcomeLemmas.{says_whole, says_front}
use Rattle.cover_cli.proofs.output.say.Goals as goal

pub returns-in-Ok : goal.returns-in-Ok
returns-in-Ok g c = says_whole c.args.verdict _ c.in-Ok.ensures

pub returns-in-Err : goal.returns-in-Err
returns-in-Err g c = says_front c.args.verdict _ c.in-Err.ensures
