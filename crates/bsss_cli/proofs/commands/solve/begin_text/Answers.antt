use Rattle.std.proofs.Common.{Some, refl, rules}
use Rattle.bsss_cli.specs.Solve.{solve}
use Rattle.bsss_cli.proofs.OutcomeLemmas.{Ended-says}
use Rattle.bsss_cli.proofs.commands.solve.begin_text.Goals as goal

pub returns-in-Err-Fault : goal.returns-in-Err-Fault
returns-in-Err-Fault g c =
    Ended-says (solve c.args.settings) (Some c.args.bytes.now) refl
    (refl, (c.requires.short, search rules)) c.say_bad_instance.ensures
