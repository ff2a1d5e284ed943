use Rattle.bsss_cli.proofs.OutcomeLemmas.{Says-as}
use Rattle.bsss_cli.proofs.output.say_too_many.Goals as goal

pub returns : goal.returns
returns g c = Says-as _ c.put_too_many.result c.report.ensures c.put_too_many.ensures
