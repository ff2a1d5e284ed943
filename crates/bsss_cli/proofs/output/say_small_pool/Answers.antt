use Rattle.bsss_cli.proofs.OutcomeLemmas.{Says-as}
use Rattle.bsss_cli.proofs.output.say_small_pool.Goals as goal

pub returns : goal.returns
returns g c = Says-as _ c.put_small.result c.report.ensures c.put_small.ensures
