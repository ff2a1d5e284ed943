use Rattle.cover_cli.proofs.OutcomeLemmas.{permits_wanted, completes}
use Rattle.cover_cli.proofs.top_call.run.Goals as goal

pub returns-clause-covered : goal.returns-clause-covered
returns-clause-covered g c =
    permits_wanted (g.S.Source.left c.args.source.now) _ _ c.read_and_say.result c.read_and_say.ensures.written

pub returns-clause-complete : goal.returns-clause-complete
returns-clause-complete g c =
    completes (g.S.Source.left c.args.source.now) _ _ c.read_and_say.result c.read_and_say.ensures.written
