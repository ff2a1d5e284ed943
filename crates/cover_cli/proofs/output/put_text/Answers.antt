use Rattle.std.proofs.Common.{rules}
use Rattle.port_io.proofs.PutLemmas.{Wrote-finish}
use Rattle.cover_cli.proofs.output.put_text.Goals as goal

pub returns : goal.returns
returns g c = Wrote-finish c.new-out.ensures.stage c.in_ok-put.ensures.put c.finish.ensures (search rules)
