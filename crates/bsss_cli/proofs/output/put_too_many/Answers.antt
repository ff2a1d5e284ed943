use Rattle.std.proofs.Common.{rules}
use Rattle.port_io.proofs.PutLemmas.{Wrote-finish}
use Rattle.bsss_cli.proofs.output.put_too_many.Goals as goal

pub returns : goal.returns
returns g c = Wrote-finish c.new-out.ensures.stage c.in_ok-write_count.ensures.put c.finish.ensures (search rules)
