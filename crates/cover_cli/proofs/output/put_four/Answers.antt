use Rattle.std.proofs.Common.{rules, refl}
use Rattle.port_io.proofs.PutLemmas.{Wrote-finish, Wrote-stop}
use Rattle.cover_cli.proofs.output.put_four.Goals as goal

pub returns-in_err-put_pieces : goal.returns-in_err-put_pieces
returns-in_err-put_pieces g c = Wrote-stop c.new-out.ensures.stage refl c.from_residual.ensures.0 c.in_err-put_pieces.ensures.put (search rules)

pub returns : goal.returns
returns g c = Wrote-finish c.new-out.ensures.stage c.in_ok-put_pieces.ensures.put c.finish.ensures (search rules)
