use Rattle.std.proofs.Common.{rules, refl, sym}
use Rattle.port_io.proofs.PutLemmas.{Wrote-finish, Wrote-stop}
use Rattle.bsss_cli.proofs.PolishLemmas.{polish_text}
use Rattle.bsss_cli.proofs.output.put_polished.Goals as goal

pub returns-in_err-put_pieces : goal.returns-in_err-put_pieces
returns-in_err-put_pieces g c =
    rw (polish_text c.args.bound c.args.better, sym c.value_piece.ensures, sym c.value_piece-2.ensures)
    (Wrote-stop c.new-out.ensures.stage refl c.from_residual.ensures.0 c.in_err-put_pieces.ensures.put (search rules))

pub returns : goal.returns
returns g c =
    rw (polish_text c.args.bound c.args.better, sym c.value_piece.ensures, sym c.value_piece-2.ensures)
    (Wrote-finish c.new-out.ensures.stage c.in_ok-put_pieces.ensures.put c.finish.ensures (search rules))
