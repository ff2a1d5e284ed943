use Rattle.std.proofs.Common.{refl}
use Rattle.port_io.specs.Output.{piece_text}
use Rattle.port_io.proofs.PutLemmas.{PutOn-next, PutOn-next_stop}
use Rattle.port_io.proofs.buffered.Out.put_pieces.Goals as goal

pub loop-piece-preserved : goal.loop-piece-preserved
loop-piece-preserved g c =
    PutOn-next piece_text c.args.pieces.now c.loop-piece.piece-index _ c.loop-piece-test.true c.loop-piece.invariant c.in_ok-put_piece.ensures

pub returns-in_err-put_piece : goal.returns-in_err-put_piece
returns-in_err-put_piece g c =
    PutOn-next_stop piece_text c.args.pieces.now c.loop-piece.piece-index _
    c.loop-piece-test.true refl c.from_residual.ensures.0 c.loop-piece.invariant c.in_err-put_piece.ensures
