use Rattle.line_stream.proofs.LineLemmas.{long_line}
use Rattle.line_stream.proofs.lines.Lines.read_line.Goals as goal

pub returns : goal.returns
returns g c =
    long_line g.row.LIMIT _ _ _ _ (rw c.if-branch.false at c.in_ok-read_piece.ensures.reads) (c.in_ok-read_piece.ensures.full c.if-branch.false) c.skip_line.ensures
