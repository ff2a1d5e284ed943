use Rattle.std.proofs.Common.{[], ◌++◌}
use Rattle.line_stream.proofs.LineLemmas.{in_line-none, in_line-then, rest_fails, rest_ends}
use Rattle.line_stream.proofs.lines.Lines.skip_line.Goals as goal

pub loop-init : goal.loop-init
loop-init g c = ([], in_line-none g.row.LIMIT _)

pub returns-in_err-read_piece : goal.returns-in_err-read_piece
returns-in_err-read_piece g c =
    rest_fails g.row.LIMIT _ _ _ c.loop.invariant.0 c.in_err-read_piece.field-0.0 _ c.loop.invariant.1 c.in_err-read_piece.ensures.reads c.from_residual.ensures.1

pub loop-preserved : goal.loop-preserved
loop-preserved g c =
    (c.loop.invariant.0 ++ c.read_piece.new.self.kept, in_line-then g.row.LIMIT _ _ _ _ _ c.loop.invariant.1 (rw c.if-not-branch.true at c.in_ok-read_piece.ensures.reads))

pub returns : goal.returns
returns g c = rest_ends g.row.LIMIT _ _ _ _ c.loop.invariant.0 c.loop.invariant.1 (rw c.if-not-branch.false at c.in_ok-read_piece.ensures.reads) c.begin_line.ensures
