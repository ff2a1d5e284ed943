use Rattle.std.proofs.Common.{◌≡◌, ◌+◌, ◌-◌, ◌<◌, ◌≤◌, length}
use Rattle.line_stream.specs.Stream.{stream}
use Rattle.line_stream.specs.LineReading.{InLine}
use Rattle.line_stream.proofs.lines.Lines.read_piece.Given as goal

-- what is kept is the front of the line that comes
abbrev pub invariant-loop-self : goal.invariant-loop-self
invariant-loop-self g l = record {
  in_line : InLine g.row.LIMIT (stream g.S.Source.left g.S.Source.faults g.S.Source.is_strict l.fn.self l.fn.source) (stream g.S.Source.left g.S.Source.faults g.S.Source.is_strict l.self l.source) l.self.kept;
  count : l.fn.self.read + length l.self.kept ≡ l.self.read;
  within : 0 < length l.self.kept → l.self.read ≤ g.row.LIMIT;
  most : length l.self.kept ≤ 4096;
}

-- each turn keeps a byte at least
abbrev pub decreases-loop-self : goal.decreases-loop-self
decreases-loop-self g l = 4096 - length l.self.kept
