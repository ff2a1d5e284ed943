use Rattle.std.proofs.Common.{ℕ, List, ◌-◌}
use Rattle.line_stream.specs.Stream.{stream}
use Rattle.line_stream.specs.LineReading.{InLine}
use Rattle.line_stream.proofs.lines.Lines.skip_line.Given as goal

-- a front of the line was read
abbrev pub invariant-loop : goal.invariant-loop
invariant-loop g l =
    (front : List ℕ) × InLine g.row.LIMIT (stream g.S.Source.left g.S.Source.faults g.S.Source.is_strict l.fn.self l.fn.source) (stream g.S.Source.left g.S.Source.faults g.S.Source.is_strict l.self l.source) front

-- each turn reads a byte at least
abbrev pub decreases-loop : goal.decreases-loop
decreases-loop g l = g.row.LIMIT - l.self.read
