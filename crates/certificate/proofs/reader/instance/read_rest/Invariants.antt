use Rattle.std.proofs.Common.{◌≤◌, ◌-◌}
use Rattle.line_stream.specs.Stream.{stream}
use Rattle.certificate.specs.HeadReading.{answer_limit}
use Rattle.certificate.proofs.PartLemmas.{InRest}
use Rattle.certificate.proofs.reader.instance.read_rest.Given as goal

-- a front of the line was kept
abbrev pub invariant-loop-part : goal.invariant-loop-part
invariant-loop-part g l = record {
  read : InRest (stream g.S.Source.left g.S.Source.faults g.S.Source.is_strict l.fn.lines l.fn.source) (stream g.S.Source.left g.S.Source.faults g.S.Source.is_strict l.lines l.source) l.fn.part l.part;
  count : l.fn.lines.read ≤ l.lines.read;
}

-- each turn reads a byte at least
abbrev pub decreases-loop-part : goal.decreases-loop-part
decreases-loop-part g l = answer_limit - l.lines.read
