use Rattle.std.proofs.Common.{◌-◌}
use Rattle.line_stream.specs.Stream.{stream}
use Rattle.certificate.specs.HeadReading.{answer_limit}
use Rattle.certificate.proofs.PartLemmas.{InPart}
use Rattle.certificate.proofs.reader.instance.read_part.Given as goal

-- some lines were kept
abbrev pub invariant-loop-part : goal.invariant-loop-part
invariant-loop-part g l = InPart (stream g.S.Source.left g.S.Source.faults g.S.Source.is_strict l.fn.lines l.fn.source) (stream g.S.Source.left g.S.Source.faults g.S.Source.is_strict l.lines l.source) l.part

-- each turn reads a byte at least
abbrev pub decreases-loop-part : goal.decreases-loop-part
decreases-loop-part g l = answer_limit - l.lines.read
