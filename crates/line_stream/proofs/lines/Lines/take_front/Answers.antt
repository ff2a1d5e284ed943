use Rattle.std.proofs.Common.{ap}
use Rattle.line_stream.specs.ReadSoFar.{ReadSoFar}
use Rattle.line_stream.proofs.LineLemmas.{front_read}
use Rattle.line_stream.proofs.lines.Lines.take_front.Goals as goal

pub returns : goal.returns
returns g c =
    rw (← c.self.view_is)
    (front_read g.row.LIMIT c.give-count.result.0 _ _ c.give-count.result.1 c.give-count.ensures.kept c.give-count.ensures.line c.give-count.ensures.rest
    (rw (← c.left.ensures.value) c.give-count.ensures.most) c.left.ensures.within c.give-count.ensures.within (rw (← c.left.ensures.value) c.give-count.ensures.some) c.give-count.ensures.full
    (ap (λ (s : ReadSoFar). s.read) c.advance.ensures) (ap (λ (s : ReadSoFar). s.line) c.advance.ensures))
