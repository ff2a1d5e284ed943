use Rattle.certificate.proofs.PartLemmas.{in_part-start, in_part-next, in_part-ends, in_part-stopped}
use Rattle.certificate.proofs.reader.instance.read_part.Goals as goal

pub loop-part-init : goal.loop-part-init
loop-part-init g c = in_part-start _ _ c.new-part.ensures

pub returns-in_err-read_part_line : goal.returns-in_err-read_part_line
returns-in_err-read_part_line g c =
    in_part-stopped _ _ _ _ c.in_err-read_part_line.field-0.0 _ c.loop-part.invariant c.in_err-read_part_line.ensures.reads c.from_residual.ensures.1

pub loop-part-preserved : goal.loop-part-preserved
loop-part-preserved g c = in_part-next _ _ _ _ _ c.loop-part.invariant (rw c.if-not-branch.true at c.in_ok-read_part_line.ensures.reads)

pub returns : goal.returns
returns g c = in_part-ends _ _ _ _ _ c.loop-part.invariant (rw c.if-not-branch.false at c.in_ok-read_part_line.ensures.reads)
