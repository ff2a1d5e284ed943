use Rattle.std.proofs.Common.{refl, ◌∙◌, ap, true}
use Rattle.certificate.specs.HeadReading.{answer_error}
use Rattle.certificate.specs.PartReading.{part_with}
use Rattle.certificate.proofs.PartLemmas.{part_error, long_line, long_stopped}
use Rattle.certificate.proofs.ReadLemmas.{line_stopped}
use Rattle.certificate.proofs.reader.instance.read_part_line.Goals as goal

pub returns-in_err-whole-clause-reads : goal.returns-in_err-whole-clause-reads
returns-in_err-whole-clause-reads g c =
    let e = c.in_err-whole.field-0.0 in
    part_error _ _ _ _ (answer_error e) _ (line_stopped _ _ e c.in_err-whole.ensures.reads) c.from_residual.ensures.1

pub returns-in_err-read_rest-clause-reads : goal.returns-in_err-read_rest-clause-reads
returns-in_err-read_rest-clause-reads g c =
    let e = c.in_err-read_rest.field-0.0 in
    part_error _ _ _ _ e _ (long_stopped _ _ _ e (rw c.if-whole.false at c.in_ok-whole.ensures.reads) c.in_err-read_rest.ensures.reads) c.from_residual-in_err-read_rest.ensures.1

pub returns-clause-reads : goal.returns-clause-reads
returns-clause-reads g c =
    long_line _ _ _ _ _ _ (rw c.if-whole.false at c.in_ok-whole.ensures.reads) (c.in_ok-whole.ensures.full c.if-whole.false)
    (c.in_ok-add.ensures.kept (refl {a = true}) ∙ ap (part_with c.args.part.now) c.text.ensures) c.in_ok-read_rest.ensures.reads
