use Rattle.std.proofs.Common.{◌≤◌, refl, ◌∙◌, ap, true, false, arith}
use Rattle.certificate.specs.HeadReading.{answer_error}
use Rattle.certificate.specs.PartReading.{part_with}
use Rattle.certificate.proofs.PartLemmas.{in_rest-start, in_rest-next, in_rest-ends, rest_error, rest_stopped, rest_no_memory, memory_error}
use Rattle.certificate.proofs.reader.instance.read_rest.Goals as goal

pub loop-part-init : goal.loop-part-init
loop-part-init g c = record { read = in_rest-start _ _; count = omega arith }

pub returns-in_err-read_piece-clause-reads : goal.returns-in_err-read_piece-clause-reads
returns-in_err-read_piece-clause-reads g c =
    let e = c.in_err-read_piece.field-0.0 in
    rest_error _ _ _ _ (answer_error e) _ (rest_stopped _ _ _ _ _ e c.loop-part.invariant.read c.in_err-read_piece.ensures.reads) c.from_residual.ensures.1

pub loop-part-preserved : goal.loop-part-preserved
loop-part-preserved g c =
    let further = (c.in_ok-read_piece.ensures.more (refl {a = true})).0 in
    let count : c.args.lines.now.read ≤ c.loop-part.lines.read = c.loop-part.invariant.count in
    record {
      read = in_rest-next _ _ _ _ c.loop-part.part _ c.loop-part.invariant.read (rw c.if-not-branch.true at c.in_ok-read_piece.ensures.reads)
          (c.in_ok-add.ensures.kept (refl {a = true}) ∙ ap (part_with c.loop-part.part) c.text.ensures);
      count = omega arith;
    }

pub returns-in_err-add-clause-reads : goal.returns-in_err-add-clause-reads
returns-in_err-add-clause-reads g c =
    let e = c.in_err-add.field-0.0 in
    rest_error _ _ _ _ e _ (memory_error _ _ e c.in_err-add.ensures.memory (rest_no_memory _ _ _ _ _ false c.loop-part.invariant.read (rw c.if-not-branch.true at c.in_ok-read_piece.ensures.reads))) c.from_residual-in_err-add.ensures.1

pub returns-in_err-add-2-clause-reads : goal.returns-in_err-add-2-clause-reads
returns-in_err-add-2-clause-reads g c =
    let e = c.in_err-add-2.field-0.0 in
    rest_error _ _ _ _ e _ (memory_error _ _ e c.in_err-add-2.ensures.memory (rest_no_memory _ _ _ _ _ true c.loop-part.invariant.read (rw c.if-not-branch.false at c.in_ok-read_piece.ensures.reads))) c.from_residual-in_err-add-2.ensures.1

pub returns-in_err-add-3-clause-reads : goal.returns-in_err-add-3-clause-reads
returns-in_err-add-3-clause-reads g c =
    let e = c.in_err-add-3.field-0.0 in
    rest_error _ _ _ _ e _ (memory_error _ _ e c.in_err-add-3.ensures.memory (rest_no_memory _ _ _ _ _ true c.loop-part.invariant.read (rw c.if-not-branch.false at c.in_ok-read_piece.ensures.reads))) c.from_residual-in_err-add-3.ensures.1

pub returns-clause-reads : goal.returns-clause-reads
returns-clause-reads g c =
    in_rest-ends _ _ _ _ c.loop-part.part c.add-2.new.self c.add-3.new.self c.loop-part.invariant.read (rw c.if-not-branch.false at c.in_ok-read_piece.ensures.reads)
    (c.in_ok-add-2.ensures.kept (refl {a = true}) ∙ ap (part_with c.loop-part.part) c.text-2.ensures) (c.in_ok-add-3.ensures.kept (refl {a = true}))
