use Rattle.std.proofs.Common.{length, sym, ◌∙◌, arith}
use Rattle.text_lines.proofs.FirstField.{field_to, ends_at, ends_after, some_before}
use Rattle.text_lines.proofs.fields.field_end.Goals as goal

pub returns-then-is_gap-clause-first : goal.returns-then-is_gap-clause-first
returns-then-is_gap-clause-first c =
    let ends = sym c.is_gap.ensures ∙ c.if-is_gap.true in
    field_to c.args.start.now c.loop-i.i (some_before c.args.start.now c.loop-i.i c.requires.some c.requires.begins ends) (omega arith) c.loop-i.invariant (ends_at c.args.start.now c.loop-i.i (omega arith) ends)

pub returns-clause-first : goal.returns-clause-first
returns-clause-first c =
    field_to c.args.start.now (length c.args.start.now) (omega arith) (omega arith) (λ k below. c.loop-i.invariant k (omega arith)) (ends_after c.args.start.now (length c.args.start.now) (omega arith))
