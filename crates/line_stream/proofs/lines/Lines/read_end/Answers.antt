use Rattle.line_stream.proofs.LineLemmas.{end_read, end_surplus, end_failed}
use Rattle.line_stream.proofs.lines.Lines.read_end.Goals as goal

pub returns-in-Ok-true : goal.returns-in-Ok-true
returns-in-Ok-true g c =
    end_surplus g.row.LIMIT _ _ c.surplus.result (rw (c.in-Ok-true.is, c.in-Ok-true.field-0-test) at c.has_more.ensures) c.surplus.ensures

pub returns-in-Ok-false : goal.returns-in-Ok-false
returns-in-Ok-false g c =
    end_read g.row.LIMIT _ _ (rw (c.in-Ok-false.is, c.in-Ok-false.field-0-test) at c.has_more.ensures)

pub returns-in-Err : goal.returns-in-Err
returns-in-Err g c =
    end_failed g.row.LIMIT _ _ _ (rw c.in-Err.is at c.has_more.ensures)
