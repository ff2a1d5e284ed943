use Rattle.instance_text.proofs.Limits.{KeepsLimits-nothing}
use Rattle.instance_text.proofs.reading.Reading.new.Goals as goal

pub invariant_of-result : goal.invariant_of-result
invariant_of-result c = rw (c.new.ensures.items, c.new-2.ensures.items, c.new-3.ensures.items) KeepsLimits-nothing
