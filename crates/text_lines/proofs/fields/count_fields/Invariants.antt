use Rattle.std.proofs.Common.{◌≡◌, ◌+◌, ◌≤◌, length}
use Rattle.text_lines.specs.Lines.{fields_of}
use Rattle.text_lines.proofs.fields.count_fields.Given as goal

abbrev pub invariant-loop-after : goal.invariant-loop-after
invariant-loop-after l = (l.count + length (fields_of l.rest) ≡ length (fields_of l.line)) × (l.count + length l.rest ≤ length l.line)

abbrev pub decreases-loop-after : goal.decreases-loop-after
decreases-loop-after l = length l.rest
