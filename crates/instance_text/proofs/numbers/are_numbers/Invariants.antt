use Rattle.std.proofs.Common.{◌≡◌, length}
use Rattle.text_lines.specs.Lines.{fields_of}
use Rattle.instance_text.specs.Rows.{are_numbers}
use Rattle.instance_text.proofs.numbers.are_numbers.Given as goal

abbrev pub invariant-loop-field : goal.invariant-loop-field
invariant-loop-field l = are_numbers (fields_of l.rest) ≡ are_numbers (fields_of l.fields)

abbrev pub decreases-loop-field : goal.decreases-loop-field
decreases-loop-field l = length l.rest
