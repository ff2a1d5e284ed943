use Rattle.std.proofs.Common.{◌≡◌, ℕ, ◌<◌, false, get_or}
use Rattle.text_lines.specs.Lines.{is_gap}
use Rattle.text_lines.proofs.fields.field_end.Given as goal

abbrev pub invariant-loop-i : goal.invariant-loop-i
invariant-loop-i l = (k : ℕ) → k < l.i → is_gap (get_or l.start k 0) ≡ false
