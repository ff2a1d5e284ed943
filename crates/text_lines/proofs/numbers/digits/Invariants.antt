use Rattle.std.proofs.Common.{◌≡◌, true, take}
use Rattle.std.specs.List.{list_all}
use Rattle.std.specs.Char.{is_ascii_digit}
use Rattle.text_lines.specs.Numbers.{value_of, saturated}
use Rattle.text_lines.proofs.numbers.digits.Given as goal

abbrev pub invariant-loop-byte : goal.invariant-loop-byte
invariant-loop-byte l = (list_all is_ascii_digit (take l.byte-index l.field) ≡ true) × (l.value ≡ saturated (value_of (take l.byte-index l.field)))
