use Rattle.std.proofs.Common.{◌≡◌, drop}
use Rattle.std.specs.Prelude.{filter_map}
use Rattle.command_line.specs.Settings.{value_in}
use Rattle.command_line.proofs.words.next_value.Given as goal

abbrev pub invariant-loop-i : goal.invariant-loop-i
invariant-loop-i l = filter_map (value_in l.name) (drop l.i l.words) ≡ filter_map (value_in l.name) (drop l.start l.words)
