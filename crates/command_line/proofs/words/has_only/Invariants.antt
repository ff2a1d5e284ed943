use Rattle.std.proofs.Common.{◌≡◌, map, drop}
use Rattle.command_line.specs.Settings.{has_only, rule_of}
use Rattle.command_line.proofs.words.has_only.Given as goal

abbrev pub invariant-loop-i : goal.invariant-loop-i
invariant-loop-i l = has_only (map rule_of l.settings) (drop l.i l.words) ≡ has_only (map rule_of l.settings) (drop 1 l.words)
