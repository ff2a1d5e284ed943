use Rattle.std.proofs.Common.{◌≡◌, map, drop}
use Rattle.command_line.specs.Settings as said
use Rattle.command_line.proofs.words.names_one.Given as goal

abbrev pub invariant-loop-setting : goal.invariant-loop-setting
invariant-loop-setting l = said.names_one (map said.rule_of (drop l.setting-index l.settings)) l.word ≡ said.names_one (map said.rule_of l.settings) l.word
