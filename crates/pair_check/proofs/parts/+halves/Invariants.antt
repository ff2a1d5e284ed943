use Rattle.std.specs.Prelude.{◌+◌, ◌*◌}
use Rattle.pair_check.proofs.parts.+halves.Given as goal

abbrev pub decreases-check_parts : goal.decreases-check_parts
decreases-check_parts g l = 2 * l.parts

abbrev pub decreases-low_parts : goal.decreases-low_parts
decreases-low_parts g l = 2 * l.low + 1

abbrev pub decreases-high_parts : goal.decreases-high_parts
decreases-high_parts g l = 2 * l.high + 1
