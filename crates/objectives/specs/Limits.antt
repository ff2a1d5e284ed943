-- How great a cost can be.
use Rattle.std.specs.Prelude.{◌*◌, ◌≤◌, ℤ, unsigned_abs}
use Rattle.siting_definitions.specs.declared.TheConstants.{WEIGHT_LIMIT}
use Rattle.dist_bounds.specs.Limits.{longest}

-- in cost units, less than 1.7 times 2 ^ 62 in size: the sum of the weights' sizes times the
-- longest distance
abbrev pub IsCost : ℤ → Type 0
IsCost z = unsigned_abs z ≤ WEIGHT_LIMIT * longest
