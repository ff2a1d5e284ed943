-- A number that no point of a square costs more than, from the fine bound of the square alone.
use Rattle.std.specs.Prelude.{◌≡◌, ℕ, ◌+◌, ◌*◌, ◌/◌, ◌^◌, ℤ, pos, ◌+ℤ◌, true}
use Rattle.siting_definitions.specs.Point.{Point}
use Rattle.siting_definitions.specs.Instance.{Instance}
use Rattle.siting_definitions.specs.Cost.{CostAtMost}
use Rattle.siting_definitions.specs.Square.{Square, holds_closed}
use Rattle.siting_definitions.specs.Bounds.{fine_of}
use Rattle.objectives.specs.Steepness.{steepness_of}

-- a whole number of grid units that is above the square's diagonal: 17 / 12 is above the root of 2
unfoldable pub diagonal_of : Square → ℕ
diagonal_of s = 17 * 2 ^ s.level / 12 + 1

-- by how many cost units a point of the closed square costs more than the fine bound at most
unfoldable pub rise_of : Instance → Square → ℕ
rise_of i s = steepness_of i * diagonal_of s + 1

-- the ceiling of a square, in cost units
unfoldable pub ceiling_of : Instance → Square → ℤ
ceiling_of i s = fine_of i s +ℤ pos (rise_of i s)

-- no point of the closed square costs more than c
unfoldable pub NoneCostsMore : Instance → Square → ℤ → Type 0
NoneCostsMore i s c = (p : Point) → holds_closed s p ≡ true → CostAtMost i p c
