-- How far a place can lie from a point of a square or from a site.
use Rattle.std.specs.Prelude.{ℕ, ◌+◌, ◌*◌, ◌^◌, ◌≤◌, ℤ, unsigned_abs}
use Rattle.siting_definitions.specs.declared.TheConstants.{COORDINATE_LIMIT, UNIT}

-- in grid units, and on one axis: from a border of the squares to the limit of coordinates
abbrev pub longest_way : ℕ
longest_way = 2 ^ 38 + UNIT * COORDINATE_LIMIT

-- in grid units, a little more than the diagonal of a box with sides of the longest way
abbrev pub longest : ℕ
longest = 482000000000

-- a coordinate, in grid units, of a point of a square or of a site
abbrev pub IsWithinSquares : ℤ → Type 0
IsWithinSquares z = unsigned_abs z ≤ 2 ^ 38
