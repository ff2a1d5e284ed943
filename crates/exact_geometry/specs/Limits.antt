-- The limits of grid points and of sides.
use Rattle.std.specs.Prelude.{◌^◌, ◌≤◌, ℤ, unsigned_abs}
use Rattle.siting_definitions.specs.Point.{Pt}

-- at most 2 ^ 39 in size
abbrev pub IsGridCoordinate : ℤ → Type 0
IsGridCoordinate z = unsigned_abs z ≤ 2 ^ 39

-- a grid point whose coordinates are
pub record IsPt (p : Pt) : Type 0 where
  pub x : IsGridCoordinate p.x
  pub y : IsGridCoordinate p.y
