-- The limits of coordinates.
use Rattle.std.specs.Prelude.{◌^◌, ◌≤◌, ℤ, unsigned_abs}
use Rattle.siting_definitions.specs.Point.{Place}
use Rattle.edge_chain.specs.Thirds.{Thirds}

-- at most 2 ^ 40 in size
abbrev pub IsCoordinate : ℤ → Type 0
IsCoordinate z = unsigned_abs z ≤ 2 ^ 40

-- a place whose coordinates are
pub record IsVertex (v : Place) : Type 0 where
  pub x : IsCoordinate v.x
  pub y : IsCoordinate v.y

-- at most 3 * 2 ^ 40 in size
pub record AreThirds (p : Thirds) : Type 0 where
  pub x : unsigned_abs p.x ≤ 3298534883328
  pub y : unsigned_abs p.y ≤ 3298534883328
