-- Turns to the left in a list of places.
use Rattle.std.specs.Prelude.{ℕ, ◌-◌, pos, ◌<ℤ◌, List}
use Rattle.siting_definitions.specs.Point.{Place, grid, point_of, side}
use Rattle.siting_definitions.specs.Polygon.{vertex}

-- c lies strictly to the left of the edge from a to b
abbrev pub IsLeft : Place → Place → Place → Type 0
IsLeft a b c = (pos 0) <ℤ side a b (point_of (grid c))

-- the polygon of the vertices up to vertex i turns left at vertex i, at the vertex before it and at
-- vertex 0
pub record TurnsLeft (vs : List Place) (i : ℕ) : Type 0 where
  pub before : IsLeft (vertex vs (i - 2)) (vertex vs (i - 1)) (vertex vs i)
  pub last : IsLeft (vertex vs (i - 1)) (vertex vs i) (vertex vs 0)
  pub first : IsLeft (vertex vs i) (vertex vs 0) (vertex vs 1)
