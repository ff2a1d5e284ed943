-- The points that a planner asks for, and the pieces without any.
use Rattle.std.specs.Prelude.{List, ◌++◌, map, pos, ◌<ℤ◌, ◌≤ℤ◌, ◌⊎◌}
use Rattle.siting_definitions.specs.Point.{Place, Point}
use Rattle.edge_chain.specs.Chain.{Edge, reversed, winding}
use Rattle.edge_chain.specs.Piece.{IsClear, inner_point}

-- inside the region and outside the forbidden areas
pub record IsWanted (region forbidden : List Edge) (p : Point) : Type 0 where
  pub inside : pos 0 <ℤ winding region p
  pub outside : winding forbidden p ≤ℤ pos 0

-- the edges of the region, and those of the forbidden areas reversed
abbrev pub rest_of : List Edge → List Edge → List Edge
rest_of region forbidden = region ++ map reversed forbidden

-- a piece in whose interior no point is wanted: no edge of the forbidden areas meets it, and they
-- wind round it; or none of the region, which doesn't; or none of both, taken together, and the
-- region doesn't wind round it more often than the forbidden areas
abbrev pub IsUnwanted : List Edge → List Edge → List Place → Type 0
IsUnwanted region forbidden vs =
    (IsClear vs forbidden × (pos 0 <ℤ winding forbidden (inner_point vs)))
    ⊎ ((IsClear vs region × (winding region (inner_point vs) ≤ℤ pos 0))
    ⊎ (IsClear vs (rest_of region forbidden)
    × (winding (rest_of region forbidden) (inner_point vs) ≤ℤ pos 0)))
