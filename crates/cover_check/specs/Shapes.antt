-- Limits of what a cover is made of.
use Rattle.edge_chain.specs.Limits.{IsCoordinate}
use Rattle.cover_check.specs.Cover.{Tile}

-- a tile whose sides are within the limit of coordinates
pub record IsTile (t : Tile) : Type 0 where
  pub x0 : IsCoordinate t.x0
  pub y0 : IsCoordinate t.y0
  pub x1 : IsCoordinate t.x1
  pub y1 : IsCoordinate t.y1
