-- What a polygon's fields show.
use Rattle.std.specs.Prelude.{◌≡◌, List}
use Rattle.siting_definitions.specs.Point.{Place}
use Rattle.siting_definitions.specs.Square.{Extent}
use Rattle.siting_definitions.specs.Instance.{IsPolygon}
use Rattle.siting_definitions.specs.Excluded.{box_of}

-- the vertices are a polygon, and the box is theirs
pub record PolygonFits (vertices : List Place) (box : Extent) : Type 0 where
  pub polygon : IsPolygon vertices
  pub bounds : box ≡ box_of vertices
