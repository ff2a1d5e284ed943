-- Where a point lies beside the bounding box of places.
use Rattle.std.specs.Prelude.{pos, ◌*ℤ◌, ◌≤ℤ◌, List, map}
use Rattle.siting_definitions.specs.Integer.{least, greatest}
use Rattle.siting_definitions.specs.Point.{Place, Point}

-- p lies in the bounding box of the places
pub record LiesInBox (vs : List Place) (p : Point) : Type 0 where
  pub left : (pos p.q *ℤ least (map (λ (v : Place). v.x) vs)) ≤ℤ p.x
  pub lower : (pos p.q *ℤ least (map (λ (v : Place). v.y) vs)) ≤ℤ p.y
  pub right : p.x ≤ℤ (pos p.q *ℤ greatest (map (λ (v : Place). v.x) vs))
  pub upper : p.y ≤ℤ (pos p.q *ℤ greatest (map (λ (v : Place). v.y) vs))
