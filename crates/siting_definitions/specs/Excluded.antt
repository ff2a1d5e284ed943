-- Squares of which no point is permitted, by a test on corners.
use Rattle.std.specs.Prelude.{pos, ◌*ℤ◌, int_lt, Bool, ◌||◌, List, map}
use Rattle.std.specs.List.{list_all, list_any}
use Rattle.siting_definitions.specs.declared.TheConstants.{UNIT}
use Rattle.siting_definitions.specs.Integer.{least, greatest}
use Rattle.siting_definitions.specs.Point.{Place, point_of, side}
use Rattle.siting_definitions.specs.Polygon.{edges, covers_inside}
use Rattle.siting_definitions.specs.Instance.{Instance}
use Rattle.siting_definitions.specs.Square.{Square, Extent, extent_of, corners}

-- the bounding box of a polygon
unfoldable pub box_of : List Place → Extent
box_of vs =
    record {
      x0 = pos UNIT *ℤ least (map (λ (v : Place). v.x) vs);
      y0 = pos UNIT *ℤ least (map (λ (v : Place). v.y) vs);
      x1 = pos UNIT *ℤ greatest (map (λ (v : Place). v.x) vs);
      y1 = pos UNIT *ℤ greatest (map (λ (v : Place). v.y) vs);
    }

-- whether two boxes have no point in common
abbrev pub boxes_apart : Extent → Extent → Bool
boxes_apart a b = int_lt a.x1 b.x0 || int_lt b.x1 a.x0 || int_lt a.y1 b.y0 || int_lt b.y1 a.y0

-- whether the square lies strictly to the right of the edge
abbrev pub is_right_of : Place → Place → Square → Bool
is_right_of a b s = list_all (λ c. int_lt (side a b (point_of c)) (pos 0)) (corners s)

-- whether a permitted polygon is strictly apart from the closed square, by their boxes or by one of
-- its edges
unfoldable pub is_apart : List Place → Square → Bool
is_apart vs s =
    boxes_apart (box_of vs) (extent_of s)
    || list_any (λ (e : Place × Place). is_right_of e.0 e.1 s) (edges vs)

-- whether a forbidden polygon has all four corners of the square in its interior
unfoldable pub encloses : List Place → Square → Bool
encloses vs s = list_all (λ c. covers_inside vs (point_of c)) (corners s)

-- whether each permitted polygon is apart from the square, or some forbidden one encloses it
unfoldable pub is_excluded : Instance → Square → Bool
is_excluded i s =
    list_all (λ vs. is_apart vs s) i.permitted || list_any (λ vs. encloses vs s) i.forbidden
