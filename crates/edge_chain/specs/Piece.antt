-- Convex pieces, and the edges that stay out of a piece's interior.
use Rattle.std.specs.Prelude.{◌≤◌, pos, ◌+ℤ◌, int_le, Bool, not, ◌&&◌, ◌||◌, List, length, filter}
use Rattle.std.specs.List.{list_all, list_any}
use Rattle.std.proofs.Common.{lit≤}
use Rattle.siting_definitions.specs.Point.{Place, Point, side}
use Rattle.siting_definitions.specs.Polygon.{edges, vertex, IsConvex}
use Rattle.edge_chain.specs.Chain.{Edge, Cancel}

-- a place as a point
abbrev pub at : Place → Point
at v = record { x = v.x; y = v.y; q = 1; q_pos = lit≤ tt }

-- a convex polygon, counter-clockwise
pub record IsPiece (vs : List Place) : Type 0 where
  pub few : 3 ≤ length vs
  pub convex : IsConvex vs

-- whether p lies on the line of an edge or to its right
abbrev pub is_right : Edge → Point → Bool
is_right e p = int_le (side e.0 e.1 p) (pos 0)

-- whether p lies on the line of an edge or to its left
abbrev pub is_left : Edge → Point → Bool
is_left e p = int_le (pos 0) (side e.0 e.1 p)

-- whether an edge stays out of a piece's interior: both its ends lie on or to the right of one line
-- of the piece, or all corners of the piece lie on or to one side of the edge's line
abbrev pub is_clear : List Place → Edge → Bool
is_clear vs e =
    list_any (λ (k : Edge). is_right k (at e.0) && is_right k (at e.1)) (edges vs)
    || list_all (λ v. is_left e (at v)) vs
    || list_all (λ v. is_right e (at v)) vs

-- the edges of a chain that may meet the piece's interior cancel
abbrev pub IsClear : List Place → List Edge → Type 0
IsClear vs es = Cancel (filter (λ (e : Edge). not (is_clear vs e)) es)

-- the centroid of the first three corners, which lies in the piece's interior
abbrev pub inner_point : List Place → Point
inner_point vs =
    record {
      x = (vertex vs 0).x +ℤ (vertex vs 1).x +ℤ (vertex vs 2).x;
      y = (vertex vs 0).y +ℤ (vertex vs 1).y +ℤ (vertex vs 2).y;
      q = 3;
      q_pos = lit≤ tt;
    }
