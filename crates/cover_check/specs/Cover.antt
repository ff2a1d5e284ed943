-- Covers: what a planner draws, triangles with owners, and the instance that is to hold it.
use Rattle.std.specs.Prelude.{◌≡◌, ℕ, ◌^◌, ◌<◌, ℤ, pos, neg_ℤ, ◌*ℤ◌, int_le, int_lt, Bool, true, List, [], ◌∷◌, ◌++◌, length, map, slice_index_or, Option, Some, None, All}
use Rattle.std.specs.List.{list_all, list_any}
use Rattle.siting_definitions.specs.Point.{Place, Point}
use Rattle.siting_definitions.specs.Polygon.{covers}
use Rattle.siting_definitions.specs.Instance.{Instance}
use Rattle.edge_chain.specs.Chain.{Edge, reversed, edges_of, Cancel}
use Rattle.edge_chain.specs.Triangle.{Triangle, corners, is_counter_clockwise, triangle_edges}
use Rattle.edge_chain.specs.Piece.{at}
use Rattle.edge_chain.specs.Line.{HalfPlane, value}
use Rattle.edge_chain.specs.Wanted.{IsUnwanted}

-- a closed box, in fine units
pub record Tile : Type 0 where
  pub x0 : ℤ
  pub y0 : ℤ
  pub x1 : ℤ
  pub y1 : ℤ

-- a triangle, the index of the permitted polygon that is to hold it, or none, if it lies outside of
-- the tile, and the line that says it
pub record Owned : Type 0 where
  pub triangle : Triangle
  pub owner : Option ℕ
  pub line : ℕ

-- a length of the instance is 2 ^ shift fine units; all the rest is in fine units
pub record Cover : Type 0 where
  pub shift : ℕ
  pub tile : Tile
  pub region : List (List Place)
  pub forbidden : List (List Place)
  pub triangles : List Owned
  pub instance : Instance

-- a place in fine units
abbrev pub fine : ℕ → Place → Place
fine shift v = record { x = pos (2 ^ shift) *ℤ v.x; y = pos (2 ^ shift) *ℤ v.y }

-- a point in fine units
abbrev pub fine_point : ℕ → Point → Point
fine_point shift p =
    record {
      x = pos (2 ^ shift) *ℤ p.x;
      y = pos (2 ^ shift) *ℤ p.y;
      q = p.q;
      q_pos = p.q_pos;
    }

-- the half planes to the right of the left side, to the left of the right side, and so on
abbrev pub sides : Tile → List HalfPlane
sides t =
    record { u = pos 1; v = pos 0; w = neg_ℤ t.x0 }
    ∷ record { u = neg_ℤ (pos 1); v = pos 0; w = t.x1 }
    ∷ record { u = pos 0; v = pos 1; w = neg_ℤ t.y0 }
    ∷ record { u = pos 0; v = neg_ℤ (pos 1); w = t.y1 }
    ∷ []

-- whether a tile holds p
abbrev pub lies_in : Tile → Point → Bool
lies_in t p = list_all (λ (h : HalfPlane). int_le (pos 0) (value h p)) (sides t)

-- whether all corners of a triangle lie strictly beyond one side of a tile
abbrev pub is_beyond : Tile → Triangle → Bool
is_beyond tile t =
    list_any (λ (h : HalfPlane). list_all (λ v. int_lt (value h (at v)) (pos 0)) (corners t))
    (sides tile)

-- the permitted polygon with this index, in fine units
abbrev pub polygon : Cover → ℕ → List Place
polygon c n = map (fine c.shift) (slice_index_or c.instance.permitted n [])

-- the owner holds the corners, or the triangle lies beyond a side of the tile
abbrev pub IsHeldBy : Cover → Triangle → Option ℕ → Type 0
IsHeldBy c t None = is_beyond c.tile t ≡ true
IsHeldBy c t (Some n) =
    (n < length c.instance.permitted)
    × (list_all (λ v. covers (polygon c n) (at v)) (corners t) ≡ true)

-- the edges of the triangles, and those of the region reversed
abbrev pub cover_edges : Cover → List Edge
cover_edges c =
    triangle_edges (map (λ (o : Owned). o.triangle) c.triangles)
    ++ map reversed (edges_of c.region)

-- what tells that an instance holds the planner's points
pub record IsCover (c : Cover) : Type 0 where
  pub edges : Cancel (cover_edges c)
  pub triangles :
      All (λ (o : Owned). is_counter_clockwise o.triangle ≡ true → IsHeldBy c o.triangle o.owner)
      c.triangles
  pub pieces :
      All (λ vs. IsUnwanted (edges_of c.region) (edges_of c.forbidden) (map (fine c.shift) vs))
      c.instance.forbidden
