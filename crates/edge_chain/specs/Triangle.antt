-- Triangles, of either turn.
use Rattle.std.specs.Prelude.{pos, int_lt, Bool, List, [], ◌∷◌, flat_map}
use Rattle.siting_definitions.specs.Point.{Place}
use Rattle.siting_definitions.specs.Polygon.{edges, doubled_area}
use Rattle.edge_chain.specs.Chain.{Edge}

-- three corners, in order
pub record Triangle : Type 0 where
  pub a : Place
  pub b : Place
  pub c : Place

-- the corners as a ring
abbrev pub corners : Triangle → List Place
corners t = t.a ∷ t.b ∷ t.c ∷ []

-- whether the corners stand counter-clockwise; a clockwise and a flat triangle don't
abbrev pub is_counter_clockwise : Triangle → Bool
is_counter_clockwise t = int_lt (pos 0) (doubled_area (corners t))

-- the edges of triangles
abbrev pub triangle_edges : List Triangle → List Edge
triangle_edges ts = flat_map (λ (t : Triangle). edges (corners t)) ts
