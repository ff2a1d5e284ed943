-- Chains: lists of directed edges, and how often they wind round a point.
use Rattle.std.specs.Prelude.{ℤ, pos, ◌-ℤ◌, ◌*ℤ◌, int_le, int_lt, Bool, not, ◌&&◌, List, map, flat_map, count_by, IsPermutation}
use Rattle.siting_definitions.specs.Point.{Place, Point, side}
use Rattle.siting_definitions.specs.Polygon.{edges}

-- an edge, from its start to its end
abbrev pub Edge : Type 0
Edge = Place × Place

-- the same edge in the opposite direction
abbrev pub reversed : Edge → Edge
reversed e = (e.1, e.0)

-- the edges of rings: of each ring from each vertex to the next one, and from the last to the first
abbrev pub edges_of : List (List Place) → List Edge
edges_of rings = flat_map edges rings

-- whether v is at the height of p or below
abbrev pub is_low : Place → Point → Bool
is_low v p = int_le (pos p.q *ℤ v.y) p.y

-- whether an edge rises past p, to the right of p: it starts at p's height or below, ends above it,
-- and p lies strictly to its left
abbrev pub rises : Edge → Point → Bool
rises e p = is_low e.0 p && not (is_low e.1 p) && int_lt (pos 0) (side e.0 e.1 p)

-- how often a chain winds round p, counter-clockwise: how many edges rise past p, to its right, less
-- how many fall
unfoldable pub winding : List Edge → Point → ℤ
winding es p =
    pos (count_by (λ (e : Edge). rises e p) es)
    -ℤ pos (count_by (λ (e : Edge). rises (reversed e) p) es)

-- edges that cancel: all of them, reversed, are the same edges in another order
abbrev pub Cancel : List Edge → Type 0
Cancel es = IsPermutation es (map reversed es)

-- a closed chain: the starts of its edges are the ends of its edges in another order
abbrev pub IsClosed : List Edge → Type 0
IsClosed es = IsPermutation (map (λ (e : Edge). e.0) es) (map (λ (e : Edge). e.1) es)
