-- Polygons: lists of places, counter-clockwise. A polygon is closed.
use Rattle.std.specs.Prelude.{◌≢◌, ℕ, ◌+◌, ◌<◌, ◌==◌, ℤ, pos, ◌+ℤ◌, ◌-ℤ◌, ◌*ℤ◌, ◌<ℤ◌}
use Rattle.std.specs.Prelude.{int_le, int_lt, Bool, if◌then◌else◌, List, ◌++◌, length}
use Rattle.std.specs.Prelude.{take, drop, reverse, map, fold, zip, slice_index_or}
use Rattle.std.specs.List.{list_all}
use Rattle.siting_definitions.specs.Point.{Place, Point, grid, point_of, side}

-- the place (0, 0)
abbrev pub origin : Place
origin = record { x = pos 0; y = pos 0 }

-- vertex i, from 0; the origin where there is none
abbrev pub vertex : List Place → ℕ → Place
vertex vs i = slice_index_or vs i origin

-- the index of the vertex after vertex i of n
abbrev pub next_of : ℕ → ℕ → ℕ
next_of n i = if i + 1 == n then 0 else i + 1

-- the edges: from each vertex to the next one, and from the last to the first
abbrev pub edges : List Place → List (Place × Place)
edges vs = zip vs (drop 1 vs ++ take 1 vs)

-- each vertex lies strictly to the left of each edge that has it as neither start nor end
abbrev pub IsConvex : List Place → Type 0
IsConvex vs =
    (i j : ℕ) → i < length vs → j < length vs → j ≢ i → j ≢ next_of (length vs) i
    → pos 0
    <ℤ side (vertex vs i) (vertex vs (next_of (length vs) i)) (point_of (grid (vertex vs j)))

-- twice the signed area, in square lengths: above 0 where the polygon is counter-clockwise
unfoldable pub doubled_area : List Place → ℤ
doubled_area vs =
    fold ◌+ℤ◌ (pos 0) (map (λ (e : Place × Place). e.0.x *ℤ e.1.y -ℤ e.1.x *ℤ e.0.y) (edges vs))

-- the same polygon counter-clockwise: where the area is negative, the first vertex stays first and
-- the rest are reversed
unfoldable pub turned : List Place → List Place
turned vs = if int_lt (doubled_area vs) (pos 0) then take 1 vs ++ reverse (drop 1 vs) else vs

-- whether a polygon holds p: no side of p is below 0
unfoldable pub covers : List Place → Point → Bool
covers vs p = list_all (λ (e : Place × Place). int_le (pos 0) (side e.0 e.1 p)) (edges vs)

-- whether a polygon holds p in its interior: every side of p is above 0
unfoldable pub covers_inside : List Place → Point → Bool
covers_inside vs p = list_all (λ (e : Place × Place). int_lt (pos 0) (side e.0 e.1 p)) (edges vs)
