-- Where a list of places fails to be convex, and what building a polygon answers.
use Rattle.std.specs.Prelude.{◌≡◌, ◌≢◌, ℕ, ◌<◌, ◌≤◌, pos, ◌≤ℤ◌, ◌⊎◌, List, length, Result, Ok, Err}
use Rattle.siting_definitions.specs.Point.{Place, grid, point_of, side}
use Rattle.siting_definitions.specs.Polygon.{vertex, next_of, turned}
use Rattle.siting_definitions.specs.Instance.{IsPolygon}
use Rattle.siting_definitions.specs.declared.TheConstants.{VERTEX_LIMIT}
use Rattle.convex_region.specs.declared.build.PolygonFault.{PolygonFault}
use Rattle.convex_region.specs.declared.build.PolygonFault.TheVariants.{TooFewVertices}
use Rattle.convex_region.specs.declared.build.PolygonFault.TheVariants.{TooManyVertices}
use Rattle.convex_region.specs.declared.build.PolygonFault.TheVariants.{NoMemory, NotConvex}

-- vertex j is neither start nor end of edge i, and doesn't lie strictly to its left
pub record IsDent (vs : List Place) (i j : ℕ) : Type 0 where
  pub edge : i < length vs
  pub within : j < length vs
  pub not_start : j ≢ i
  pub not_end : j ≢ next_of (length vs) i
  pub beside : side (vertex vs i) (vertex vs (next_of (length vs) i))
      (point_of (grid (vertex vs j))) ≤ℤ pos 0

-- the first dent, in order of edge and then vertex
pub record IsFirstDent (vs : List Place) (i j : ℕ) : Type 0 where
  pub dent : IsDent vs i j
  pub first : (k l : ℕ) → IsDent vs k l → (i < k) ⊎ ((i ≡ k) × (j ≤ l))

-- the answer of building a polygon: each fault where it is the first that fits, and else the turned
-- list
abbrev pub Builds : List Place → Result (List Place) PolygonFault → Type 0
Builds corners (Ok polygon) = (polygon ≡ turned corners) × IsPolygon polygon
Builds corners (Err TooFewVertices) = length corners < 3
Builds corners (Err TooManyVertices) = VERTEX_LIMIT < length corners
Builds corners (Err NoMemory) = (3 ≤ length corners) × (length corners ≤ VERTEX_LIMIT)
Builds corners (Err (NotConvex edge vertex)) =
    (3 ≤ length corners) × (length corners ≤ VERTEX_LIMIT)
    × IsFirstDent (turned corners) edge vertex
