-- Instances, and their limits.
use Rattle.std.specs.Prelude.{◌≢◌, ℕ, ◌≤◌, ℤ, pos, ◌≤ℤ◌, unsigned_abs, List}
use Rattle.std.specs.Prelude.{length, All, sum_by, Option, MatchOption, ⊤}
use Rattle.siting_definitions.specs.declared.Kind.{Kind}
use Rattle.siting_definitions.specs.declared.TheConstants.{COORDINATE_LIMIT, WEIGHT_LIMIT}
use Rattle.siting_definitions.specs.declared.TheConstants.{CUTOFF_LIMIT, POINT_LIMIT}
use Rattle.siting_definitions.specs.declared.TheConstants.{POLYGON_LIMIT, VERTEX_LIMIT}
use Rattle.siting_definitions.specs.Point.{Place}
use Rattle.siting_definitions.specs.Polygon.{IsConvex}

-- a demand point: its place in lengths, its weight, and its cutoff in lengths, if it has one: a
-- distance above it counts as it
pub record DemandPt : Type 0 where
  pub x : ℤ
  pub y : ℤ
  pub w : ℤ
  pub cutoff : Option ℤ

-- how the terms are joined, the demand points, and the polygons in which a site may stand and may
-- not
pub record Instance : Type 0 where
  pub kind : Kind
  pub points : List DemandPt
  pub permitted : List (List Place)
  pub forbidden : List (List Place)

-- where a demand point lies
abbrev pub place_of : DemandPt → Place
place_of d = record { x = d.x; y = d.y }

-- the sum of the sizes of the weights
unfoldable pub weight : List DemandPt → ℕ
weight ds = sum_by (λ (d : DemandPt). unsigned_abs d.w) ds

-- a coordinate within the limit, in lengths
abbrev pub IsCoordinate : ℤ → Type 0
IsCoordinate z = unsigned_abs z ≤ COORDINATE_LIMIT

-- a place within the limit
pub record IsPlace (v : Place) : Type 0 where
  pub x : IsCoordinate v.x
  pub y : IsCoordinate v.y

-- a demand point within the limits
pub record IsDemandPt (d : DemandPt) : Type 0 where
  pub x : IsCoordinate d.x
  pub y : IsCoordinate d.y
  pub w : unsigned_abs d.w ≤ WEIGHT_LIMIT
  pub w_not_zero : d.w ≢ pos 0
  pub cutoff : MatchOption d.cutoff ⊤ (λ c. (pos 1 ≤ℤ c) × (c ≤ℤ pos CUTOFF_LIMIT))

-- a convex polygon within the limits
pub record IsPolygon (vs : List Place) : Type 0 where
  pub few : 3 ≤ length vs
  pub many : length vs ≤ VERTEX_LIMIT
  pub places : All IsPlace vs
  pub convex : IsConvex vs

-- an instance within the limits
pub record IsInstance (i : Instance) : Type 0 where
  pub few_points : 1 ≤ length i.points
  pub many_points : length i.points ≤ POINT_LIMIT
  pub points : All IsDemandPt i.points
  pub weight : weight i.points ≤ WEIGHT_LIMIT
  pub few_permitted : 1 ≤ length i.permitted
  pub many_permitted : length i.permitted ≤ POLYGON_LIMIT
  pub permitted : All IsPolygon i.permitted
  pub many_forbidden : length i.forbidden ≤ POLYGON_LIMIT
  pub forbidden : All IsPolygon i.forbidden
