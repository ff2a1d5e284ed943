-- Points of the plane, and the side of an edge on which a point lies.
use Rattle.std.specs.Prelude.{ℕ, ◌≤◌, ℤ, pos, ◌-ℤ◌, ◌*ℤ◌}
use Rattle.std.proofs.Common.{lit≤}
use Rattle.siting_definitions.specs.declared.TheConstants.{UNIT}

-- a point with whole coordinates, in lengths
pub record Place : Type 0 where
  pub x : ℤ
  pub y : ℤ

-- a point with whole coordinates, in grid units, of which UNIT make a length
pub record Pt : Type 0 where
  pub x : ℤ
  pub y : ℤ

-- the rational point (x / q, y / q), in lengths
pub record Point : Type 0 where
  pub x : ℤ
  pub y : ℤ
  pub q : ℕ
  pub q_pos : 1 ≤ q

-- a place as a grid point
abbrev pub grid : Place → Pt
grid v = record { x = pos UNIT *ℤ v.x; y = pos UNIT *ℤ v.y }

-- a grid point as a rational point
abbrev pub point_of : Pt → Point
point_of p = record { x = p.x; y = p.y; q = UNIT; q_pos = lit≤ tt }

-- the side of p on the edge from s to t, times q: above 0 to the left of the edge, 0 on its line,
-- below 0 to the right
unfoldable pub side : Place → Place → Point → ℤ
side s t p = (t.x -ℤ s.x) *ℤ (p.y -ℤ pos p.q *ℤ s.y) -ℤ (t.y -ℤ s.y) *ℤ (p.x -ℤ pos p.q *ℤ s.x)
