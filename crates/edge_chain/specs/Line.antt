-- Half planes, and edges beside a line.
use Rattle.std.specs.Prelude.{ℤ, pos, ◌+ℤ◌, ◌*ℤ◌, ◌≤ℤ◌}
use Rattle.siting_definitions.specs.Point.{Place, Point, side}
use Rattle.edge_chain.specs.Chain.{Edge}
use Rattle.edge_chain.specs.Piece.{at}

-- the points (x, y) with u x + v y + w >= 0
pub record HalfPlane : Type 0 where
  pub u : ℤ
  pub v : ℤ
  pub w : ℤ

-- u x + v y + w at p, times p's denominator
abbrev pub value : HalfPlane → Point → ℤ
value h p = h.u *ℤ p.x +ℤ h.v *ℤ p.y +ℤ h.w *ℤ pos p.q

-- the half plane holds p
abbrev pub Holds : HalfPlane → Point → Type 0
Holds h p = pos 0 ≤ℤ value h p

-- both ends of an edge lie on the line from u to v or to its right
pub record IsBeside (u v : Place) (e : Edge) : Type 0 where
  pub start : side u v (at e.0) ≤ℤ pos 0
  pub end : side u v (at e.1) ≤ℤ pos 0
