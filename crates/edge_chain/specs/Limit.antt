-- Points near a point, and limits.
use Rattle.std.specs.Prelude.{ℕ, ◌*◌, ◌≤◌, pos, ◌-ℤ◌, ◌*ℤ◌, unsigned_abs}
use Rattle.siting_definitions.specs.Point.{Point}

-- each coordinate of r differs from that of p by at most 1 / n
pub record IsNear (n : ℕ) (p r : Point) : Type 0 where
  pub x : n * unsigned_abs (p.x *ℤ pos r.q -ℤ r.x *ℤ pos p.q) ≤ p.q * r.q
  pub y : n * unsigned_abs (p.y *ℤ pos r.q -ℤ r.y *ℤ pos p.q) ≤ p.q * r.q

-- p is a limit of points of which P holds: however large n is, one of them is within 1 / n
abbrev pub IsLimit : (Point → Type 0) → Point → Type 0
IsLimit P p = (n : ℕ) → 1 ≤ n → (r : Point) × IsNear n p r × P r
