-- Points whose coordinates are whole thirds.
use Rattle.std.specs.Prelude.{ℤ}
use Rattle.std.proofs.Common.{lit≤}
use Rattle.siting_definitions.specs.Point.{Point}

-- x and y, in thirds
pub record Thirds : Type 0 where
  pub x : ℤ
  pub y : ℤ

-- such a point as a rational point
abbrev pub thirds : Thirds → Point
thirds p = record { x = p.x; y = p.y; q = 3; q_pos = lit≤ tt }
