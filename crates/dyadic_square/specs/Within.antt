-- Squares that lie within another.
use Rattle.std.specs.Prelude.{◌^◌, ◌≤◌, pos, ◌+ℤ◌, ◌≤ℤ◌}
use Rattle.siting_definitions.specs.Square.{Square}

-- the closed square s lies within the closed square root, and isn't larger
pub record LiesWithin (root s : Square) : Type 0 where
  pub level : s.level ≤ root.level
  pub left : root.x ≤ℤ s.x
  pub right : (s.x +ℤ pos (2 ^ s.level)) ≤ℤ (root.x +ℤ pos (2 ^ root.level))
  pub lower : root.y ≤ℤ s.y
  pub upper : (s.y +ℤ pos (2 ^ s.level)) ≤ℤ (root.y +ℤ pos (2 ^ root.level))
