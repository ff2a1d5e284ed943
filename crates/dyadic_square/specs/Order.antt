-- The order of squares along the z curve of a root.
use Rattle.std.specs.Prelude.{ℕ, zero, suc, ◌+◌, ◌-◌, ◌*◌, ◌/◌, ◌%◌, ℤ, ◌-ℤ◌, unsigned_abs}
use Rattle.siting_definitions.specs.Square.{Square}

-- the low n bits of a, the bit of place i at place 2 * i
unfoldable pub spread : ℕ → ℕ → ℕ
spread zero a = 0
spread (suc n) a = 4 * spread n (a / 2) + a % 2

-- how far a lies from b
abbrev pub way_between : ℤ → ℤ → ℕ
way_between a b = unsigned_abs (a -ℤ b)

-- the bits of both ways from the root's corner to the square's, each bit of y above the bit of x of
-- its place
unfoldable pub z_of : Square → Square → ℕ
z_of root s = spread 40 (way_between s.x root.x) + 2 * spread 40 (way_between s.y root.y)

-- one number for the order by z, and of two squares with one z the larger first
unfoldable pub rank_of : Square → Square → ℕ
rank_of root s = 64 * z_of root s + (63 - s.level)
