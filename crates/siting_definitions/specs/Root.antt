-- Whole square roots.
use Rattle.std.specs.Prelude.{ℕ, zero, suc, ◌+◌, ◌*◌, ◌/◌, ◌<◌, ◌≤◌, ◌==◌, nat_le, if◌then◌else◌}
use Rattle.std.specs.Float.Ieee.{size}

-- f is the root of m, rounded down
pub record IsFloorRoot (m f : ℕ) : Type 0 where
  pub at_most : f * f ≤ m
  pub next_above : m < (f + 1) * (f + 1)

-- c is the root of m, rounded up
pub record IsCeilRoot (m c : ℕ) : Type 0 where
  pub at_least : m ≤ c * c
  pub least : (d : ℕ) → m ≤ d * d → c ≤ d

-- the root of m, rounded down, where m has at most 2 n binary digits: two digits of m give one of
-- the root
unfoldable pub root_of_digits : ℕ → ℕ → ℕ
root_of_digits zero m = 0
root_of_digits (suc n) m =
    let r = 2 * root_of_digits n (m / 4) in
    if nat_le ((r + 1) * (r + 1)) m then r + 1 else r

-- the number f with IsFloorRoot m f
unfoldable pub floor_root : ℕ → ℕ
floor_root m = root_of_digits (size m) m

-- the number c with IsCeilRoot m c
unfoldable pub ceil_root : ℕ → ℕ
ceil_root m = let f = floor_root m in if f * f == m then f else f + 1
