-- Dyadic squares of the grid, and which rational points they hold.
use Rattle.std.specs.Prelude.{◌≡◌, ℕ, ◌-◌, ◌%◌, ◌^◌, ◌≤◌, ◌==◌, nat_le, ℤ, pos, ◌+ℤ◌, ◌*ℤ◌, ◌≤ℤ◌}
use Rattle.std.specs.Prelude.{int_le, int_lt, Bool, if◌then◌else◌, ◌&&◌, List, [], ◌∷◌, count_by}
use Rattle.siting_definitions.specs.declared.TheConstants.{UNIT}
use Rattle.siting_definitions.specs.Point.{Pt, Point}

-- the square with the lower left corner (x, y), in grid units, and a side of 2 ^ level grid units
pub record Square : Type 0 where
  pub x : ℤ
  pub y : ℤ
  pub level : ℕ

-- a square that lies within 2 ^ 38 grid units of both axes
pub record IsSquare (s : Square) : Type 0 where
  pub level : s.level ≤ 37
  pub left : pos 0 ≤ℤ (s.x +ℤ pos (2 ^ 38))
  pub right : (s.x +ℤ pos (2 ^ s.level)) ≤ℤ pos (2 ^ 38)
  pub lower : pos 0 ≤ℤ (s.y +ℤ pos (2 ^ 38))
  pub upper : (s.y +ℤ pos (2 ^ s.level)) ≤ℤ pos (2 ^ 38)

-- a closed box, in grid units
pub record Extent : Type 0 where
  pub x0 : ℤ
  pub y0 : ℤ
  pub x1 : ℤ
  pub y1 : ℤ

-- the closed square as a box
abbrev pub extent_of : Square → Extent
extent_of s =
    record { x0 = s.x; y0 = s.y; x1 = s.x +ℤ pos (2 ^ s.level); y1 = s.y +ℤ pos (2 ^ s.level) }

-- whether the coordinate v / q, in lengths, lies from low up to, but not at, low + len, in grid
-- units
abbrev pub spans : ℤ → ℕ → ℕ → ℤ → Bool
spans low len q v =
    int_le (pos q *ℤ low) (pos UNIT *ℤ v) && int_lt (pos UNIT *ℤ v) (pos q *ℤ (low +ℤ pos len))

-- the same, with low + len
abbrev pub spans_closed : ℤ → ℕ → ℕ → ℤ → Bool
spans_closed low len q v =
    int_le (pos q *ℤ low) (pos UNIT *ℤ v) && int_le (pos UNIT *ℤ v) (pos q *ℤ (low +ℤ pos len))

-- whether the half-open square holds p: it has its left and its lower border, and neither of the
-- others
unfoldable pub holds : Square → Point → Bool
holds s p = spans s.x (2 ^ s.level) p.q p.x && spans s.y (2 ^ s.level) p.q p.y

-- whether the closed square holds p
unfoldable pub holds_closed : Square → Point → Bool
holds_closed s p = spans_closed s.x (2 ^ s.level) p.q p.x && spans_closed s.y (2 ^ s.level) p.q p.y

-- each point that s holds is held by exactly one square of the list, and each other point by none
abbrev pub Tiles : List Square → Square → Type 0
Tiles list s =
    (p : Point) → count_by (λ (t : Square). holds t p) list ≡ (if holds s p then 1 else 0)

-- Corners and quarters are numbered 0 (left, lower), 1 (right, lower), 2 (left, upper),
-- 3 (right, upper).
abbrev pub is_right : ℕ → Bool
is_right i = i % 2 == 1

-- whether corner or quarter i is an upper one
abbrev pub is_upper : ℕ → Bool
is_upper i = nat_le 2 i

-- len on the far side, 0 on the near one
abbrev pub far_by : Bool → ℕ → ℕ
far_by far len = if far then len else 0

-- corner i of the closed square
abbrev pub corner_of : Square → ℕ → Pt
corner_of s i =
    record {
      x = s.x +ℤ pos (far_by (is_right i) (2 ^ s.level));
      y = s.y +ℤ pos (far_by (is_upper i) (2 ^ s.level));
    }

-- the four corners, in order
abbrev pub corners : Square → List Pt
corners s = corner_of s 0 ∷ corner_of s 1 ∷ corner_of s 2 ∷ corner_of s 3 ∷ []

-- quarter i of a square of level above 0
abbrev pub quarter_of : Square → ℕ → Square
quarter_of s i =
    record {
      x = s.x +ℤ pos (far_by (is_right i) (2 ^ (s.level - 1)));
      y = s.y +ℤ pos (far_by (is_upper i) (2 ^ (s.level - 1)));
      level = s.level - 1;
    }

-- the four quarters, in order
abbrev pub quarters : Square → List Square
quarters s = quarter_of s 0 ∷ quarter_of s 1 ∷ quarter_of s 2 ∷ quarter_of s 3 ∷ []

-- the centre of a square of level above 0
abbrev pub centre_of : Square → Pt
centre_of s = record { x = s.x +ℤ pos (2 ^ (s.level - 1)); y = s.y +ℤ pos (2 ^ (s.level - 1)) }
