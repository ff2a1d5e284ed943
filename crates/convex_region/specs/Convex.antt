-- A test of convexity.
use Rattle.std.specs.Prelude.{ℕ, zero, suc, ◌==◌, Bool, true, ◌&&◌, ◌||◌, pos, int_lt, List, length}
use Rattle.siting_definitions.specs.Point.{Place, grid, point_of, side}
use Rattle.siting_definitions.specs.Polygon.{vertex, next_of}

-- whether a test passes at each number below n
abbrev pub all_below : (ℕ → Bool) → ℕ → Bool
all_below test zero = true
all_below test (suc n) = test n && all_below test n

-- whether vertex j is the start or the end of edge i, or lies strictly to the left of it
abbrev pub is_end_or_left : List Place → ℕ → ℕ → Bool
is_end_or_left vs i j =
    (j == i)
    || ((j == next_of (length vs) i)
    || int_lt (pos 0)
    (side (vertex vs i) (vertex vs (next_of (length vs) i)) (point_of (grid (vertex vs j)))))

-- whether each vertex lies strictly to the left of each edge that has it as neither start nor end
abbrev pub is_convex : List Place → Bool
is_convex vs = all_below (λ i. all_below (λ j. is_end_or_left vs i j) (length vs)) (length vs)
