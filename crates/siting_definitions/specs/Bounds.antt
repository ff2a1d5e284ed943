-- The numbers that the solver computes: squared distances, bounds of a square, costs of a site.
use Rattle.std.specs.Prelude.{ℕ, ◌+◌, ◌*◌, ◌^◌, min, max, ℤ, pos, ◌+ℤ◌, ◌-ℤ◌, ◌*ℤ◌}
use Rattle.std.specs.Prelude.{int_lt, unsigned_abs, if◌then◌else◌, map, Option, Some, None}
use Rattle.std.specs.Int.{int_max}
use Rattle.siting_definitions.specs.declared.TheConstants.{UNIT}
use Rattle.siting_definitions.specs.Integer.{square_of, round_down, round_up}
use Rattle.siting_definitions.specs.Root.{floor_root, ceil_root}
use Rattle.siting_definitions.specs.Point.{Place, Pt, point_of}
use Rattle.siting_definitions.specs.Instance.{DemandPt, Instance, place_of}
use Rattle.siting_definitions.specs.Square.{Square}
use Rattle.siting_definitions.specs.Cost.{distance2, total_of}

-- on one axis, in grid units: how far a lies outside of the interval from low to low + len
abbrev pub near_on : ℤ → ℕ → ℤ → ℤ
near_on low len a = int_max (pos 0) (int_max (low -ℤ a) (a -ℤ (low +ℤ pos len)))

-- on one axis, in grid units: how far a lies from the farther end of that interval
abbrev pub far_on : ℤ → ℕ → ℤ → ℕ
far_on low len a = max (unsigned_abs (low -ℤ a)) (unsigned_abs ((low +ℤ pos len) -ℤ a))

-- the least squared distance from a to the closed square, in grid units squared
unfoldable pub near2 : Square → Place → ℕ
near2 s a =
    square_of (near_on s.x (2 ^ s.level) (pos UNIT *ℤ a.x))
    + square_of (near_on s.y (2 ^ s.level) (pos UNIT *ℤ a.y))

-- the greatest squared distance from a to the closed square, in grid units squared
unfoldable pub far2 : Square → Place → ℕ
far2 s a =
    far_on s.x (2 ^ s.level) (pos UNIT *ℤ a.x) * far_on s.x (2 ^ s.level) (pos UNIT *ℤ a.x)
    + far_on s.y (2 ^ s.level) (pos UNIT *ℤ a.y) * far_on s.y (2 ^ s.level) (pos UNIT *ℤ a.y)

-- the lesser of a radius and the cutoff; `unit` is how many of the radius's units make a length
abbrev pub capped : Option ℤ → ℕ → ℕ → ℕ
capped None unit r = r
capped (Some c) unit r = min r (unit * unsigned_abs c)

-- the first where the point attracts, the second where it repels
abbrev pub by_sign : DemandPt → ℕ → ℕ → ℕ
by_sign d attracting repelling = if int_lt (pos 0) d.w then attracting else repelling

-- in grid units
unfoldable pub coarse_radius : Square → DemandPt → ℕ
coarse_radius s d =
    by_sign d (capped d.cutoff UNIT (floor_root (near2 s (place_of d))))
    (capped d.cutoff UNIT (ceil_root (far2 s (place_of d))))

-- in units of 1 / UNIT grid units, as the two below
unfoldable pub fine_radius : Square → DemandPt → ℕ
fine_radius s d =
    by_sign d (capped d.cutoff (2 ^ 32) (floor_root (near2 s (place_of d) * 2 ^ 32)))
    (capped d.cutoff (2 ^ 32) (ceil_root (far2 s (place_of d) * 2 ^ 32)))

-- from the point z: rounded so that the cost comes out no more than it is
unfoldable pub lower_radius : Pt → DemandPt → ℕ
lower_radius z d =
    by_sign d (capped d.cutoff (2 ^ 32) (floor_root (distance2 (place_of d) (point_of z) * 2 ^ 32)))
    (capped d.cutoff (2 ^ 32) (ceil_root (distance2 (place_of d) (point_of z) * 2 ^ 32)))

-- from the point z: rounded so that the cost comes out no less than it is
unfoldable pub upper_radius : Pt → DemandPt → ℕ
upper_radius z d =
    by_sign d (capped d.cutoff (2 ^ 32) (ceil_root (distance2 (place_of d) (point_of z) * 2 ^ 32)))
    (capped d.cutoff (2 ^ 32) (floor_root (distance2 (place_of d) (point_of z) * 2 ^ 32)))

-- the coarse bound of a square, in cost units
unfoldable pub coarse_of : Instance → Square → ℤ
coarse_of i s = total_of i (map (coarse_radius s) i.points)

-- the fine bound of a square, in cost units
unfoldable pub fine_of : Instance → Square → ℤ
fine_of i s = round_down (total_of i (map (fine_radius s) i.points))

-- the lower cost of a site, in cost units
unfoldable pub lower_of : Instance → Pt → ℤ
lower_of i z = round_down (total_of i (map (lower_radius z) i.points))

-- the upper cost of a site, in cost units
unfoldable pub upper_of : Instance → Pt → ℤ
upper_of i z = round_up (total_of i (map (upper_radius z) i.points))
