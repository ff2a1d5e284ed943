-- The centre bound of a square. A straight cut takes, in place of a point's distance, its way along
-- one whole vector of length at most 2 ^ 20: 2 ^ 20 times the distance is at least that.
use Rattle.std.specs.Prelude.{ℕ, ◌==◌, nat_lt, ℤ, pos, ◌+ℤ◌, ◌-ℤ◌, ◌*ℤ◌, int_div, int_lt}
use Rattle.std.specs.Prelude.{Bool, false, not, ◌&&◌, if◌then◌else◌, is_some, List, map, filter}
use Rattle.std.specs.Int.{int_div_euclid, int_max}
use Rattle.siting_definitions.specs.declared.Kind.{Kind}
use Rattle.siting_definitions.specs.declared.Kind.TheVariants.{Sum, Max}
use Rattle.siting_definitions.specs.Integer.{least}
use Rattle.siting_definitions.specs.Root.{ceil_root}
use Rattle.siting_definitions.specs.Point.{Place, Pt, point_of}
use Rattle.siting_definitions.specs.Instance.{DemandPt, Instance, place_of}
use Rattle.siting_definitions.specs.Cost.{distance2, total}
use Rattle.siting_definitions.specs.Square.{Square, corners, centre_of}
use Rattle.siting_definitions.specs.Bounds.{fine_radius, fine_of}

-- a way, in grid units, or a direction
pub record Vector : Type 0 where
  pub x : ℤ
  pub y : ℤ

-- the scalar product
abbrev pub dot : Vector → Vector → ℤ
dot u v = u.x *ℤ v.x +ℤ u.y *ℤ v.y

-- the way from a place to a grid point
abbrev pub way_to : Place → Pt → Vector
way_to a z = record { x = z.x -ℤ pos 65536 *ℤ a.x; y = z.y -ℤ pos 65536 *ℤ a.y }

-- 2 ^ 20 times a number by the whole, rounded towards 0, and 0 where the whole is 0
abbrev pub share : ℤ → ℕ → ℤ
share z whole = if whole == 0 then pos 0 else int_div (pos 1048576 *ℤ z) (pos whole)

-- 2 ^ 20 times the way from a place to a grid point by its length, which is rounded up: it is no
-- longer than 2 ^ 20
unfoldable pub direction : Place → Pt → Vector
direction a z =
    let way = way_to a z in
    let whole = ceil_root (distance2 a (point_of z)) in
    record { x = share way.x whole; y = share way.y whole }

-- whether a point's distance is cut: the point attracts, and it has no cutoff
unfoldable pub is_straight : DemandPt → Bool
is_straight d = int_lt (pos 0) d.w && not (is_some d.cutoff)

-- the way from a point to z along the direction to m, in units of 1 / 2 ^ 20 grid units
unfoldable pub straight_way : Pt → Pt → DemandPt → ℤ
straight_way m z d = dot (direction (place_of d) m) (way_to (place_of d) z)

-- the sum over points of the weight times a number
abbrev pub weighted : (DemandPt → ℤ) → List DemandPt → ℤ
weighted f ds = total Sum (map (λ (d : DemandPt). d.w *ℤ f d) ds)

-- the sum over the straight points, with their directions to the centre, at the grid point z
abbrev pub straight_sum : Instance → Square → Pt → ℤ
straight_sum i s z = weighted (straight_way (centre_of s) z) (filter is_straight i.points)

-- the sum over all other points, with the radii of the fine bound, in units of 1 / 65536 grid units
abbrev pub other_sum : Instance → Square → ℤ
other_sum i s =
    weighted (λ d. pos (fine_radius s d)) (filter (λ d. not (is_straight d)) i.points)

-- the cut of a square of level above 0, in cost units: the least at a corner, rounded towards the
-- lesser number
unfoldable pub cut_of : Instance → Square → ℤ
cut_of i s =
    int_div_euclid (least (map (straight_sum i s) (corners s)) +ℤ pos 16 *ℤ other_sum i s)
    (pos 1048576)

-- whether there is a cut: of sums alone, and above level 0
abbrev pub has_cut : Kind → ℕ → Bool
has_cut Sum level = nat_lt 0 level
has_cut Max level = false

-- the centre bound of a square, in cost units: the greater of the fine bound and the cut, where
-- there is one
unfoldable pub centre_bound_of : Instance → Square → ℤ
centre_bound_of i s =
    if has_cut i.kind s.level then int_max (fine_of i s) (cut_of i s) else fine_of i s
