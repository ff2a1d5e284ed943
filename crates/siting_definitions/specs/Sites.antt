-- The root square, the opening site, the centre site of a square, and the gap asked.
use Rattle.std.specs.Prelude.{ℕ, ◌+◌, ◌*◌, ◌/◌, max, nat_lt, ℤ, pos, ◌-ℤ◌, ◌*ℤ◌, int_le}
use Rattle.std.specs.Prelude.{unsigned_abs, Bool, if◌then◌else◌, ◌&&◌, List, [], ◌∷◌}
use Rattle.std.specs.Prelude.{◌++◌, map, filter, flat_map, Option, Some, None, option_map}
use Rattle.std.specs.Float.Ieee.{size}
use Rattle.siting_definitions.specs.declared.TheConstants.{UNIT}
use Rattle.siting_definitions.specs.declared.GapRule.{GapRule}
use Rattle.siting_definitions.specs.declared.GapRule.TheVariants.{Fixed, Ppm}
use Rattle.siting_definitions.specs.Integer.{least, greatest}
use Rattle.siting_definitions.specs.Point.{Place, Pt, grid, point_of}
use Rattle.siting_definitions.specs.Instance.{Instance}
use Rattle.siting_definitions.specs.Permitted.{permits}
use Rattle.siting_definitions.specs.Square.{Square, centre_of}
use Rattle.siting_definitions.specs.Bounds.{upper_of}

-- the vertices of polygons, in order
abbrev pub vertices : List (List Place) → List Place
vertices vss = flat_map (λ vs. vs) vss

-- how far the numbers of a list are apart
abbrev pub range_of : List ℤ → ℕ
range_of zs = unsigned_abs (greatest zs -ℤ least zs)

-- the extent of the places in x or in y, whichever is greater, in lengths
abbrev pub span : List Place → ℕ
span vs = max (range_of (map (λ (v : Place). v.x) vs)) (range_of (map (λ (v : Place). v.y) vs))

-- The starting square: its corner is the least x and the least y of the permitted polygons, and its
-- side is the least power of two of whole lengths above their span. `size n` is how many binary
-- digits n has, so 2 ^ size n is the least power of two above n.
unfoldable pub root_of : Instance → Square
root_of i =
    let vs = vertices i.permitted in
    record {
      x = pos UNIT *ℤ least (map (λ (v : Place). v.x) vs);
      y = pos UNIT *ℤ least (map (λ (v : Place). v.y) vs);
      level = 16 + size (span vs);
    }

-- z, or y where y is there and costs less
abbrev pub cheaper : (Pt → ℤ) → Pt → Option Pt → Pt
cheaper cost z None = z
cheaper cost z (Some y) = if int_le (cost z) (cost y) then z else y

-- the first site of least cost
abbrev pub cheapest : (Pt → ℤ) → List Pt → Option Pt
cheapest cost [] = None
cheapest cost (z ∷ zs) = Some (cheaper cost z (cheapest cost zs))

-- the vertices of permitted polygons and then of forbidden ones that are permitted
abbrev pub candidates : Instance → List Pt
candidates i =
    filter (λ z. permits i (point_of z)) (map grid (vertices i.permitted ++ vertices i.forbidden))

-- the first permitted vertex of least upper cost, if a vertex is permitted
unfoldable pub opening_of : Instance → Option Pt
opening_of i = cheapest (upper_of i) (candidates i)

-- the upper cost of the opening, if there is one
abbrev pub opening_cost : Instance → Option ℤ
opening_cost i = option_map (upper_of i) (opening_of i)

-- whether a square has a centre site: its level is above 0, and its centre is permitted
unfoldable pub has_centre : Instance → Square → Bool
has_centre i s = nat_lt 0 s.level && permits i (point_of (centre_of s))

-- the centre of the square, where a site may stand there
abbrev pub centre_site_of : Instance → Square → Option Pt
centre_site_of i s = if has_centre i s then Some (centre_of s) else None

-- the upper cost of the centre site, if there is one
abbrev pub centre_cost : Instance → Square → Option ℤ
centre_cost i s = option_map (upper_of i) (centre_site_of i s)

-- the gap asked, from the opening's upper cost: without an opening, UNIT cost
-- units unless the gap is fixed
abbrev pub gap_of : GapRule → Option ℤ → ℤ
gap_of (Fixed gap) opening = gap
gap_of (Ppm ppm) None = pos UNIT
gap_of (Ppm ppm) (Some u) = pos (unsigned_abs u * ppm / 1000000)
