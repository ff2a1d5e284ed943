-- What one pass over the points adds up for all four corners: the sum at the centre, and how fast
-- it grows to the right and upwards.
use Rattle.std.specs.Prelude.{ℤ, pos, ◌+ℤ◌, ◌*ℤ◌, if◌then◌else◌, List, [], ◌∷◌}
use Rattle.siting_definitions.specs.Point.{Pt}
use Rattle.siting_definitions.specs.Instance.{DemandPt, place_of}
use Rattle.siting_definitions.specs.Square.{Square, centre_of}
use Rattle.siting_definitions.specs.Bounds.{fine_radius}
use Rattle.centre_bound.specs.Cut.{Vector, direction, is_straight, straight_way}

-- the sum of a number of each point
abbrev pub sum_over : (DemandPt → ℤ) → List DemandPt → ℤ
sum_over f [] = pos 0
sum_over f (d ∷ ds) = f d +ℤ sum_over f ds

-- what a point adds at the grid point z
unfoldable pub term_at : Square → Pt → DemandPt → ℤ
term_at s z d =
    d.w
    *ℤ (if is_straight d then straight_way (centre_of s) z d else pos 16 *ℤ pos (fine_radius s d))

-- how fast it grows to the right, and how fast upwards
unfoldable pub slope_of : Square → DemandPt → Vector
slope_of s d =
    let v = direction (place_of d) (centre_of s) in
    if is_straight d then record { x = d.w *ℤ v.x; y = d.w *ℤ v.y }
    else record { x = pos 0; y = pos 0 }
