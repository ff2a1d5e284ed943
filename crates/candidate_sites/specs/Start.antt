-- Where the search for the opening begins.
use Rattle.std.specs.Prelude.{nat_lt, ℤ, pos, ◌+ℤ◌, if◌then◌else◌}
use Rattle.std.specs.Prelude.{List, length, Option, option_map}
use Rattle.siting_definitions.specs.Point.{Place, Pt}
use Rattle.siting_definitions.specs.Polygon.{vertex}
use Rattle.siting_definitions.specs.Instance.{Instance}
use Rattle.candidate_sites.specs.Cheaper.{cheaper_vertex}
use Rattle.candidate_sites.specs.declared.cheapest.TheConstants.{MANY_VERTICES}

-- the first vertex of a polygon with many vertices, where it is cheaper than what was found
abbrev pub cheaper_start : Instance → Option (Pt × ℤ) → List Place → Option (Pt × ℤ)
cheaper_start i found vs =
    if nat_lt (length vs) MANY_VERTICES then found else cheaper_vertex i found (vertex vs 0)

-- the same site at a cost of one more
abbrev pub one_dearer : Option (Pt × ℤ) → Option (Pt × ℤ)
one_dearer found = option_map (λ b. (b.0, b.1 +ℤ pos 1)) found
