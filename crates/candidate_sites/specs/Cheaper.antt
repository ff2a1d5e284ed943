-- The cheaper of two sites, each with its cost.
use Rattle.std.specs.Prelude.{ℤ, int_le, if◌then◌else◌, Option, Some, None}
use Rattle.siting_definitions.specs.Point.{Place, Pt, grid, point_of}
use Rattle.siting_definitions.specs.Instance.{Instance}
use Rattle.siting_definitions.specs.Permitted.{permits}
use Rattle.siting_definitions.specs.Bounds.{upper_of}

-- z with its cost where that is less than the cost of what was found, and else what was found
abbrev pub cheaper_of : (Pt → ℤ) → Option (Pt × ℤ) → Pt → Option (Pt × ℤ)
cheaper_of cost None z = Some (z, cost z)
cheaper_of cost (Some found) z =
    if int_le found.1 (cost z) then Some found else Some (z, cost z)

-- the same by upper costs, where z has to be permitted
abbrev pub cheaper_site : Instance → Option (Pt × ℤ) → Pt → Option (Pt × ℤ)
cheaper_site i found z = if permits i (point_of z) then cheaper_of (upper_of i) found z else found

-- the same of a vertex
abbrev pub cheaper_vertex : Instance → Option (Pt × ℤ) → Place → Option (Pt × ℤ)
cheaper_vertex i found v = cheaper_site i found (grid v)
