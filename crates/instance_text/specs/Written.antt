-- The parts of a canonical text.
use Rattle.std.specs.Prelude.{ℕ, List, [], ◌∷◌, ◌++◌, codes}
use Rattle.std.specs.List.{flat_map}
use Rattle.std.specs.Fmt.{signed_decimal}
use Rattle.siting_definitions.specs.Point.{Place}
use Rattle.siting_definitions.specs.Instance.{DemandPt, Instance}
use Rattle.siting_definitions.specs.Line.{line_text}
use Rattle.siting_definitions.specs.InstanceText.{version_field, kind_field, point_line}
use Rattle.siting_definitions.specs.InstanceText.{polygon_line}

-- the header and the kind
abbrev pub front_text : Instance → List ℕ
front_text i =
    line_text (codes "siting" ∷ version_field i ∷ [])
    ++ line_text (codes "kind" ∷ kind_field i.kind ∷ [])

abbrev pub point_text : DemandPt → List ℕ
point_text d = line_text (point_line d)

-- fields after the first one of a line
abbrev pub after_spaces : List (List ℕ) → List ℕ
after_spaces fields = flat_map (λ (field : List ℕ). 32 ∷ field) fields

-- a vertex on the line of a polygon
abbrev pub vertex_text : Place → List ℕ
vertex_text v = after_spaces (signed_decimal v.x ∷ signed_decimal v.y ∷ [])

abbrev pub polygon_text : List ℕ → List Place → List ℕ
polygon_text word vs = line_text (polygon_line word vs)
