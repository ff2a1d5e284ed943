-- The canonical text of an instance.
use Rattle.std.specs.Prelude.{ℕ, ℤ, List, [], ◌∷◌, ◌++◌, map, flat_map, codes}
use Rattle.std.specs.Prelude.{Bool, if◌then◌else◌, is_some, Option, Some, None}
use Rattle.std.specs.List.{list_any}
use Rattle.std.specs.Fmt.{signed_decimal}
use Rattle.siting_definitions.specs.declared.Kind.{Kind}
use Rattle.siting_definitions.specs.declared.Kind.TheVariants.{Sum, Max}
use Rattle.siting_definitions.specs.Point.{Place}
use Rattle.siting_definitions.specs.Instance.{DemandPt, Instance}
use Rattle.siting_definitions.specs.Line.{text_of}

-- whether a point has a cutoff, which only version 2 of the texts can say
abbrev pub has_cutoff : Instance → Bool
has_cutoff i = list_any (λ (d : DemandPt). is_some d.cutoff) i.points

-- the version of the text that the instance needs
abbrev pub version_field : Instance → List ℕ
version_field i = if has_cutoff i then codes "2" else codes "1"

-- how each kind is written
abbrev pub kind_field : Kind → List ℕ
kind_field Sum = codes "sum"
kind_field Max = codes "max"

-- a cutoff as a field, or no field
abbrev pub cutoff_fields : Option ℤ → List (List ℕ)
cutoff_fields None = []
cutoff_fields (Some c) = signed_decimal c ∷ []

-- the line of a demand point
abbrev pub point_line : DemandPt → List (List ℕ)
point_line d =
    codes "point"
    ∷ signed_decimal d.x ∷ signed_decimal d.y ∷ signed_decimal d.w ∷ cutoff_fields d.cutoff

-- the line of a polygon, which begins with this word
abbrev pub polygon_line : List ℕ → List Place → List (List ℕ)
polygon_line word vs =
    word ∷ flat_map (λ (v : Place). signed_decimal v.x ∷ signed_decimal v.y ∷ []) vs

-- the lines of an instance, each as its fields: header, kind, points, permitted and forbidden
-- polygons, and the end
abbrev pub instance_lines : Instance → List (List (List ℕ))
instance_lines i =
    (codes "siting" ∷ version_field i ∷ [])
    ∷ (codes "kind" ∷ kind_field i.kind ∷ [])
    ∷ (map point_line i.points
    ++ (map (polygon_line (codes "permit")) i.permitted
    ++ (map (polygon_line (codes "forbid")) i.forbidden ++ (codes "end" ∷ []) ∷ [])))

-- the bytes of an instance
unfoldable pub instance_text : Instance → List ℕ
instance_text i = text_of (instance_lines i)
