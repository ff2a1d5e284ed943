-- Which texts are instance texts, and of which instance, by their rows: the fields of their lines.
use Rattle.std.specs.Prelude.{◌≡◌, ℕ, Bool, false, not, ◌||◌, if◌then◌else◌}
use Rattle.std.specs.Prelude.{IsTrue, List, [], ◌∷◌, ◌++◌, drop, map, codes, Ok}
use Rattle.std.specs.List.{filter, list_all}
use Rattle.std.specs.Str.{bytes_eq}
use Rattle.siting_definitions.specs.Instance.{Instance, IsInstance}
use Rattle.text_lines.specs.Lines.{is_passed_over}
use Rattle.text_lines.specs.Words.{rows_of}
use Rattle.instance_text.specs.Rows.{kind_row, point_row, polygon_row}

-- the rows of the lines that are neither blank nor comments
abbrev pub counted_rows : List (List (List ℕ)) → List (List (List ℕ))
counted_rows rows = filter (λ row. not (is_passed_over row)) rows

-- whether the first field of a row is this word
abbrev pub begins_with : List ℕ → List (List ℕ) → Bool
begins_with word [] = false
begins_with word (field ∷ fields) = bytes_eq field word

-- what the rows with this first field have after it
abbrev pub fields_after : List ℕ → List (List (List ℕ)) → List (List (List ℕ))
fields_after word rows = map (drop 1) (filter (begins_with word) rows)

-- the first row: whether points may have cutoffs is said by its version
abbrev pub header_row : Bool → List (List ℕ)
header_row cutoffs = codes "siting" ∷ (if cutoffs then codes "2" else codes "1") ∷ []

-- the last row
abbrev pub end_row : List (List ℕ)
end_row = codes "end" ∷ []

-- whether a row is that of a kind, of a point or of a polygon
abbrev pub is_body_row : List (List ℕ) → Bool
is_body_row row =
    begins_with (codes "kind") row
    || (begins_with (codes "point") row
    || (begins_with (codes "permit") row || begins_with (codes "forbid") row))

-- The rows that count are a header, those of one kind, of points and of polygons in any order, and
-- the end. They say the kind, the points and the polygons of the instance, each of its sort in
-- order, and the instance is within the limits.
pub record IsInstanceText (bytes : List ℕ) (i : Instance) : Type 0 where
  pub cutoffs : Bool
  pub body : List (List (List ℕ))
  pub rows : counted_rows (rows_of bytes) ≡ header_row cutoffs ∷ (body ++ end_row ∷ [])
  pub words : IsTrue (list_all is_body_row body)
  pub kind : map kind_row (fields_after (codes "kind") body) ≡ Ok i.kind ∷ []
  pub points : map (point_row cutoffs) (fields_after (codes "point") body) ≡ map Ok i.points
  pub permitted : map polygon_row (fields_after (codes "permit") body) ≡ map Ok i.permitted
  pub forbidden : map polygon_row (fields_after (codes "forbid") body) ≡ map Ok i.forbidden
  pub limits : IsInstance i
