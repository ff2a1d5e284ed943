-- The first fault of an instance text, by its lines as they stand. The first line with a fault
-- decides, and in it the first fault of its row. A line is judged by the rows before it that count:
-- those that are neither blank nor comments.
use Rattle.std.specs.Prelude.{◌≡◌, ℕ, ◌+◌, nat_le, Bool, false, not, ◌&&◌, ◌||◌}
use Rattle.std.specs.Prelude.{if◌then◌else◌, List, [], ◌∷◌, ◌++◌, length, map, codes}
use Rattle.std.specs.Prelude.{Option, Some, None, Result, Ok, Err}
use Rattle.std.specs.List.{list_any, filter_map}
use Rattle.std.specs.Str.{bytes_eq}
use Rattle.siting_definitions.specs.declared.TheConstants.{WEIGHT_LIMIT, POINT_LIMIT, POLYGON_LIMIT}
use Rattle.siting_definitions.specs.Instance.{DemandPt, weight}
use Rattle.text_lines.specs.Lines.{is_passed_over}
use Rattle.text_lines.specs.Words.{rows_of}
use Rattle.instance_text.specs.declared.faults.InstanceFault.{InstanceFault}
use Rattle.instance_text.specs.declared.faults.TheConstants.{BAD_HEADER, BAD_LINE, TOO_MANY_POINTS}
use Rattle.instance_text.specs.declared.faults.TheConstants.{WEIGHT_SUM, TOO_MANY_POLYGONS}
use Rattle.instance_text.specs.declared.faults.TheConstants.{NO_KIND, TWO_KINDS, NO_POINT}
use Rattle.instance_text.specs.declared.faults.TheConstants.{NO_PERMIT, NO_END, AFTER_END}
use Rattle.instance_text.specs.InstanceTexts.{counted_rows, begins_with, fields_after}
use Rattle.instance_text.specs.Rows.{kind_row, point_row, polygon_row}

-- the fault where the test holds
abbrev pub when : Bool → ℕ → Option ℕ
when test number = if test then Some number else None

-- the first of two faults
abbrev pub or_else : Option ℕ → Option ℕ → Option ℕ
or_else None later = later
or_else (Some first) later = Some first

-- the fault of what fields say by themselves
abbrev pub own_fault : {X : Type 0} → Result X ℕ → Option ℕ
own_fault (Ok value) = None
own_fault (Err number) = Some number

-- what was said without a fault
abbrev pub value_in : {X : Type 0} → Result X ℕ → Option X
value_in (Ok value) = Some value
value_in (Err number) = None

-- whether one of the rows begins with this word
abbrev pub has : List ℕ → List (List (List ℕ)) → Bool
has word rows = list_any (begins_with word) rows

-- whether a row is a header
abbrev pub is_header : List (List ℕ) → Bool
is_header (word ∷ version ∷ []) =
    bytes_eq word (codes "siting")
    && (bytes_eq version (codes "1") || bytes_eq version (codes "2"))
is_header row = false

-- whether the header says that points may have cutoffs
abbrev pub allows_cutoffs : List (List (List ℕ)) → Bool
allows_cutoffs ((word ∷ version ∷ []) ∷ rows) = bytes_eq version (codes "2")
allows_cutoffs rows = false

-- the demand points that rows say
abbrev pub points_in : List (List (List ℕ)) → List DemandPt
points_in rows =
    filter_map value_in (map (point_row (allows_cutoffs rows)) (fields_after (codes "point") rows))

-- the fault of one point more
abbrev pub point_fault : List DemandPt → Result DemandPt ℕ → Option ℕ
point_fault points (Err number) = Some number
point_fault points (Ok point) =
    or_else (when (nat_le POINT_LIMIT (length points)) TOO_MANY_POINTS)
    (when (not (nat_le (weight (points ++ point ∷ [])) WEIGHT_LIMIT)) WEIGHT_SUM)

-- the fault of one polygon more where so many of its word stand
abbrev pub polygon_fault : ℕ → List (List ℕ) → Option ℕ
polygon_fault count fields =
    or_else (own_fault (polygon_row fields)) (when (nat_le POLYGON_LIMIT count) TOO_MANY_POLYGONS)

-- the fault of the end after these rows
abbrev pub end_fault : List (List (List ℕ)) → List (List ℕ) → Option ℕ
end_fault rows (field ∷ fields) = Some BAD_LINE
end_fault rows [] =
    or_else (when (not (has (codes "kind") rows)) NO_KIND)
    (or_else (when (not (has (codes "point") rows)) NO_POINT)
    (when (not (has (codes "permit") rows)) NO_PERMIT))

-- the fault of a row between the header and the end, after these rows
unfoldable pub body_fault : List (List (List ℕ)) → List ℕ → List (List ℕ) → Option ℕ
body_fault rows word fields =
    if bytes_eq word (codes "kind")
    then or_else (own_fault (kind_row fields)) (when (has (codes "kind") rows) TWO_KINDS)
    else if bytes_eq word (codes "point")
    then point_fault (points_in rows) (point_row (allows_cutoffs rows) fields)
    else if bytes_eq word (codes "permit")
    then polygon_fault (length (fields_after (codes "permit") rows)) fields
    else if bytes_eq word (codes "forbid")
    then polygon_fault (length (fields_after (codes "forbid") rows)) fields
    else if bytes_eq word (codes "end") then end_fault rows fields
    else Some BAD_LINE

-- the fault of a row that counts, after these rows that count
abbrev pub row_fault : List (List (List ℕ)) → List (List ℕ) → Option ℕ
row_fault [] row = when (not (is_header row)) BAD_HEADER
row_fault (first ∷ rows) [] = None
row_fault (first ∷ rows) (word ∷ fields) =
    if has (codes "end") (first ∷ rows) then Some AFTER_END
    else body_fault (first ∷ rows) word fields

-- the fault of a line after these lines
abbrev pub line_fault : List (List (List ℕ)) → List (List ℕ) → Option ℕ
line_fault before row =
    if is_passed_over row then None else row_fault (counted_rows before) row

-- the fault of a text that ends after these rows that count
abbrev pub ending_fault : List (List (List ℕ)) → Option ℕ
ending_fault [] = Some BAD_HEADER
ending_fault (first ∷ rows) = when (not (has (codes "end") (first ∷ rows))) NO_END

-- the fault of the line that comes after these lines, or of the end of the text
abbrev pub next_fault : List (List (List ℕ)) → List (List (List ℕ)) → Option ℕ
next_fault before [] = ending_fault (counted_rows before)
next_fault before (row ∷ later) = line_fault before row

-- These are the first fault of a text and its line: no line before it has a fault, and it has. The
-- end of the text comes after its last line.
pub record IsFirstFault (bytes : List ℕ) (fault : InstanceFault) : Type 0 where
  pub before : List (List (List ℕ))
  pub later : List (List (List ℕ))
  pub lines : rows_of bytes ≡ before ++ later
  pub line : fault.line ≡ length before + 1
  pub first : (front : List (List (List ℕ))) (row : List (List ℕ)) (back : List (List (List ℕ)))
      → before ≡ front ++ row ∷ back → line_fault front row ≡ None
  pub number : next_fault before later ≡ Some fault.number
