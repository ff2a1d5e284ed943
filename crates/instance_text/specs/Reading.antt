-- What an instance text says, and its first fault.
--
-- A text is read line by line: each line changes what was found so far, or has a fault. The first
-- fault of the first line with one is the text's.
use Rattle.std.specs.Prelude.{ℕ, ◌+◌, nat_le, Bool, true, false, if◌then◌else◌, List, [], ◌∷◌}
use Rattle.std.specs.Prelude.{◌++◌, length, codes, Option, Some, None, is_some, Result, Ok, Err}
use Rattle.std.specs.Str.{bytes_eq}
use Rattle.siting_definitions.specs.declared.TheConstants.{WEIGHT_LIMIT, POINT_LIMIT, POLYGON_LIMIT}
use Rattle.siting_definitions.specs.declared.Kind.{Kind}
use Rattle.siting_definitions.specs.Point.{Place}
use Rattle.siting_definitions.specs.Instance.{DemandPt, Instance, weight}
use Rattle.text_lines.specs.Lines.{is_passed_over}
use Rattle.text_lines.specs.Words.{rows_of}
use Rattle.instance_text.specs.declared.faults.InstanceFault.{InstanceFault}
use Rattle.instance_text.specs.declared.faults.TheConstants.{BAD_HEADER, BAD_LINE, TOO_MANY_POINTS}
use Rattle.instance_text.specs.declared.faults.TheConstants.{WEIGHT_SUM, TOO_MANY_POLYGONS}
use Rattle.instance_text.specs.declared.faults.TheConstants.{NO_KIND, TWO_KINDS, NO_POINT}
use Rattle.instance_text.specs.declared.faults.TheConstants.{NO_PERMIT, NO_END, AFTER_END}
use Rattle.instance_text.specs.Phase.{Phase, Start, Body, Ended}
use Rattle.instance_text.specs.Rows.{kind_row, point_row, polygon_row}

-- what the lines say that were read
pub record Found : Type 0 where
  pub phase : Phase
  pub kind : Option Kind
  pub points : List DemandPt
  pub permitted : List (List Place)
  pub forbidden : List (List Place)

-- before the first line
abbrev pub nothing_found : Found
nothing_found = record { phase = Start; kind = None; points = []; permitted = []; forbidden = [] }

-- one step more, where the first had no fault
abbrev pub and_then : {T U E : Type 0} → Result T E → (T → Result U E) → Result U E
and_then (Ok value) more = more value
and_then (Err error) more = Err error

-- the version says whether points may have cutoffs
abbrev pub take_version : List ℕ → Found → Result Found ℕ
take_version version found =
    if bytes_eq version (codes "1") then Ok (record found { phase = Body false })
    else if bytes_eq version (codes "2") then Ok (record found { phase = Body true })
    else Err BAD_HEADER

-- the first line
abbrev pub take_header : List (List ℕ) → Found → Result Found ℕ
take_header (word ∷ version ∷ []) found =
    if bytes_eq word (codes "siting") then take_version version found else Err BAD_HEADER
take_header fields found = Err BAD_HEADER

-- the line of the kind, which comes once
abbrev pub take_kind : Result Kind ℕ → Found → Result Found ℕ
take_kind (Err number) found = Err number
take_kind (Ok kind) found =
    if is_some found.kind then Err TWO_KINDS else Ok (record found { kind = Some kind })

-- the line of a demand point: there are no more than the limit, and no heavier
abbrev pub take_point : Result DemandPt ℕ → Found → Result Found ℕ
take_point (Err number) found = Err number
take_point (Ok point) found =
    if nat_le POINT_LIMIT (length found.points) then Err TOO_MANY_POINTS
    else if nat_le (weight (found.points ++ point ∷ [])) WEIGHT_LIMIT
    then Ok (record found { points = found.points ++ point ∷ [] })
    else Err WEIGHT_SUM

-- the polygons with one more, where there is room for it
abbrev pub add_polygon : Result (List Place) ℕ → List (List Place) → Result (List (List Place)) ℕ
add_polygon (Err number) polygons = Err number
add_polygon (Ok polygon) polygons =
    if nat_le POLYGON_LIMIT (length polygons) then Err TOO_MANY_POLYGONS
    else Ok (polygons ++ polygon ∷ [])

-- the line of a permitted polygon
abbrev pub take_permit : Result (List Place) ℕ → Found → Result Found ℕ
take_permit row found =
    and_then (add_polygon row found.permitted) (λ more. Ok (record found { permitted = more }))

-- the line of a forbidden polygon
abbrev pub take_forbid : Result (List Place) ℕ → Found → Result Found ℕ
take_forbid row found =
    and_then (add_polygon row found.forbidden) (λ more. Ok (record found { forbidden = more }))

-- the end, after a kind, a point and a permitted polygon
abbrev pub close : Option Kind → List DemandPt → List (List Place) → Result Phase ℕ
close None points permitted = Err NO_KIND
close (Some kind) [] permitted = Err NO_POINT
close (Some kind) (point ∷ points) [] = Err NO_PERMIT
close (Some kind) (point ∷ points) (polygon ∷ permitted) = Ok (Ended kind)

-- what was found, in another phase
abbrev pub in_phase : Result Phase ℕ → Found → Result Found ℕ
in_phase (Err number) found = Err number
in_phase (Ok phase) found = Ok (record found { phase = phase })

-- the last line
abbrev pub take_end : List (List ℕ) → Found → Result Found ℕ
take_end [] found = in_phase (close found.kind found.points found.permitted) found
take_end (field ∷ fields) found = Err BAD_LINE

-- a line between the header and the end
unfoldable pub take_row : Bool → List ℕ → List (List ℕ) → Found → Result Found ℕ
take_row cutoffs word fields found =
    if bytes_eq word (codes "kind") then take_kind (kind_row fields) found
    else if bytes_eq word (codes "point") then take_point (point_row cutoffs fields) found
    else if bytes_eq word (codes "permit") then take_permit (polygon_row fields) found
    else if bytes_eq word (codes "forbid") then take_forbid (polygon_row fields) found
    else if bytes_eq word (codes "end") then take_end fields found
    else Err BAD_LINE

-- a line with these fields that counts, by the phase
abbrev pub take_fields : Phase → List (List ℕ) → Found → Result Found ℕ
take_fields Start fields found = take_header fields found
take_fields (Body cutoffs) [] found = Ok found
take_fields (Body cutoffs) (word ∷ fields) found = take_row cutoffs word fields found
take_fields (Ended kind) fields found = Err AFTER_END

-- a line with these fields
abbrev pub take_line : List (List ℕ) → Found → Result Found ℕ
take_line fields found =
    if is_passed_over fields then Ok found else take_fields found.phase fields found

-- the text ends here
abbrev pub finish : Phase → Found → Result Instance ℕ
finish Start found = Err BAD_HEADER
finish (Body cutoffs) found = Err NO_END
finish (Ended kind) found =
    Ok (record {
      kind = kind;
      points = found.points;
      permitted = found.permitted;
      forbidden = found.forbidden;
    })

-- a fault with the line that it was found on
abbrev pub at_line : {T : Type 0} → ℕ → Result T ℕ → Result T InstanceFault
at_line line (Ok value) = Ok value
at_line line (Err number) = Err (record { number = number; line = line })

-- the fields of the lines that are left, the first of which has this number
abbrev pub read_rows : ℕ → List (List (List ℕ)) → Found → Result Instance InstanceFault
read_rows line [] found = at_line line (finish found.phase found)
read_rows line (fields ∷ rows) found =
    and_then (at_line line (take_line fields found))
    (λ (next : Found). read_rows (line + 1) rows next)

-- the instance that a text says, or its first fault. A fault that only the end of the text shows
-- has the number of lines plus one as its line
unfoldable pub reading : List ℕ → Result Instance InstanceFault
reading bytes = read_rows 1 (rows_of bytes) nothing_found
