-- What a line of an instance says, by its fields after the first. A fault is told by its number.
use Rattle.std.specs.Prelude.{ℕ, ◌%◌, ◌==◌, nat_lt, Bool, true, false, ◌&&◌}
use Rattle.std.specs.Prelude.{if◌then◌else◌, ℤ, pos, int_le, unsigned_abs, List, [], ◌∷◌}
use Rattle.std.specs.Prelude.{length, codes, Option, Some, None, Result, Ok, Err, ◌≤ℤ◌, ⊤}
use Rattle.std.specs.List.{list_all}
use Rattle.std.specs.Str.{bytes_eq}
use Rattle.siting_definitions.specs.declared.TheConstants.{COORDINATE_LIMIT, WEIGHT_LIMIT}
use Rattle.siting_definitions.specs.declared.TheConstants.{CUTOFF_LIMIT, VERTEX_LIMIT}
use Rattle.siting_definitions.specs.declared.Kind.{Kind}
use Rattle.siting_definitions.specs.declared.Kind.TheVariants.{Sum, Max}
use Rattle.siting_definitions.specs.Point.{Place}
use Rattle.siting_definitions.specs.Polygon.{turned}
use Rattle.siting_definitions.specs.Instance.{DemandPt}
use Rattle.text_lines.specs.declared.numbers.NumberField.{NumberField}
use Rattle.text_lines.specs.declared.numbers.NumberField.TheVariants.{NotANumber, Beyond, Value}
use Rattle.text_lines.specs.Numbers.{number_of, within}
use Rattle.instance_text.specs.declared.faults.TheConstants.{BAD_LINE, BAD_NUMBER, OUT_OF_RANGE}
use Rattle.instance_text.specs.declared.faults.TheConstants.{ZERO_WEIGHT, TOO_FEW_VERTICES}
use Rattle.instance_text.specs.declared.faults.TheConstants.{TOO_MANY_VERTICES, NOT_CONVEX}
use Rattle.convex_region.specs.Convex.{is_convex}

-- the kind that the field after `kind` says
abbrev pub kind_row : List (List ℕ) → Result Kind ℕ
kind_row (word ∷ []) =
    if bytes_eq word (codes "sum") then Ok Sum
    else if bytes_eq word (codes "max") then Ok Max
    else Err BAD_LINE
kind_row fields = Err BAD_LINE

-- a field as a coordinate, in lengths
abbrev pub coordinate_of : List ℕ → NumberField
coordinate_of field = within COORDINATE_LIMIT (number_of field)

-- a field as a weight
abbrev pub weight_of : List ℕ → NumberField
weight_of field = within WEIGHT_LIMIT (number_of field)

-- a number from 1 up
abbrev pub above_zero : NumberField → NumberField
above_zero (Value z) = if int_le (pos 1) z then Value z else Beyond
above_zero other = other

-- a field as a cutoff, in lengths
abbrev pub cutoff_of : List ℕ → NumberField
cutoff_of field = above_zero (within CUTOFF_LIMIT (number_of field))

-- whether a field is a number, in its range or beyond it
abbrev pub is_number : NumberField → Bool
is_number NotANumber = false
is_number Beyond = true
is_number (Value z) = true

-- the demand point of these numbers; its cutoff was found before
abbrev pub demand_of : NumberField → NumberField → NumberField → Option ℤ → Result DemandPt ℕ
demand_of NotANumber y w cutoff = Err BAD_NUMBER
demand_of x NotANumber w cutoff = Err BAD_NUMBER
demand_of x y NotANumber cutoff = Err BAD_NUMBER
demand_of (Value x) (Value y) (Value w) cutoff =
    if unsigned_abs w == 0 then Err ZERO_WEIGHT
    else Ok (record { x = x; y = y; w = w; cutoff = cutoff })
demand_of x y w cutoff = Err OUT_OF_RANGE

-- a point with a cutoff
abbrev pub cut_demand_of : NumberField → NumberField → NumberField → NumberField → Result DemandPt ℕ
cut_demand_of x y w NotANumber = Err BAD_NUMBER
cut_demand_of x y w Beyond =
    Err (if is_number x && (is_number y && is_number w) then OUT_OF_RANGE else BAD_NUMBER)
cut_demand_of x y w (Value cutoff) = demand_of x y w (Some cutoff)

-- whether a point may have a cutoff is said by the header
abbrev pub point_row : Bool → List (List ℕ) → Result DemandPt ℕ
point_row cutoffs (x ∷ y ∷ w ∷ []) =
    demand_of (coordinate_of x) (coordinate_of y) (weight_of w) None
point_row cutoffs (x ∷ y ∷ w ∷ cutoff ∷ []) =
    if cutoffs
    then cut_demand_of (coordinate_of x) (coordinate_of y) (weight_of w) (cutoff_of cutoff)
    else Err BAD_LINE
point_row cutoffs fields = Err BAD_LINE

-- whether a field is a number in its range
abbrev pub is_in_range : NumberField → Bool
is_in_range (Value z) = true
is_in_range other = false

-- the number of a field that is one in its range
abbrev pub number_in : NumberField → ℤ
number_in (Value z) = z
number_in other = pos 0

-- whether all fields are numbers
abbrev pub are_numbers : List (List ℕ) → Bool
are_numbers fields = list_all (λ field. is_number (coordinate_of field)) fields

-- whether all fields are coordinates
abbrev pub are_coordinates : List (List ℕ) → Bool
are_coordinates fields = list_all (λ field. is_in_range (coordinate_of field)) fields

-- the place with these coordinates
abbrev pub place_from : List ℕ → List ℕ → Place
place_from x y = record { x = number_in (coordinate_of x); y = number_in (coordinate_of y) }

-- the places whose coordinates are these fields, in pairs
abbrev pub places_of : List (List ℕ) → List Place
places_of [] = []
places_of (x ∷ []) = []
places_of (x ∷ y ∷ fields) = place_from x y ∷ places_of fields

-- whether two fields are coordinates
abbrev pub is_place : List ℕ → List ℕ → Bool
is_place x y = is_in_range (coordinate_of x) && is_in_range (coordinate_of y)

-- whether the fields are coordinates, in pairs
abbrev pub are_places : List (List ℕ) → Bool
are_places [] = true
are_places (x ∷ []) = false
are_places (x ∷ y ∷ fields) = is_place x y && are_places fields

-- the polygon with these vertices in order, counter-clockwise
abbrev pub polygon_of : List Place → Result (List Place) ℕ
polygon_of vs =
    if nat_lt (length vs) 3 then Err TOO_FEW_VERTICES
    else if nat_lt VERTEX_LIMIT (length vs) then Err TOO_MANY_VERTICES
    else if is_convex (turned vs) then Ok (turned vs)
    else Err NOT_CONVEX

-- the polygon that the fields after `permit` or `forbid` say
abbrev pub polygon_row : List (List ℕ) → Result (List Place) ℕ
polygon_row fields =
    if length fields % 2 == 0
    then (if are_numbers fields
    then (if are_coordinates fields then polygon_of (places_of fields) else Err OUT_OF_RANGE)
    else Err BAD_NUMBER)
    else Err BAD_LINE

-- a cutoff that was found is 1 to 4,000,000
abbrev pub IsCutoff : NumberField → Type 0
IsCutoff NotANumber = ⊤
IsCutoff Beyond = ⊤
IsCutoff (Value z) = (pos 1 ≤ℤ z) × (z ≤ℤ pos CUTOFF_LIMIT)
