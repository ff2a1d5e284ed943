-- What a line of a cover says, by its fields after the first. They are read from left to right: the
-- first field that is wrong tells the fault, by its number.
use Rattle.std.specs.Prelude.{ℕ, ◌-◌, ◌==◌, nat_lt, if◌then◌else◌, ◌||◌, ℤ, pos, int_lt, unsigned_abs, List, [], ◌∷◌, length, Option, Some, None, Result, Ok, Err}
use Rattle.siting_definitions.specs.Point.{Place}
use Rattle.text_lines.specs.declared.numbers.NumberField.{NumberField}
use Rattle.text_lines.specs.declared.numbers.NumberField.TheVariants.{NotANumber, Beyond, Value}
use Rattle.text_lines.specs.Numbers.{number_of, within}
use Rattle.instance_text.specs.Reading.{and_then}
use Rattle.cover_check.specs.Cover.{Tile, Owned}
use Rattle.cover_text.specs.declared.TheConstants.{FINE_LIMIT, SHIFT_LIMIT, OWNER_LIMIT}
use Rattle.cover_text.specs.declared.faults.TheConstants.{BAD_LINE, BAD_NUMBER, OUT_OF_RANGE, EMPTY_TILE, TOO_FEW_VERTICES}

-- a number of at most the size asked for
abbrev pub in_range : NumberField → Result ℤ ℕ
in_range NotANumber = Err BAD_NUMBER
in_range Beyond = Err OUT_OF_RANGE
in_range (Value z) = Ok z

-- a field as a coordinate, in fine units
abbrev pub coordinate_of : List ℕ → Result ℤ ℕ
coordinate_of field = in_range (within FINE_LIMIT (number_of field))

-- a number that isn't below 0
abbrev pub not_below : NumberField → Result ℕ ℕ
not_below NotANumber = Err BAD_NUMBER
not_below Beyond = Err OUT_OF_RANGE
not_below (Value z) = if int_lt z (pos 0) then Err OUT_OF_RANGE else Ok (unsigned_abs z)

-- a field as a number from 0 to a limit
abbrev pub natural_of : ℕ → List ℕ → Result ℕ ℕ
natural_of limit field = not_below (within limit (number_of field))

-- the place with these coordinates
abbrev pub place_of : List ℕ → List ℕ → Result Place ℕ
place_of x y =
    and_then (coordinate_of x)
    (λ (x : ℤ). and_then (coordinate_of y) (λ (y : ℤ). Ok (record { x = x; y = y })))

-- a place, and the fields after it
abbrev pub before : List (List ℕ) → Place → Result (Place × List (List ℕ)) ℕ
before rest v = Ok (v, rest)

-- the place that the first two fields say, and the fields after them
abbrev pub vertex_of : List (List ℕ) → Result (Place × List (List ℕ)) ℕ
vertex_of [] = Err BAD_LINE
vertex_of (x ∷ []) = Err BAD_LINE
vertex_of (x ∷ y ∷ rest) = and_then (place_of x y) (before rest)

-- the shift that the fields after `shift` say
abbrev pub shift_row : List (List ℕ) → Result ℕ ℕ
shift_row (shift ∷ []) = natural_of SHIFT_LIMIT shift
shift_row fields = Err BAD_LINE

-- the tile with these corners
abbrev pub tile_of : Place → Place → Result Tile ℕ
tile_of low high =
    if int_lt high.x low.x || int_lt high.y low.y then Err EMPTY_TILE
    else Ok (record { x0 = low.x; y0 = low.y; x1 = high.x; y1 = high.y })

-- the tile whose last corner and rest these are
abbrev pub tile_to : Place → Place × List (List ℕ) → Result Tile ℕ
tile_to low (high, []) = tile_of low high
tile_to low (high, field ∷ fields) = Err BAD_LINE

-- the tile that the fields after `tile` say
abbrev pub tile_row : List (List ℕ) → Result Tile ℕ
tile_row fields =
    and_then (vertex_of fields)
    (λ (low : Place × List (List ℕ)). and_then (vertex_of low.1) (tile_to low.0))

-- an owner counted from 1; 0 is none
abbrev pub owner_of : ℕ → Result (Option ℕ) ℕ
owner_of owner = Ok (if owner == 0 then None else Some (owner - 1))

-- the owner that the last field of a triangle says
abbrev pub owner_row : List (List ℕ) → Result (Option ℕ) ℕ
owner_row (owner ∷ []) = and_then (natural_of OWNER_LIMIT owner) owner_of
owner_row fields = Err BAD_LINE

-- the triangle that the fields after `triangle` say, on this line
abbrev pub triangle_row : ℕ → List (List ℕ) → Result Owned ℕ
triangle_row line fields =
    and_then (vertex_of fields)
    (λ (a : Place × List (List ℕ)). and_then (vertex_of a.1)
    (λ (b : Place × List (List ℕ)). and_then (vertex_of b.1)
    (λ (c : Place × List (List ℕ)). and_then (owner_row c.1)
    (λ (owner : Option ℕ). Ok (record {
      triangle = record { a = a.0; b = b.0; c = c.0 };
      owner = owner;
      line = line;
    })))))

-- a place before those that follow
abbrev pub onto : Place → List Place → Result (List Place) ℕ
onto v vs = Ok (v ∷ vs)

-- the places that the fields say, in pairs
abbrev pub vertices_of : List (List ℕ) → Result (List Place) ℕ
vertices_of [] = Ok []
vertices_of (x ∷ []) = Err BAD_LINE
vertices_of (x ∷ y ∷ rest) =
    and_then (place_of x y) (λ (v : Place). and_then (vertices_of rest) (onto v))

-- a ring has 3 vertices or more
abbrev pub ring_of : List Place → Result (List Place) ℕ
ring_of vs = if nat_lt (length vs) 3 then Err TOO_FEW_VERTICES else Ok vs

-- the ring that the fields after `region` or `forbidden` say
abbrev pub ring_row : List (List ℕ) → Result (List Place) ℕ
ring_row fields = and_then (vertices_of fields) ring_of
