-- What the text of a cover says, and its first fault.
--
-- A text is read line by line: each line changes what was found so far, or has a fault. After the
-- end the rest is the text of an instance.
use Rattle.std.specs.Prelude.{ℕ, ◌+◌, ◌-◌, nat_le, nat_lt, Bool, true, false, ◌&&◌, if◌then◌else◌, pos, List, [], ◌∷◌, ◌++◌, length, codes, Result, Ok, Err}
use Rattle.std.specs.Str.{bytes_eq}
use Rattle.siting_definitions.specs.Point.{Place}
use Rattle.siting_definitions.specs.Instance.{Instance}
use Rattle.text_lines.specs.Lines.{is_passed_over}
use Rattle.text_lines.specs.Words.{rows_of}
use Rattle.instance_text.specs.declared.faults.InstanceFault.{InstanceFault}
use Rattle.instance_text.specs.Reading.{and_then, read_rows as instance_rows, nothing_found as no_instance}
use Rattle.cover_check.specs.Cover.{Tile, Owned, Cover}
use Rattle.cover_text.specs.declared.TheConstants.{RING_LIMIT, TRIANGLE_LIMIT}
use Rattle.cover_text.specs.declared.faults.TheConstants.{BAD_HEADER, BAD_LINE, TOO_MANY_VERTICES, TOO_MANY_TRIANGLES, NO_END}
use Rattle.cover_text.specs.declared.faults.CoverError.{CoverError}
use Rattle.cover_text.specs.declared.faults.CoverError.TheVariants.{Fault, Instance as InInstance}
use Rattle.cover_text.specs.declared.phase.Phase.{Phase}
use Rattle.cover_text.specs.declared.phase.Phase.TheVariants.{Header, Shift, Tile as TileLine, Body, Ended}
use Rattle.cover_text.specs.Rows.{shift_row, tile_row, ring_row, triangle_row}

-- what the lines say that were read; `vertices` is how many the rings have
pub record Found : Type 0 where
  pub phase : Phase
  pub shift : ℕ
  pub tile : Tile
  pub region : List (List Place)
  pub forbidden : List (List Place)
  pub triangles : List Owned
  pub vertices : ℕ

-- before the first line
abbrev pub nothing_found : Found
nothing_found =
    record {
      phase = Header;
      shift = 0;
      tile = record { x0 = pos 0; y0 = pos 0; x1 = pos 0; y1 = pos 0 };
      region = [];
      forbidden = [];
      triangles = [];
      vertices = 0;
    }

-- the first line
abbrev pub take_header : List (List ℕ) → Found → Result Found ℕ
take_header (word ∷ version ∷ []) found =
    if bytes_eq word (codes "cover") && bytes_eq version (codes "1")
    then Ok (record found { phase = Shift })
    else Err BAD_HEADER
take_header fields found = Err BAD_HEADER

-- the line of the shift
abbrev pub take_shift : Result ℕ ℕ → Found → Result Found ℕ
take_shift (Err number) found = Err number
take_shift (Ok shift) found = Ok (record found { phase = TileLine; shift = shift })

-- the line of the tile
abbrev pub take_tile : Result Tile ℕ → Found → Result Found ℕ
take_tile (Err number) found = Err number
take_tile (Ok tile) found = Ok (record found { phase = Body; tile = tile })

-- the line of a ring of the region: the rings have no more vertices than the limit
abbrev pub take_region : Result (List Place) ℕ → Found → Result Found ℕ
take_region (Err number) found = Err number
take_region (Ok ring) found =
    if nat_lt (RING_LIMIT - found.vertices) (length ring) then Err TOO_MANY_VERTICES
    else Ok (record found {
      region = found.region ++ ring ∷ [];
      vertices = found.vertices + length ring;
    })

-- the line of a ring of the forbidden areas
abbrev pub take_forbidden : Result (List Place) ℕ → Found → Result Found ℕ
take_forbidden (Err number) found = Err number
take_forbidden (Ok ring) found =
    if nat_lt (RING_LIMIT - found.vertices) (length ring) then Err TOO_MANY_VERTICES
    else Ok (record found {
      forbidden = found.forbidden ++ ring ∷ [];
      vertices = found.vertices + length ring;
    })

-- the line of a triangle
abbrev pub take_triangle : Result Owned ℕ → Found → Result Found ℕ
take_triangle (Err number) found = Err number
take_triangle (Ok owned) found =
    if nat_le TRIANGLE_LIMIT (length found.triangles) then Err TOO_MANY_TRIANGLES
    else Ok (record found { triangles = found.triangles ++ owned ∷ [] })

-- the last line
abbrev pub take_end : List (List ℕ) → Found → Result Found ℕ
take_end [] found = Ok (record found { phase = Ended })
take_end (field ∷ fields) found = Err BAD_LINE

-- a line between the tile and the end
unfoldable pub take_row : ℕ → List ℕ → List (List ℕ) → Found → Result Found ℕ
take_row number word fields found =
    if bytes_eq word (codes "region") then take_region (ring_row fields) found
    else if bytes_eq word (codes "forbidden") then take_forbidden (ring_row fields) found
    else if bytes_eq word (codes "triangle") then take_triangle (triangle_row number fields) found
    else if bytes_eq word (codes "end") then take_end fields found
    else Err BAD_LINE

-- a line after the header, by its word: the shift, the tile, and then the rest
abbrev pub take_word : ℕ → List ℕ → List (List ℕ) → Phase → Found → Result Found ℕ
take_word number word fields Shift found =
    if bytes_eq word (codes "shift") then take_shift (shift_row fields) found else Err BAD_LINE
take_word number word fields TileLine found =
    if bytes_eq word (codes "tile") then take_tile (tile_row fields) found else Err BAD_LINE
take_word number word fields Body found = take_row number word fields found
take_word number word fields phase found = Err BAD_LINE

-- a line with these fields that counts, by the phase
abbrev pub take_fields : Phase → ℕ → List (List ℕ) → Found → Result Found ℕ
take_fields Header number fields found = take_header fields found
take_fields phase number [] found = Ok found
take_fields phase number (word ∷ fields) found = take_word number word fields phase found

-- a line with this number and these fields
abbrev pub take_line : ℕ → List (List ℕ) → Found → Result Found ℕ
take_line number fields found =
    if is_passed_over fields then Ok found else take_fields found.phase number fields found

abbrev pub has_ended : Phase → Bool
has_ended Ended = true
has_ended phase = false

-- the fault of a text that ends here
abbrev pub missing : Phase → ℕ
missing Header = BAD_HEADER
missing phase = NO_END

-- the cover of what was found and an instance
abbrev pub finish : Found → Instance → Cover
finish found instance =
    record {
      shift = found.shift;
      tile = found.tile;
      region = found.region;
      forbidden = found.forbidden;
      triangles = found.triangles;
      instance = instance;
    }

-- the cover of what was found up to a line, and of an instance, whose faults are counted from there
abbrev pub joined : ℕ → Found → Result Instance InstanceFault → Result Cover CoverError
joined line found (Ok instance) = Ok (finish found instance)
joined line found (Err fault) =
    Err (InInstance (record { number = fault.number; line = line + fault.line }))

-- the cover of what was found up to a line, and of the instance that the lines after it say
abbrev pub with_instance : ℕ → Found → List (List (List ℕ)) → Result Cover CoverError
with_instance line found rows = joined line found (instance_rows 1 rows no_instance)

-- a fault with the line that it was found on
abbrev pub at_line : {T : Type 0} → ℕ → Result T ℕ → Result T CoverError
at_line line (Ok value) = Ok value
at_line line (Err number) = Err (Fault (record { number = number; line = line }))

-- the fields of the lines that are left, the first of which has this number
abbrev pub read_rows : ℕ → List (List (List ℕ)) → Found → Result Cover CoverError
read_rows line [] found = Err (Fault (record { number = missing found.phase; line = line }))
read_rows line (fields ∷ rows) found =
    and_then (at_line line (take_line line fields found))
    (λ (next : Found). if has_ended next.phase then with_instance line next rows
    else read_rows (line + 1) rows next)

-- the cover that a text says, or its first fault. A fault that only the end of the text shows has
-- the number of lines plus one as its line
unfoldable pub reading : List ℕ → Result Cover CoverError
reading bytes = read_rows 1 (rows_of bytes) nothing_found
