-- What the check of a cover answers: the first of its tests that fails.
use Rattle.std.specs.Prelude.{◌≡◌, ℕ, ◌+◌, ◌<◌, nat_lt, if◌then◌else◌, List, [], ◌∷◌, length, map, take, slice_index_or, Option, Some, None, All}
use Rattle.std.specs.List.{list_all}
use Rattle.siting_definitions.specs.Point.{Place}
use Rattle.siting_definitions.specs.Polygon.{covers}
use Rattle.edge_chain.specs.Chain.{Edge, edges_of, Cancel}
use Rattle.edge_chain.specs.Triangle.{Triangle, corners, is_counter_clockwise}
use Rattle.edge_chain.specs.Piece.{at}
use Rattle.edge_chain.specs.Wanted.{IsUnwanted}
use Rattle.cover_check.specs.Cover.{Cover, Owned, Tile, IsCover, cover_edges, fine, is_beyond}
use Rattle.cover_check.specs.declared.faults.CoverFault.{CoverFault}
use Rattle.cover_check.specs.declared.faults.CoverFault.TheVariants.{Edges, Owner, Triangle as Bare, Tile as InTile, Piece}

-- polygons in fine units
abbrev pub fine_polygons : ℕ → List (List Place) → List (List Place)
fine_polygons shift polygons = map (λ vs. map (fine shift) vs) polygons

-- why a triangle on a line isn't held, by its owner among these polygons
abbrev pub owner_fault : Tile → List (List Place) → ℕ → Triangle → Option ℕ → Option CoverFault
owner_fault tile polygons line t None = if is_beyond tile t then None else Some (InTile line)
owner_fault tile polygons line t (Some n) =
    if nat_lt n (length polygons)
    then (if list_all (λ v. covers (slice_index_or polygons n []) (at v)) (corners t)
    then None
    else Some (Bare line))
    else Some (Owner line)

-- only a counter-clockwise triangle has to be held
abbrev pub triangle_fault : Tile → List (List Place) → Owned → Option CoverFault
triangle_fault tile polygons o =
    if is_counter_clockwise o.triangle
    then owner_fault tile polygons o.line o.triangle o.owner
    else None

-- the first, or else the second
abbrev pub or_else : Option CoverFault → Option CoverFault → Option CoverFault
or_else None later = later
or_else (Some fault) later = Some fault

-- the fault of the first triangle with one
abbrev pub first_fault : Tile → List (List Place) → List Owned → Option CoverFault
first_fault tile polygons [] = None
first_fault tile polygons (o ∷ os) =
    or_else (triangle_fault tile polygons o) (first_fault tile polygons os)

-- the fault of the first triangle of a cover with one
abbrev pub triangles_fault : Cover → Option CoverFault
triangles_fault c =
    first_fault c.tile (fine_polygons c.shift c.instance.permitted) c.triangles

-- the first piece in whose interior a point may be wanted, counted from 1
pub record IsFirstWanted (region forbidden : List Edge) (pieces : List (List Place)) (number : ℕ)
    : Type 0 where
  pub index : ℕ
  pub counted : number ≡ index + 1
  pub within : index < length pieces
  pub before : All (λ vs. IsUnwanted region forbidden vs) (take index pieces)
  pub wanted : IsUnwanted region forbidden (slice_index_or pieces index []) → ⊥

-- no point is wanted in the interior of any piece, or this is the first one in which it may be
abbrev pub HasWanted : List Edge → List Edge → List (List Place) → Option ℕ → Type 0
HasWanted region forbidden pieces None = All (λ vs. IsUnwanted region forbidden vs) pieces
HasWanted region forbidden pieces (Some number) = IsFirstWanted region forbidden pieces number

-- what the check of a cover answers: all its tests pass, or this is the first that fails
abbrev pub Tells : Cover → Option CoverFault → Type 0
Tells c None = IsCover c
Tells c (Some Edges) = Cancel (cover_edges c) → ⊥
Tells c (Some (Piece number)) =
    Cancel (cover_edges c) × (triangles_fault c ≡ None)
    × IsFirstWanted (edges_of c.region) (edges_of c.forbidden)
    (fine_polygons c.shift c.instance.forbidden) number
Tells c (Some fault) = Cancel (cover_edges c) × (triangles_fault c ≡ Some fault)
