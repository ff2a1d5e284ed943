-- From what the code finds to what the check tells.
use Rattle.std.proofs.Common.{◌≡◌, ℕ, ◌<◌, ◌≤◌, Bool, true, false, cond, List, [], ◌∷◌, length, get_or, map, Option, Some, None, MatchOption, refl, sym, ◌∙◌, ap, subst, arith}
use Rattle.std.specs.Prelude.{nat_lt, ⊤}
use Rattle.std.specs.List.{list_all, All}
use Rattle.std.proofs.lemmas.Bool.{ltb-true, lt-ltb}
use Rattle.std.proofs.lemmas.List.{get_or-map, length-map}
use Rattle.std.proofs.lemmas.List.Elements.{All-nil, All-cons, All-tail, All-get_or, All-map}
use Rattle.siting_definitions.specs.Point.{Place}
use Rattle.siting_definitions.specs.Polygon.{covers}
use Rattle.siting_definitions.specs.Instance.{IsPolygon}
use Rattle.edge_chain.specs.Chain.{edges_of, Cancel}
use Rattle.edge_chain.specs.Triangle.{Triangle, corners, is_counter_clockwise}
use Rattle.edge_chain.specs.Piece.{at}
use Rattle.edge_chain.specs.Wanted.{IsUnwanted}
use Rattle.cover_check.specs.declared.faults.CoverFault.{CoverFault}
use Rattle.cover_check.specs.declared.faults.CoverFault.TheVariants.{Edges, Owner, Triangle as Bare, Tile as InTile, Piece}
use Rattle.cover_check.specs.Cover.{Cover, Owned, Tile, IsCover, IsHeldBy, cover_edges, fine, is_beyond}
use Rattle.cover_check.specs.Verdict.{fine_polygons, owner_fault, triangle_fault, or_else, first_fault, triangles_fault, Tells}
use Rattle.cover_check.proofs.FineLemmas.{piece-fine}

-- ---- no fault: each triangle is held
none_if : (b : Bool) (fault : CoverFault) → cond b None (Some fault) ≡ None → b ≡ true
none_if true fault e = refl
none_if false fault e = absurd cc

none_both : (p q : Bool) (f g : CoverFault) → cond p (cond q None (Some f)) (Some g) ≡ None → (p ≡ true) × (q ≡ true)
none_both true q f g e = (refl, none_if q f e)
none_both false q f g e = absurd cc

none_or : (a b : Option CoverFault) → or_else a b ≡ None → (a ≡ None) × (b ≡ None)
none_or None b e = (refl, e)
none_or (Some fault) b e = absurd cc

-- a polygon of a list in fine units
polygon_at : (shift : ℕ) (vss : List (List Place)) (n : ℕ) → n < length vss → get_or (fine_polygons shift vss) n [] ≡ map (fine shift) (get_or vss n [])
polygon_at shift vss n h = get_or-map (λ (vs : List Place). map (fine shift) vs) vss n [] [] h

owner_held : (c : Cover) (line : ℕ) (t : Triangle) (owner : Option ℕ) → owner_fault c.tile (fine_polygons c.shift c.instance.permitted) line t owner ≡ None → IsHeldBy c t owner
owner_held c line t None e = none_if (is_beyond c.tile t) (InTile line) e
owner_held c line t (Some n) e =
    let polygons = fine_polygons c.shift c.instance.permitted in
    let both = none_both (nat_lt n (length polygons)) (list_all (λ v. covers (get_or polygons n []) (at v)) (corners t)) (Bare line) (Owner line) e in
    let below : n < length polygons = ltb-true n (length polygons) both.0 in
    let within : n < length c.instance.permitted = omega (arith, below, length-map c.instance.permitted (λ (vs : List Place). map (fine c.shift) vs)) in
    (within, subst (λ (vs : List Place). list_all (λ v. covers vs (at v)) (corners t) ≡ true) (polygon_at c.shift c.instance.permitted n within) both.1)

triangle_held : (c : Cover) (o : Owned) → triangle_fault c.tile (fine_polygons c.shift c.instance.permitted) o ≡ None → is_counter_clockwise o.triangle ≡ true → IsHeldBy c o.triangle o.owner
triangle_held c o e turn =
    owner_held c o.line o.triangle o.owner
    (subst (λ (b : Bool). cond b (owner_fault c.tile (fine_polygons c.shift c.instance.permitted) o.line o.triangle o.owner) None ≡ None) turn e)

all_held : (c : Cover) (os : List Owned) → first_fault c.tile (fine_polygons c.shift c.instance.permitted) os ≡ None → All (λ (o : Owned). is_counter_clockwise o.triangle ≡ true → IsHeldBy c o.triangle o.owner) os
all_held c [] e = All-nil (λ (o : Owned). is_counter_clockwise o.triangle ≡ true → IsHeldBy c o.triangle o.owner)
all_held c (o ∷ os) e =
    let both = none_or (triangle_fault c.tile (fine_polygons c.shift c.instance.permitted) o) (first_fault c.tile (fine_polygons c.shift c.instance.permitted) os) e in
    All-cons (λ (o : Owned). is_counter_clockwise o.triangle ≡ true → IsHeldBy c o.triangle o.owner) o os (triangle_held c o both.0) (all_held c os both.1)

-- ---- pieces of the instance in fine units
piece_unwanted : (c : Cover) → All (λ vs. IsUnwanted (edges_of c.region) (edges_of c.forbidden) vs) (fine_polygons c.shift c.instance.forbidden) → (k : ℕ) (d : List Place) → k < length c.instance.forbidden → IsUnwanted (edges_of c.region) (edges_of c.forbidden) (map (fine c.shift) (get_or c.instance.forbidden k d))
piece_unwanted c all k d h =
    let vss = c.instance.forbidden in
    let within : k < length (fine_polygons c.shift vss) = omega (arith, length-map vss (λ (vs : List Place). map (fine c.shift) vs)) in
    subst (λ (vs : List Place). IsUnwanted (edges_of c.region) (edges_of c.forbidden) vs)
    (get_or-map (λ (vs : List Place). map (fine c.shift) vs) vss k d [] h)
    (All-get_or (λ vs. IsUnwanted (edges_of c.region) (edges_of c.forbidden) vs) (fine_polygons c.shift vss) k [] within all)

-- polygons have three corners or more
pub few_corners : (shift : ℕ) (vss : List (List Place)) → All IsPolygon vss → All (λ (vs : List Place). 3 ≤ length vs) (fine_polygons shift vss)
few_corners shift vss lawful =
    All-map (λ (vs : List Place). 3 ≤ length vs) (λ (vs : List Place). map (fine shift) vs) vss
    (λ k d h. (piece-fine shift (get_or vss k d) (lawful k d h)).few)

-- ---- what the check tells
pub tells_cover : (c : Cover) → Cancel (cover_edges c) → triangles_fault c ≡ None → All (λ vs. IsUnwanted (edges_of c.region) (edges_of c.forbidden) vs) (fine_polygons c.shift c.instance.forbidden) → IsCover c
tells_cover c cancels none unwanted =
    record { edges = cancels; triangles = all_held c c.triangles none; pieces = piece_unwanted c unwanted }

-- the faults of triangles
abbrev IsOfTriangle : CoverFault → Type 0
IsOfTriangle Edges = ⊥
IsOfTriangle (Owner line) = ⊤
IsOfTriangle (Bare line) = ⊤
IsOfTriangle (InTile line) = ⊤
IsOfTriangle (Piece number) = ⊥

abbrev IsKind : Option CoverFault → Type 0
IsKind o = MatchOption o ⊤ IsOfTriangle

kind_if : (b : Bool) (o : Option CoverFault) (fault : CoverFault) → IsKind o → IsOfTriangle fault → IsKind (cond b o (Some fault))
kind_if true o fault h k = h
kind_if false o fault h k = k

kind_turn : (b : Bool) (o : Option CoverFault) → IsKind o → IsKind (cond b o None)
kind_turn true o h = h
kind_turn false o h = tt

kind_or : (a b : Option CoverFault) → IsKind a → IsKind b → IsKind (or_else a b)
kind_or None b h k = k
kind_or (Some fault) b h k = h

kind_owner : (tile : Tile) (polygons : List (List Place)) (line : ℕ) (t : Triangle) (owner : Option ℕ) → IsKind (owner_fault tile polygons line t owner)
kind_owner tile polygons line t None = kind_if (is_beyond tile t) None (InTile line) tt tt
kind_owner tile polygons line t (Some n) =
    kind_if (nat_lt n (length polygons)) (cond (list_all (λ v. covers (get_or polygons n []) (at v)) (corners t)) None (Some (Bare line))) (Owner line)
    (kind_if (list_all (λ v. covers (get_or polygons n []) (at v)) (corners t)) None (Bare line) tt tt)
    tt

kind_first : (tile : Tile) (polygons : List (List Place)) (os : List Owned) → IsKind (first_fault tile polygons os)
kind_first tile polygons [] = tt
kind_first tile polygons (o ∷ os) =
    kind_or (triangle_fault tile polygons o) (first_fault tile polygons os)
    (kind_turn (is_counter_clockwise o.triangle) (owner_fault tile polygons o.line o.triangle o.owner) (kind_owner tile polygons o.line o.triangle o.owner))
    (kind_first tile polygons os)

tells_kind : (c : Cover) (fault : CoverFault) → IsOfTriangle fault → Cancel (cover_edges c) → triangles_fault c ≡ Some fault → Tells c (Some fault)
tells_kind c Edges h cancels e = absurd h
tells_kind c (Owner line) h cancels e = (cancels, e)
tells_kind c (Bare line) h cancels e = (cancels, e)
tells_kind c (InTile line) h cancels e = (cancels, e)
tells_kind c (Piece number) h cancels e = absurd h

pub tells_triangle : (c : Cover) (fault : CoverFault) → Cancel (cover_edges c) → triangles_fault c ≡ Some fault → Tells c (Some fault)
tells_triangle c fault cancels e =
    tells_kind c fault (subst IsKind e (kind_first c.tile (fine_polygons c.shift c.instance.permitted) c.triangles)) cancels e

-- ---- a cover has no fault
owner_none : (c : Cover) (line : ℕ) (t : Triangle) (owner : Option ℕ) → IsHeldBy c t owner → owner_fault c.tile (fine_polygons c.shift c.instance.permitted) line t owner ≡ None
owner_none c line t None h = rw h refl
owner_none c line t (Some n) h =
    let polygons = fine_polygons c.shift c.instance.permitted in
    let below : n < length polygons = let within = h.0 in omega (arith, within, length-map c.instance.permitted (λ (vs : List Place). map (fine c.shift) vs)) in
    let covered : list_all (λ v. covers (get_or polygons n []) (at v)) (corners t) ≡ true = subst (λ (vs : List Place). list_all (λ v. covers vs (at v)) (corners t) ≡ true) (sym (polygon_at c.shift c.instance.permitted n h.0)) h.1 in
    ap (λ (b : Bool). cond b (cond (list_all (λ v. covers (get_or polygons n []) (at v)) (corners t)) None (Some (Bare line))) (Some (Owner line))) (lt-ltb n (length polygons) below)
    ∙ ap (λ (b : Bool). cond b None (Some (Bare line))) covered

turn_none : (b : Bool) (o : Option CoverFault) → (b ≡ true → o ≡ None) → cond b o None ≡ None
turn_none true o h = h refl
turn_none false o h = refl

or_none : (a b : Option CoverFault) → a ≡ None → b ≡ None → or_else a b ≡ None
or_none None b h k = k
or_none (Some fault) b h k = absurd cc

no_fault : (c : Cover) (os : List Owned) → All (λ (o : Owned). is_counter_clockwise o.triangle ≡ true → IsHeldBy c o.triangle o.owner) os → first_fault c.tile (fine_polygons c.shift c.instance.permitted) os ≡ None
no_fault c [] all = refl
no_fault c (o ∷ os) all =
    or_none (triangle_fault c.tile (fine_polygons c.shift c.instance.permitted) o) (first_fault c.tile (fine_polygons c.shift c.instance.permitted) os)
    (turn_none (is_counter_clockwise o.triangle) (owner_fault c.tile (fine_polygons c.shift c.instance.permitted) o.line o.triangle o.owner) (λ turn. owner_none c o.line o.triangle o.owner (all 0 o (omega arith) turn)))
    (no_fault c os (All-tail (λ (o : Owned). is_counter_clockwise o.triangle ≡ true → IsHeldBy c o.triangle o.owner) o os all))

none≢some : (o : Option CoverFault) (fault : CoverFault) → o ≡ None → o ≡ Some fault → ⊥
none≢some o fault h k = absurd cc

no_piece : (c : Cover) (index : ℕ) → IsCover c → index < length (fine_polygons c.shift c.instance.forbidden) → IsUnwanted (edges_of c.region) (edges_of c.forbidden) (get_or (fine_polygons c.shift c.instance.forbidden) index [])
no_piece c index cover h =
    let vss = c.instance.forbidden in
    let within : index < length vss = omega (arith, length-map vss (λ (vs : List Place). map (fine c.shift) vs)) in
    subst (λ (vs : List Place). IsUnwanted (edges_of c.region) (edges_of c.forbidden) vs)
    (sym (polygon_at c.shift vss index within))
    (cover.pieces index [] within)

-- the check tells no fault of a cover
pub untold : (c : Cover) (fault : CoverFault) → IsCover c → Tells c (Some fault) → ⊥
untold c Edges cover tells = tells cover.edges
untold c (Owner line) cover tells = none≢some (triangles_fault c) (Owner line) (no_fault c c.triangles cover.triangles) tells.1
untold c (Bare line) cover tells = none≢some (triangles_fault c) (Bare line) (no_fault c c.triangles cover.triangles) tells.1
untold c (InTile line) cover tells = none≢some (triangles_fault c) (InTile line) (no_fault c c.triangles cover.triangles) tells.1
untold c (Piece number) cover tells = tells.2.wanted (no_piece c tells.2.index cover tells.2.within)
