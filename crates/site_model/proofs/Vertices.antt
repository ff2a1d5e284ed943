-- The vertices of several polygons, and their bounding box.
use Rattle.std.proofs.Common.{◌≡◌, ℕ, ◌+◌, ◌<◌, ◌≤◌, List, [], ◌∷◌, ◌++◌, length, get_or, take, map, All, ℤ, pos, negsuc, ◌*ℤ◌, refl, sym, ap, ◌∙◌, arith, length-append}
use Rattle.std.specs.Int.{int_max, int_min}
use Rattle.std.proofs.lemmas.List.{append-nil, take_more, map-append, length-map, length-take}
use Rattle.std.proofs.lemmas.List.Concat.{flat_map-append}
use Rattle.std.proofs.lemmas.List.Elements.{All-nil, All-head, All-tail, All-append, All-get_or}
use borrow.Author.Differences.{ints}
use Rattle.siting_definitions.specs.Integer.{least, greatest}
use Rattle.siting_definitions.specs.Point.{Place}
use Rattle.siting_definitions.specs.Polygon.{origin}
use Rattle.siting_definitions.specs.Square.{Extent}
use Rattle.siting_definitions.specs.Instance.{IsPlace, IsPolygon}
use Rattle.siting_definitions.specs.Excluded.{box_of}
use Rattle.siting_definitions.specs.Sites.{vertices}
use Rattle.convex_region.proofs.Boxes.{x_of, y_of}
use Rattle.convex_region.proofs.BoxLemmas.{least-at, greatest-at}
use Rattle.site_model.specs.Box.{IsBoxWithin, box_round}
use Rattle.site_model.proofs.Extremes.{least-append, greatest-append, min_scaled, max_scaled, least_from_below, greatest_from_above}

-- ---- one polygon more
pub vertices-more : (ps : List (List Place)) (i : ℕ) (d : List Place) → i < length ps → vertices (take (i + 1) ps) ≡ vertices (take i ps) ++ get_or ps i d
vertices-more ps i d within =
    ap vertices (take_more ps i d within)
    ∙ flat_map-append (λ (vs : List Place). vs) (take i ps) (get_or ps i d ∷ [])
    ∙ ap (λ ws. vertices (take i ps) ++ ws) (append-nil (get_or ps i d))

-- some polygons have some vertices
pub some_vertices : (ps : List (List Place)) → 0 < length ps → All IsPolygon ps → 0 < length (vertices ps)
some_vertices [] some polygons = absurd (omega arith)
some_vertices (vs ∷ ps) some polygons =
    let few = (All-head IsPolygon vs ps polygons).few in omega (arith, length-append vs (vertices ps))

-- which are within the limits
pub places_of : (ps : List (List Place)) → All IsPolygon ps → All IsPlace (vertices ps)
places_of [] polygons = All-nil IsPlace
places_of (vs ∷ ps) polygons =
    All-append IsPlace vs (vertices ps) ((All-head IsPolygon vs ps polygons).places) (places_of ps (All-tail IsPolygon vs ps polygons))

-- ---- the box of joined lists
least_joined : (h : Place → ℤ) (us vs : List Place) → 0 < length us → 0 < length vs → pos 65536 *ℤ least (map h (us ++ vs)) ≡ int_min (pos 65536 *ℤ least (map h us)) (pos 65536 *ℤ least (map h vs))
least_joined h us vs some more =
    ap (λ zs. pos 65536 *ℤ least zs) (map-append h us vs)
    ∙ ap (λ z. pos 65536 *ℤ z) (least-append (map h us) (map h vs) (omega (arith, length-map us h)) (omega (arith, length-map vs h)))
    ∙ min_scaled (least (map h us)) (least (map h vs))

greatest_joined : (h : Place → ℤ) (us vs : List Place) → 0 < length us → 0 < length vs → pos 65536 *ℤ greatest (map h (us ++ vs)) ≡ int_max (pos 65536 *ℤ greatest (map h us)) (pos 65536 *ℤ greatest (map h vs))
greatest_joined h us vs some more =
    ap (λ zs. pos 65536 *ℤ greatest zs) (map-append h us vs)
    ∙ ap (λ z. pos 65536 *ℤ z) (greatest-append (map h us) (map h vs) (omega (arith, length-map us h)) (omega (arith, length-map vs h)))
    ∙ max_scaled (greatest (map h us)) (greatest (map h vs))

pub bounds_of-append : (us vs : List Place) → 0 < length us → 0 < length vs → box_of (us ++ vs) ≡ box_round (box_of us) (box_of vs)
unfolding box_of
bounds_of-append us vs some more =
    rw (least_joined x_of us vs some more, least_joined y_of us vs some more, greatest_joined x_of us vs some more, greatest_joined y_of us vs some more) refl

-- the box with one polygon more
pub bounds-more : (ps : List (List Place)) (i : ℕ) (vs : List Place) (e f : Extent) → i < length ps → 1 ≤ i → All IsPolygon (take i ps) → vs ≡ get_or ps i vs → IsPolygon vs → e ≡ box_of (vertices (take i ps)) → f ≡ box_round e (box_of vs) → f ≡ box_of (vertices (take (i + 1) ps))
bounds-more ps i vs e f within some polygons at polygon before now =
    let few = polygon.few in
    let first = some_vertices (take i ps) (omega (arith, length-take i ps)) polygons in
    now
    ∙ ap (λ b. box_round b (box_of vs)) before
    ∙ sym (bounds_of-append (vertices (take i ps)) vs first (omega arith))
    ∙ ap (λ us. box_of (vertices (take i ps) ++ us)) at
    ∙ ap box_of (sym (vertices-more ps i vs within))

-- ---- limits
pub IsBoxWithin-bounds : (vs : List Place) → 0 < length vs → All IsPlace vs → IsBoxWithin (box_of vs)
unfolding box_of
IsBoxWithin-bounds vs some places =
    let first = All-get_or IsPlace vs 0 origin some places in
    let x_low = least_from_below x_of (negsuc 999999) vs some (λ k within. let p = (All-get_or IsPlace vs k origin within places).x in omega (arith, ints, p)) in
    let y_low = least_from_below y_of (negsuc 999999) vs some (λ k within. let p = (All-get_or IsPlace vs k origin within places).y in omega (arith, ints, p)) in
    let x_high = greatest_from_above x_of (pos 1000000) vs some (λ k within. let p = (All-get_or IsPlace vs k origin within places).x in omega (arith, ints, p)) in
    let y_high = greatest_from_above y_of (pos 1000000) vs some (λ k within. let p = (All-get_or IsPlace vs k origin within places).y in omega (arith, ints, p)) in
    let x_least = least-at x_of vs 0 some in
    let y_least = least-at y_of vs 0 some in
    let x_greatest = greatest-at x_of vs 0 some in
    let y_greatest = greatest-at y_of vs 0 some in
    record {
      left = omega (arith, ints, x_low, x_least, first.x);
      lower = omega (arith, ints, y_low, y_least, first.y);
      right = omega (arith, ints, x_high, x_greatest, first.x);
      upper = omega (arith, ints, y_high, y_greatest, first.y);
    }
