-- The canonical text of a lawful instance says that instance.
use Rattle.std.proofs.Common.{◌≡◌, ◌≢◌, ℕ, zero, suc, ◌+◌, ◌*◌, ◌%◌, ◌^◌, ◌<◌, ◌≤◌, eqb, Bool, true, false, cond, ℤ, pos, negsuc, ◌≤ℤ◌, List, [], ◌∷◌, ◌++◌, length, map, codes, Option, Some, None, Result, Ok, refl, sym, ap, ◌∙◌, lit<, arith, append_assoc}
use Rattle.std.specs.Prelude.{unsigned_abs, int_le, is_some, All, MatchOption, ⊤}
use Rattle.std.specs.List.{list_all, list_any, flat_map}
use Rattle.std.specs.Fmt.{signed_decimal}
use Rattle.std.proofs.lemmas.Bool.{and_from, or_left, or_right, ne_eqb, eq-eqb, le-leb, le-ltb, lt-leb}
use Rattle.std.proofs.lemmas.List.{append-nil, length-append}
use Rattle.std.proofs.lemmas.List.Sums.{sum_by-append}
use Rattle.std.proofs.lemmas.List.Elements.{All-head, All-tail}
use Rattle.siting_definitions.specs.declared.Kind.{Kind}
use Rattle.siting_definitions.specs.declared.Kind.TheVariants.{Sum, Max}
use Rattle.siting_definitions.specs.Point.{Place}
use Rattle.siting_definitions.specs.Instance.{DemandPt, Instance, weight, IsPlace, IsDemandPt, IsPolygon, IsInstance}
use Rattle.siting_definitions.specs.InstanceText.{has_cutoff, kind_field, cutoff_fields, point_line, polygon_line, instance_lines, instance_text}
use Rattle.text_lines.specs.declared.numbers.NumberField.TheVariants.{Value}
use Rattle.text_lines.specs.Numbers.{number_of, within}
use Rattle.text_lines.specs.Words.{is_word, are_words, AreWords}
use Rattle.text_lines.proofs.ReadBack.{rows_of-text_of}
use Rattle.text_lines.proofs.NumbersBack.{is_word-signed_decimal, number_of-signed_decimal}
use Rattle.instance_text.specs.declared.faults.InstanceFault.{InstanceFault}
use Rattle.instance_text.specs.Phase.{Body}
use Rattle.instance_text.specs.Rows.{coordinate_of, weight_of, cutoff_of, point_row, are_numbers, are_coordinates, places_of, polygon_of, polygon_row}
use Rattle.instance_text.specs.Reading.{Found, nothing_found, take_row, take_line, read_rows, reading}
use Rattle.convex_region.proofs.Convexity.{is_convex-iff}
use Rattle.convex_region.proofs.AreaLemmas.{turned_is}
use borrow.Author.Differences.{ints}

-- ---- every line is one of words
abbrev place_fields : List Place → List (List ℕ)
place_fields vs = flat_map (λ (v : Place). signed_decimal v.x ∷ signed_decimal v.y ∷ []) vs

places_words : (vs : List Place) → are_words (place_fields vs) ≡ true
places_words [] = refl
places_words (v ∷ vs) = rw (is_word-signed_decimal v.x, is_word-signed_decimal v.y) (places_words vs)

cutoff_words : (cutoff : Option ℤ) → are_words (cutoff_fields cutoff) ≡ true
cutoff_words None = refl
cutoff_words (Some c) = rw (is_word-signed_decimal c) refl

point_words : (d : DemandPt) → are_words (point_line d) ≡ true
point_words d = rw (is_word-signed_decimal d.x, is_word-signed_decimal d.y, is_word-signed_decimal d.w) (cutoff_words d.cutoff)

all_words : {X : Type 0} (line : X → List (List ℕ)) → ((x : X) → are_words (line x) ≡ true) → (xs : List X) (rest : List (List (List ℕ))) → list_all are_words rest ≡ true → list_all are_words (map line xs ++ rest) ≡ true
all_words line each [] rest words = words
all_words line each (x ∷ xs) rest words = and_from _ _ (each x) (all_words line each xs rest words)

-- the version of an instance is a word
pub version_word : (cutoffs : Bool) → is_word (cond cutoffs (codes "2") (codes "1")) ≡ true
version_word true = refl
version_word false = refl

kind_words : (kind : Kind) → is_word (kind_field kind) ≡ true
kind_words Sum = refl
kind_words Max = refl

polygon_words : (word : List ℕ) → is_word word ≡ true → (vs : List Place) → are_words (polygon_line word vs) ≡ true
polygon_words word is vs = and_from _ _ is (places_words vs)

-- the lines of an instance are lines of words
pub AreWords-instance_lines : (i : Instance) → AreWords (instance_lines i)
AreWords-instance_lines i = record {
  test = rw (version_word (has_cutoff i), kind_words i.kind)
      (all_words point_line point_words i.points _
      (all_words (polygon_line (codes "permit")) (polygon_words (codes "permit") refl) i.permitted _
      (all_words (polygon_line (codes "forbid")) (polygon_words (codes "forbid") refl) i.forbidden _ refl)));
}

-- ---- the fields of a line are read back
within_again : (limit : ℕ) (z : ℤ) → limit < 10 ^ 64 → unsigned_abs z ≤ limit → within limit (number_of (signed_decimal z)) ≡ Value z
within_again limit z small h = rw (number_of-signed_decimal z (omega arith), le-leb (unsigned_abs z) limit h) refl

coordinate_again : (z : ℤ) → unsigned_abs z ≤ 1000000 → coordinate_of (signed_decimal z) ≡ Value z
coordinate_again z h = within_again 1000000 z (lit< tt) h

weight_again : (z : ℤ) → unsigned_abs z ≤ 16000000 → weight_of (signed_decimal z) ≡ Value z
weight_again z h = within_again 16000000 z (lit< tt) h

cutoff_again : (z : ℤ) → pos 1 ≤ℤ z → z ≤ℤ pos 4000000 → cutoff_of (signed_decimal z) ≡ Value z
cutoff_again z low high =
    let above : int_le (pos 1) z ≡ true = grind (arith, ints) in
    rw (within_again 4000000 z (lit< tt) (omega (arith, ints)), above) refl

not_zero : (w : ℤ) → w ≢ pos 0 → eqb (unsigned_abs w) 0 ≡ false
not_zero (pos zero) h = absurd (h refl)
not_zero (pos (suc n)) h = ne_eqb (suc n) 0 (λ same. omega arith)
not_zero (negsuc n) h = ne_eqb (suc n) 0 (λ same. omega arith)

point_again : (x y w : ℤ) (cutoff : Option ℤ) (cutoffs : Bool) → unsigned_abs x ≤ 1000000 → unsigned_abs y ≤ 1000000 → unsigned_abs w ≤ 16000000 → w ≢ pos 0 → MatchOption cutoff ⊤ (λ c. (pos 1 ≤ℤ c) × (c ≤ℤ pos 4000000)) → (is_some cutoff ≡ true → cutoffs ≡ true) → point_row cutoffs (signed_decimal x ∷ signed_decimal y ∷ signed_decimal w ∷ cutoff_fields cutoff) ≡ Ok (record { x = x; y = y; w = w; cutoff = cutoff })
point_again x y w None cutoffs in_x in_y in_w some in_cutoff may = rw (coordinate_again x in_x, coordinate_again y in_y, weight_again w in_w, not_zero w some) refl
point_again x y w (Some c) cutoffs in_x in_y in_w some in_cutoff may =
    rw (may refl, coordinate_again x in_x, coordinate_again y in_y, weight_again w in_w, cutoff_again c in_cutoff.0 in_cutoff.1, not_zero w some) refl

point_row-point : (d : DemandPt) (cutoffs : Bool) → IsDemandPt d → (is_some d.cutoff ≡ true → cutoffs ≡ true) → point_row cutoffs (signed_decimal d.x ∷ signed_decimal d.y ∷ signed_decimal d.w ∷ cutoff_fields d.cutoff) ≡ Ok d
point_row-point d cutoffs is may = point_again d.x d.y d.w d.cutoff cutoffs is.x is.y is.w is.w_not_zero is.cutoff may

numbers_again : (vs : List Place) → All IsPlace vs → are_numbers (place_fields vs) ≡ true
numbers_again [] all = refl
numbers_again (v ∷ vs) all =
    let place = All-head IsPlace v vs all in
    rw (coordinate_again v.x place.x, coordinate_again v.y place.y) (numbers_again vs (All-tail IsPlace v vs all))

coordinates_again : (vs : List Place) → All IsPlace vs → are_coordinates (place_fields vs) ≡ true
coordinates_again [] all = refl
coordinates_again (v ∷ vs) all =
    let place = All-head IsPlace v vs all in
    rw (coordinate_again v.x place.x, coordinate_again v.y place.y) (coordinates_again vs (All-tail IsPlace v vs all))

places_again : (vs : List Place) → All IsPlace vs → places_of (place_fields vs) ≡ vs
places_again [] all = refl
places_again (v ∷ vs) all =
    let place = All-head IsPlace v vs all in
    rw (coordinate_again v.x place.x, coordinate_again v.y place.y) (ap (λ ws. v ∷ ws) (places_again vs (All-tail IsPlace v vs all)))

length-place_fields : (vs : List Place) → length (place_fields vs) ≡ 2 * length vs
length-place_fields [] = refl
length-place_fields (v ∷ vs) = omega (arith, length-place_fields vs)

even : (n m : ℕ) → m ≡ 2 * n → eqb (m % 2) 0 ≡ true
even n m is = eq-eqb (m % 2) 0 (omega arith)

polygon_of-polygon : (vs : List Place) → IsPolygon vs → polygon_of vs ≡ Ok vs
polygon_of-polygon vs is =
    rw (le-ltb (length vs) 3 is.few, le-ltb 64 (length vs) is.many, turned_is vs is, (is_convex-iff vs).1 is.convex) refl

polygon_row-polygon : (vs : List Place) → IsPolygon vs → polygon_row (place_fields vs) ≡ Ok vs
polygon_row-polygon vs is =
    rw (even (length vs) _ (length-place_fields vs), numbers_again vs is.places, coordinates_again vs is.places, places_again vs is.places) (polygon_of-polygon vs is)

-- ---- the lines are read one after another
-- wherever they stand, these lines give this instance
Reads : List (List (List ℕ)) → Found → Instance → Type 0
Reads rows found i = (line : ℕ) → read_rows line rows found ≡ Ok i

reads_line : (row : List (List ℕ)) (rows : List (List (List ℕ))) (found next : Found) (i : Instance) → take_line row found ≡ Ok next → Reads rows next i → Reads (row ∷ rows) found i
unfolding Reads
reads_line row rows found next i step reads line = rw step (reads (line + 1))

abbrev body : Bool → Kind → List DemandPt → List (List Place) → List (List Place) → Found
body cutoffs kind points permitted forbidden =
    record { phase = Body cutoffs; kind = Some kind; points = points; permitted = permitted; forbidden = forbidden }

header_line : (cutoffs : Bool) → take_line (codes "siting" ∷ cond cutoffs (codes "2") (codes "1") ∷ []) nothing_found ≡ Ok (record nothing_found { phase = Body cutoffs })
header_line true = refl
header_line false = refl

kind_line : (cutoffs : Bool) (kind : Kind) → take_line (codes "kind" ∷ kind_field kind ∷ []) (record nothing_found { phase = Body cutoffs }) ≡ Ok (body cutoffs kind [] [] [])
unfolding take_row
kind_line cutoffs Sum = refl
kind_line cutoffs Max = refl

-- the weight of points and of more points
pub weight-append : (ps qs : List DemandPt) → weight (ps ++ qs) ≡ weight ps + weight qs
unfolding weight
weight-append ps qs = sum_by-append (λ (d : DemandPt). unsigned_abs d.w) ps qs

take_point_line : (cutoffs : Bool) (kind : Kind) (points : List DemandPt) (d : DemandPt) → IsDemandPt d → (is_some d.cutoff ≡ true → cutoffs ≡ true) → length points < 4096 → weight (points ++ d ∷ []) ≤ 16000000 → take_line (point_line d) (body cutoffs kind points [] []) ≡ Ok (body cutoffs kind (points ++ d ∷ []) [] [])
unfolding take_row
take_point_line cutoffs kind points d is may few light =
    rw (point_row-point d cutoffs is may, lt-leb 4096 (length points) few, le-leb (weight (points ++ d ∷ [])) 16000000 light) refl

-- the lines of the points, after some points
reads_points : (cutoffs : Bool) (kind : Kind) (points ds : List DemandPt) (rows : List (List (List ℕ))) (i : Instance) → All IsDemandPt ds → (list_any (λ (d : DemandPt). is_some d.cutoff) ds ≡ true → cutoffs ≡ true) → length points + length ds ≤ 4096 → weight (points ++ ds) ≤ 16000000 → Reads rows (body cutoffs kind (points ++ ds) [] []) i → Reads (map point_line ds ++ rows) (body cutoffs kind points [] []) i
reads_points cutoffs kind points [] rows i are may few light reads = rw append-nil at reads
reads_points cutoffs kind points (d ∷ ds) rows i are may few light reads =
    let moved : points ++ (d ∷ ds) ≡ (points ++ d ∷ []) ++ ds = sym (append_assoc points (d ∷ []) ds) in
    let light' : weight ((points ++ d ∷ []) ++ ds) ≤ 16000000 = rw moved at light in
    let reads' : Reads rows (body cutoffs kind ((points ++ d ∷ []) ++ ds) [] []) i = rw moved at reads in
    reads_line (point_line d) (map point_line ds ++ rows) (body cutoffs kind points [] []) (body cutoffs kind (points ++ d ∷ []) [] []) i
    (take_point_line cutoffs kind points d (All-head IsDemandPt d ds are) (λ h. may (or_left _ _ h)) (omega arith) (omega (arith, weight-append (points ++ d ∷ []) ds)))
    (reads_points cutoffs kind (points ++ d ∷ []) ds rows i (All-tail IsDemandPt d ds are) (λ h. may (or_right _ _ h)) (omega (arith, length-append points (d ∷ []))) light' reads')

take_permit_line : (cutoffs : Bool) (kind : Kind) (points : List DemandPt) (permitted : List (List Place)) (vs : List Place) → IsPolygon vs → length permitted < 64 → take_line (polygon_line (codes "permit") vs) (body cutoffs kind points permitted []) ≡ Ok (body cutoffs kind points (permitted ++ vs ∷ []) [])
unfolding take_row
take_permit_line cutoffs kind points permitted vs is few = rw (polygon_row-polygon vs is, lt-leb 64 (length permitted) few) refl

-- the lines of the permitted polygons, after some of them
reads_permits : (cutoffs : Bool) (kind : Kind) (points : List DemandPt) (permitted polygons : List (List Place)) (rows : List (List (List ℕ))) (i : Instance) → All IsPolygon polygons → length permitted + length polygons ≤ 64 → Reads rows (body cutoffs kind points (permitted ++ polygons) []) i → Reads (map (polygon_line (codes "permit")) polygons ++ rows) (body cutoffs kind points permitted []) i
reads_permits cutoffs kind points permitted [] rows i are few reads = rw append-nil at reads
reads_permits cutoffs kind points permitted (vs ∷ polygons) rows i are few reads =
    let moved : permitted ++ (vs ∷ polygons) ≡ (permitted ++ vs ∷ []) ++ polygons = sym (append_assoc permitted (vs ∷ []) polygons) in
    let reads' : Reads rows (body cutoffs kind points ((permitted ++ vs ∷ []) ++ polygons) []) i = rw moved at reads in
    reads_line (polygon_line (codes "permit") vs) (map (polygon_line (codes "permit")) polygons ++ rows) (body cutoffs kind points permitted []) (body cutoffs kind points (permitted ++ vs ∷ []) []) i
    (take_permit_line cutoffs kind points permitted vs (All-head IsPolygon vs polygons are) (omega arith))
    (reads_permits cutoffs kind points (permitted ++ vs ∷ []) polygons rows i (All-tail IsPolygon vs polygons are) (omega (arith, length-append permitted (vs ∷ []))) reads')

take_forbid_line : (cutoffs : Bool) (kind : Kind) (points : List DemandPt) (permitted forbidden : List (List Place)) (vs : List Place) → IsPolygon vs → length forbidden < 64 → take_line (polygon_line (codes "forbid") vs) (body cutoffs kind points permitted forbidden) ≡ Ok (body cutoffs kind points permitted (forbidden ++ vs ∷ []))
unfolding take_row
take_forbid_line cutoffs kind points permitted forbidden vs is few = rw (polygon_row-polygon vs is, lt-leb 64 (length forbidden) few) refl

-- and of the forbidden ones
reads_forbids : (cutoffs : Bool) (kind : Kind) (points : List DemandPt) (permitted forbidden polygons : List (List Place)) (rows : List (List (List ℕ))) (i : Instance) → All IsPolygon polygons → length forbidden + length polygons ≤ 64 → Reads rows (body cutoffs kind points permitted (forbidden ++ polygons)) i → Reads (map (polygon_line (codes "forbid")) polygons ++ rows) (body cutoffs kind points permitted forbidden) i
reads_forbids cutoffs kind points permitted forbidden [] rows i are few reads = rw append-nil at reads
reads_forbids cutoffs kind points permitted forbidden (vs ∷ polygons) rows i are few reads =
    let moved : forbidden ++ (vs ∷ polygons) ≡ (forbidden ++ vs ∷ []) ++ polygons = sym (append_assoc forbidden (vs ∷ []) polygons) in
    let reads' : Reads rows (body cutoffs kind points permitted ((forbidden ++ vs ∷ []) ++ polygons)) i = rw moved at reads in
    reads_line (polygon_line (codes "forbid") vs) (map (polygon_line (codes "forbid")) polygons ++ rows) (body cutoffs kind points permitted forbidden) (body cutoffs kind points permitted (forbidden ++ vs ∷ [])) i
    (take_forbid_line cutoffs kind points permitted forbidden vs (All-head IsPolygon vs polygons are) (omega arith))
    (reads_forbids cutoffs kind points permitted (forbidden ++ vs ∷ []) polygons rows i (All-tail IsPolygon vs polygons are) (omega (arith, length-append forbidden (vs ∷ []))) reads')

reads_end : (cutoffs : Bool) (kind : Kind) (points : List DemandPt) (permitted forbidden : List (List Place)) → 1 ≤ length points → 1 ≤ length permitted → Reads ((codes "end" ∷ []) ∷ []) (body cutoffs kind points permitted forbidden) (record { kind = kind; points = points; permitted = permitted; forbidden = forbidden })
unfolding take_row Reads
reads_end cutoffs kind [] permitted forbidden some_points some_permitted line = absurd (omega arith)
reads_end cutoffs kind (d ∷ ds) [] forbidden some_points some_permitted line = absurd (omega arith)
reads_end cutoffs kind (d ∷ ds) (vs ∷ polygons) forbidden some_points some_permitted line = refl

-- all lines of an instance, one after another
reads_instance : (i : Instance) → IsInstance i → Reads (instance_lines i) nothing_found i
reads_instance i is =
    let cutoffs = has_cutoff i in
    let closing = reads_end cutoffs i.kind i.points i.permitted i.forbidden is.few_points is.few_permitted in
    let forbids = reads_forbids cutoffs i.kind i.points i.permitted [] i.forbidden ((codes "end" ∷ []) ∷ []) i is.forbidden (omega (arith, is.many_forbidden)) closing in
    let permits = reads_permits cutoffs i.kind i.points [] i.permitted (map (polygon_line (codes "forbid")) i.forbidden ++ (codes "end" ∷ []) ∷ []) i is.permitted (omega (arith, is.many_permitted)) forbids in
    let points = reads_points cutoffs i.kind [] i.points (map (polygon_line (codes "permit")) i.permitted ++ (map (polygon_line (codes "forbid")) i.forbidden ++ (codes "end" ∷ []) ∷ [])) i is.points (λ h. h) (omega (arith, is.many_points)) is.weight permits in
    reads_line _ _ nothing_found (record nothing_found { phase = Body cutoffs }) i (header_line cutoffs)
    (reads_line _ _ (record nothing_found { phase = Body cutoffs }) (body cutoffs i.kind [] [] []) i (kind_line cutoffs i.kind) points)

-- the canonical text of a lawful instance is read back as that instance
pub reading-instance_text : (i : Instance) → IsInstance i → reading (instance_text i) ≡ Ok i
unfolding reading instance_text Reads
reading-instance_text i is =
    ap (λ rows. read_rows 1 rows nothing_found) (rows_of-text_of (instance_lines i) (AreWords-instance_lines i)) ∙ reads_instance i is 1

-- no text is the canonical text of two lawful instances
pub instance_text_injective : (i j : Instance) → IsInstance i → IsInstance j → instance_text i ≡ instance_text j → i ≡ j
instance_text_injective i j is_i is_j same =
    let left : Result Instance InstanceFault = Ok i in
    let right : Result Instance InstanceFault = Ok j in
    let read : left ≡ right = sym (reading-instance_text i is_i) ∙ ap reading same ∙ reading-instance_text j is_j in
    cc
