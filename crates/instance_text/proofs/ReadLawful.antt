-- What a text says is an instance within the limits.
use Rattle.std.proofs.Common.{◌≡◌, ◌≢◌, ◌⊎◌, ℕ, ◌+◌, ◌-◌, ◌%◌, ◌<◌, ◌≤◌, eqb, leb, ltb, Bool, true, false, cond, ℤ, pos, ◌≤ℤ◌, List, [], ◌∷◌, ◌++◌, length, codes, Option, Some, None, Result, Ok, Err, refl, ap, subst, inl, inr, ⊎_elim, arith}
use Rattle.std.specs.Prelude.{unsigned_abs, int_le, int_lt, is_some, All, MatchOption, ⊤, reverse, nat_le}
use Rattle.std.specs.Str.{bytes_eq}
use Rattle.std.proofs.lemmas.Bool.{leb-true, leb-false, ltb-false, eqb-false, cond_both}
use Rattle.std.proofs.lemmas.List.{length-append, length-reverse, get_or-reverse}
use Rattle.std.proofs.lemmas.List.Elements.{All-nil, All-cons, All-head, All-tail, All-push}
use Rattle.siting_definitions.specs.declared.Kind.{Kind}
use Rattle.siting_definitions.specs.Point.{Place}
use Rattle.siting_definitions.specs.Polygon.{doubled_area, turned}
use Rattle.siting_definitions.specs.Instance.{DemandPt, Instance, weight, IsPlace, IsDemandPt, IsPolygon, IsInstance}
use Rattle.text_lines.specs.declared.numbers.NumberField.{NumberField}
use Rattle.text_lines.specs.declared.numbers.NumberField.TheVariants.{NotANumber, Beyond, Value}
use Rattle.text_lines.specs.Numbers.{number_of, within, HasSize}
use Rattle.text_lines.specs.Lines.{is_passed_over}
use Rattle.instance_text.specs.Phase.{Phase, Start, Body, Ended}
use Rattle.convex_region.specs.Convex.{is_convex}
use Rattle.instance_text.specs.Rows.{kind_row, coordinate_of, weight_of, cutoff_of, above_zero, IsCutoff, demand_of, cut_demand_of, point_row, number_in, place_from, places_of, polygon_of, polygon_row, are_numbers, are_coordinates}
use Rattle.instance_text.specs.Reading.{Found, nothing_found, take_version, take_header, take_kind, take_point, add_polygon, take_permit, take_forbid, close, in_phase, take_end, take_row, take_fields, take_line, finish, at_line, and_then, read_rows, reading}
use Rattle.instance_text.specs.KeepsLimits.{IsWhole}
use Rattle.convex_region.proofs.Convexity.{is_convex-iff}
use Rattle.convex_region.proofs.Edges.{length-turned}
use Rattle.instance_text.proofs.Limits.{whole_push}
use Rattle.text_lines.specs.Words.{rows_of}
use borrow.Author.Differences.{ints}

-- a choice that answered a value was made for a test that passed
pub chosen : {T E : Type 0} (b : Bool) (first : Result T E) (e : E) (x : T) → cond b first (Err e) ≡ Ok x → (b ≡ true) × (first ≡ Ok x)
chosen true first e x is = (refl, is)
chosen false first e x is = absurd cc

-- and one for a test that did not pass
pub refused : {T E : Type 0} (b : Bool) (second : Result T E) (e : E) (x : T) → cond b (Err e) second ≡ Ok x → (b ≡ false) × (second ≡ Ok x)
refused true second e x is = absurd cc
refused false second e x is = (refl, is)

-- of two steps that answered a value, the first answered one from which the second made it
pub then_ok : {T U E : Type 0} (r : Result T E) (more : T → Result U E) (x : U) → and_then r more ≡ Ok x → (t : T) × ((r ≡ Ok t) × (more t ≡ Ok x))
then_ok (Ok value) more x is = (value, (refl, is))
then_ok (Err error) more x is = absurd cc

-- ---- numbers
HasSize-within : (limit : ℕ) (o : Option ℤ) → HasSize limit (within limit o)
HasSize-within limit None = tt
HasSize-within limit (Some z) = sized (nat_le (unsigned_abs z) limit) (leb-true (unsigned_abs z) limit) where
  sized : (b : Bool) → (b ≡ true → unsigned_abs z ≤ limit) → HasSize limit (cond b (Value z) Beyond)
  sized true h = h refl
  sized false h = tt

-- a cutoff that was read is within the limits
IsCutoff-above_zero : (w : NumberField) → HasSize 4000000 w → IsCutoff (above_zero w)
IsCutoff-above_zero NotANumber size = tt
IsCutoff-above_zero Beyond size = tt
IsCutoff-above_zero (Value z) size = positive (int_le (pos 1) z) (λ above. (grind (arith, ints), omega (arith, ints))) where
  positive : (b : Bool) → (b ≡ true → (pos 1 ≤ℤ z) × (z ≤ℤ pos 4000000)) → IsCutoff (cond b (Value z) Beyond)
  positive true h = h refl
  positive false h = tt

-- ---- points
IsDemandPt-point_of : (x y w : NumberField) (cutoff : Option ℤ) (d : DemandPt) → HasSize 1000000 x → HasSize 1000000 y → HasSize 16000000 w → MatchOption cutoff ⊤ (λ c. (pos 1 ≤ℤ c) × (c ≤ℤ pos 4000000)) → demand_of x y w cutoff ≡ Ok d → IsDemandPt d
IsDemandPt-point_of (Value x) (Value y) (Value w) cutoff d size_x size_y size_w cut is =
    let made = refused (eqb (unsigned_abs w) 0) (Ok (record { x = x; y = y; w = w; cutoff = cutoff })) 5 d is in
    let some : w ≢ pos 0 = λ same. eqb-false (unsigned_abs w) 0 made.0 (rw same refl) in
    let whole : IsDemandPt (record { x = x; y = y; w = w; cutoff = cutoff }) = record { x = size_x; y = size_y; w = size_w; w_not_zero = some; cutoff = cut } in
    let same : record { x = x; y = y; w = w; cutoff = cutoff } ≡ d = cc (made.1) in
    subst IsDemandPt same whole
IsDemandPt-point_of NotANumber y w cutoff d size_x size_y size_w cut is = absurd cc
IsDemandPt-point_of Beyond NotANumber w cutoff d size_x size_y size_w cut is = absurd cc
IsDemandPt-point_of (Value x) NotANumber w cutoff d size_x size_y size_w cut is = absurd cc
IsDemandPt-point_of Beyond Beyond NotANumber cutoff d size_x size_y size_w cut is = absurd cc
IsDemandPt-point_of Beyond Beyond Beyond cutoff d size_x size_y size_w cut is = absurd cc
IsDemandPt-point_of Beyond Beyond (Value w) cutoff d size_x size_y size_w cut is = absurd cc
IsDemandPt-point_of Beyond (Value y) NotANumber cutoff d size_x size_y size_w cut is = absurd cc
IsDemandPt-point_of Beyond (Value y) Beyond cutoff d size_x size_y size_w cut is = absurd cc
IsDemandPt-point_of Beyond (Value y) (Value w) cutoff d size_x size_y size_w cut is = absurd cc
IsDemandPt-point_of (Value x) Beyond NotANumber cutoff d size_x size_y size_w cut is = absurd cc
IsDemandPt-point_of (Value x) Beyond Beyond cutoff d size_x size_y size_w cut is = absurd cc
IsDemandPt-point_of (Value x) Beyond (Value w) cutoff d size_x size_y size_w cut is = absurd cc
IsDemandPt-point_of (Value x) (Value y) NotANumber cutoff d size_x size_y size_w cut is = absurd cc
IsDemandPt-point_of (Value x) (Value y) Beyond cutoff d size_x size_y size_w cut is = absurd cc

IsDemandPt-cut_point_of : (x y w c : NumberField) (d : DemandPt) → HasSize 1000000 x → HasSize 1000000 y → HasSize 16000000 w → IsCutoff c → cut_demand_of x y w c ≡ Ok d → IsDemandPt d
IsDemandPt-cut_point_of x y w NotANumber d size_x size_y size_w cut is = absurd cc
IsDemandPt-cut_point_of x y w Beyond d size_x size_y size_w cut is = absurd cc
IsDemandPt-cut_point_of x y w (Value c) d size_x size_y size_w cut is = IsDemandPt-point_of x y w (Some c) d size_x size_y size_w cut is

-- so is a demand point
IsDemandPt-point_row : (cutoffs : Bool) (fields : List (List ℕ)) (d : DemandPt) → point_row cutoffs fields ≡ Ok d → IsDemandPt d
IsDemandPt-point_row cutoffs (x ∷ y ∷ w ∷ []) d is =
    IsDemandPt-point_of (coordinate_of x) (coordinate_of y) (weight_of w) None d (HasSize-within 1000000 (number_of x)) (HasSize-within 1000000 (number_of y)) (HasSize-within 16000000 (number_of w)) tt is
IsDemandPt-point_row cutoffs (x ∷ y ∷ w ∷ c ∷ []) d is =
    let made = chosen cutoffs (cut_demand_of (coordinate_of x) (coordinate_of y) (weight_of w) (cutoff_of c)) 2 d is in
    IsDemandPt-cut_point_of (coordinate_of x) (coordinate_of y) (weight_of w) (cutoff_of c) d (HasSize-within 1000000 (number_of x)) (HasSize-within 1000000 (number_of y)) (HasSize-within 16000000 (number_of w)) (IsCutoff-above_zero _ (HasSize-within 4000000 (number_of c))) made.1
IsDemandPt-point_row cutoffs fields d is = absurd cc

-- ---- polygons
small_number : (w : NumberField) → HasSize 1000000 w → unsigned_abs (number_in w) ≤ 1000000
small_number (Value z) size = size
small_number other size = omega arith

IsPlace-place_from : (x y : List ℕ) → IsPlace (place_from x y)
IsPlace-place_from x y = record { x = small_number _ (HasSize-within 1000000 (number_of x)); y = small_number _ (HasSize-within 1000000 (number_of y)) }

All-places_of : (fields : List (List ℕ)) → All IsPlace (places_of fields)
All-places_of [] = All-nil IsPlace
All-places_of (x ∷ []) = All-nil IsPlace
All-places_of (x ∷ y ∷ fields) = All-cons IsPlace (place_from x y) (places_of fields) (IsPlace-place_from x y) (All-places_of fields)

All-reverse : (vs : List Place) → All IsPlace vs → All IsPlace (reverse vs)
All-reverse vs all k d h =
    let inside : k < length vs = omega (arith, h, length-reverse vs) in
    rw (get_or-reverse vs k d inside) (all (length vs - 1 - k) d (omega arith))

-- turning a polygon leaves its places within the limits
All-turned : (vs : List Place) → All IsPlace vs → All IsPlace (turned vs)
unfolding turned
All-turned [] all = cond_both (int_lt (doubled_area []) (pos 0)) [] [] (λ (ws : List Place). All IsPlace ws) (λ _. all) (λ _. all)
All-turned (v ∷ vs) all =
    cond_both (int_lt (doubled_area (v ∷ vs)) (pos 0)) (v ∷ reverse vs) (v ∷ vs) (λ (ws : List Place). All IsPlace ws)
    (λ _. All-cons IsPlace v (reverse vs) (All-head IsPlace v vs all) (All-reverse vs (All-tail IsPlace v vs all)))
    (λ _. all)

-- a polygon that places within the limits make is within the limits
IsPolygon-polygon_of : (vs polygon : List Place) → All IsPlace vs → polygon_of vs ≡ Ok polygon → IsPolygon polygon
IsPolygon-polygon_of vs polygon all is =
    let few = refused (ltb (length vs) 3) _ 8 polygon is in
    let many = refused (ltb 64 (length vs)) _ 9 polygon few.1 in
    let convex = chosen (is_convex (turned vs)) (Ok (turned vs)) 10 polygon many.1 in
    let same : turned vs ≡ polygon = cc (convex.1) in
    let long = length-turned vs in
    let few' = ltb-false (length vs) 3 few.0 in
    let many' = ltb-false 64 (length vs) many.0 in
    let whole : IsPolygon (turned vs) = record { few = omega arith; many = omega arith; places = All-turned vs all; convex = (is_convex-iff (turned vs)).0 convex.0 } in
    subst IsPolygon same whole

-- and a polygon that was read is within them
IsPolygon-polygon_row : (fields : List (List ℕ)) (polygon : List Place) → polygon_row fields ≡ Ok polygon → IsPolygon polygon
IsPolygon-polygon_row fields polygon is =
    let even = chosen (eqb (length fields % 2) 0) _ 2 polygon is in
    let numbers = chosen (are_numbers fields) _ 3 polygon even.1 in
    let coordinates = chosen (are_coordinates fields) (polygon_of (places_of fields)) 4 polygon numbers.1 in
    IsPolygon-polygon_of (places_of fields) polygon (All-places_of fields) coordinates.1

-- ---- lines
-- demand points within the limits
record ArePointsWithin (points : List DemandPt) : Type 0 where
  light : weight points ≤ 16000000
  many : length points ≤ 4096
  all : All IsDemandPt points

-- polygons within the limits
record ArePolygonsWithin (polygons : List (List Place)) : Type 0 where
  many : length polygons ≤ 64
  all : All IsPolygon polygons

-- what was found is within the limits
record IsFoundWithin (found : Found) : Type 0 where
  points : ArePointsWithin found.points
  permitted : ArePolygonsWithin found.permitted
  forbidden : ArePolygonsWithin found.forbidden
  whole : IsWhole found.phase found

-- a choice gives one of its two results
either : {T E : Type 0} (b : Bool) (first second : Result T E) (x : T) → cond b first second ≡ Ok x → (first ≡ Ok x) ⊎ (second ≡ Ok x)
either true first second x is = inl is
either false first second x is = inr is

-- a phase that isn't the end, with what was found
in_body : (cutoffs : Bool) (found : Found) → IsFoundWithin found → IsFoundWithin (record found { phase = Body cutoffs })
in_body cutoffs found lawful =
    record { points = lawful.points; permitted = lawful.permitted; forbidden = lawful.forbidden; whole = tt }

-- what was found is what the step before left
became : (found next : Found) → IsFoundWithin found → (let made : Result Found ℕ = Ok found in made ≡ Ok next) → IsFoundWithin next
became found next lawful is = let same : found ≡ next = cc in subst IsFoundWithin same lawful

taken_version : (version : List ℕ) (found next : Found) → IsFoundWithin found → take_version version found ≡ Ok next → IsFoundWithin next
taken_version version found next lawful is =
    ⊎_elim (λ first. became _ next (in_body false found lawful) first)
    (λ second. became _ next (in_body true found lawful) (chosen (bytes_eq version (codes "2")) _ 1 next second).1)
    (either (bytes_eq version (codes "1")) (Ok (record found { phase = Body false })) _ next is)

-- the header leaves what was found within the limits
taken_header : (fields : List (List ℕ)) (found next : Found) → IsFoundWithin found → take_header fields found ≡ Ok next → IsFoundWithin next
taken_header (word ∷ version ∷ []) found next lawful is =
    taken_version version found next lawful (chosen (bytes_eq word (codes "siting")) (take_version version found) 1 next is).1
taken_header fields found next lawful is = absurd cc

-- each row leaves what was found within the limits: a kind
taken_kind : (row : Result Kind ℕ) (found next : Found) → IsFoundWithin found → take_kind row found ≡ Ok next → IsFoundWithin next
taken_kind (Err number) found next lawful is = absurd cc
taken_kind (Ok kind) found next lawful is =
    let made = refused (is_some found.kind) _ 13 next is in
    let kept : IsFoundWithin (record found { kind = Some kind }) = record {
      points = lawful.points;
      permitted = lawful.permitted;
      forbidden = lawful.forbidden;
      whole = whole_kind found.phase found kind lawful.whole;
    } in
    became _ next kept made.1 where
      whole_kind : (phase : Phase) (found : Found) (kind : Kind) → IsWhole phase found → IsWhole phase (record found { kind = Some kind })
      whole_kind Start found kind whole = tt
      whole_kind (Body cutoffs) found kind whole = tt
      whole_kind (Ended k) found kind whole = whole

-- a point
taken_point : (row : Result DemandPt ℕ) (found next : Found) → ((d : DemandPt) → row ≡ Ok d → IsDemandPt d) → IsFoundWithin found → take_point row found ≡ Ok next → IsFoundWithin next
taken_point (Err number) found next told lawful is = absurd cc
taken_point (Ok point) found next told lawful is =
    let more = found.points ++ point ∷ [] in
    let few = refused (leb 4096 (length found.points)) _ 6 next is in
    let light = chosen (leb (weight more) 16000000) (Ok (record found { points = more })) 7 next few.1 in
    let below = leb-false 4096 (length found.points) few.0 in
    let longer = length-append found.points (point ∷ []) in
    let kept : IsFoundWithin (record found { points = more }) = record {
      points = record {
        light = leb-true (weight more) 16000000 light.0;
        many = omega arith;
        all = All-push IsDemandPt found.points point lawful.points.all (told point refl);
      };
      permitted = lawful.permitted;
      forbidden = lawful.forbidden;
      whole = whole_push found.phase found more (omega arith) lawful.whole;
    } in
    became _ next kept light.1

whole_permit : (phase : Phase) (found : Found) (permitted : List (List Place)) → length found.permitted ≤ length permitted → IsWhole phase found → IsWhole phase (record found { permitted = permitted })
whole_permit Start found permitted more whole = tt
whole_permit (Body cutoffs) found permitted more whole = tt
whole_permit (Ended kind) found permitted more whole = (whole.0, omega (arith, whole.1))

-- one polygon more, where there is room for it, is within the limits too
record AreMorePolygons (before after : List (List Place)) : Type 0 where
  more : length before ≤ length after
  within : ArePolygonsWithin after

-- polygons to which one was added
added_polygon : (row : Result (List Place) ℕ) (before after : List (List Place)) → ((p : List Place) → row ≡ Ok p → IsPolygon p) → ArePolygonsWithin before → add_polygon row before ≡ Ok after → AreMorePolygons before after
added_polygon (Err number) before after told lawful is = absurd cc
added_polygon (Ok polygon) before after told lawful is =
    let few = refused (leb 64 (length before)) (Ok (before ++ polygon ∷ [])) 11 after is in
    let below = leb-false 64 (length before) few.0 in
    let longer = length-append before (polygon ∷ []) in
    let kept : AreMorePolygons before (before ++ polygon ∷ []) = record {
      more = omega arith;
      within = record { many = omega arith; all = All-push IsPolygon before polygon lawful.all (told polygon refl) };
    } in
    let same : before ++ polygon ∷ [] ≡ after = cc (few.1) in
    subst (AreMorePolygons before) same kept

-- a permitted polygon
taken_permit : (row : Result (List Place) ℕ) (found next : Found) → ((p : List Place) → row ≡ Ok p → IsPolygon p) → IsFoundWithin found → take_permit row found ≡ Ok next → IsFoundWithin next
taken_permit row found next told lawful is =
    let step = then_ok (add_polygon row found.permitted) (λ more. Ok (record found { permitted = more })) next is in
    let few = added_polygon row found.permitted step.0 told lawful.permitted step.1.0 in
    let kept : IsFoundWithin (record found { permitted = step.0 }) = record {
      points = lawful.points;
      permitted = few.within;
      forbidden = lawful.forbidden;
      whole = whole_permit found.phase found step.0 few.more lawful.whole;
    } in
    became _ next kept step.1.1

whole_forbid : (phase : Phase) (found : Found) (forbidden : List (List Place)) → IsWhole phase found → IsWhole phase (record found { forbidden = forbidden })
whole_forbid Start found forbidden whole = tt
whole_forbid (Body cutoffs) found forbidden whole = tt
whole_forbid (Ended kind) found forbidden whole = whole

-- a forbidden one
taken_forbid : (row : Result (List Place) ℕ) (found next : Found) → ((p : List Place) → row ≡ Ok p → IsPolygon p) → IsFoundWithin found → take_forbid row found ≡ Ok next → IsFoundWithin next
taken_forbid row found next told lawful is =
    let step = then_ok (add_polygon row found.forbidden) (λ more. Ok (record found { forbidden = more })) next is in
    let few = added_polygon row found.forbidden step.0 told lawful.forbidden step.1.0 in
    let kept : IsFoundWithin (record found { forbidden = step.0 }) = record {
      points = lawful.points;
      permitted = lawful.permitted;
      forbidden = few.within;
      whole = whole_forbid found.phase found step.0 lawful.whole;
    } in
    became _ next kept step.1.1

-- the end, after a point and a permitted polygon
closed : (kind : Option Kind) (points : List DemandPt) (permitted : List (List Place)) (found next : Found) → IsFoundWithin found → found.points ≡ points → found.permitted ≡ permitted → in_phase (close kind points permitted) found ≡ Ok next → IsFoundWithin next
closed None points permitted found next lawful is_points is_permitted is = absurd cc
closed (Some kind) [] permitted found next lawful is_points is_permitted is = absurd cc
closed (Some kind) (d ∷ ds) [] found next lawful is_points is_permitted is = absurd cc
closed (Some kind) (d ∷ ds) (vs ∷ polygons) found next lawful is_points is_permitted is =
    let kept : IsFoundWithin (record found { phase = Ended kind }) = record {
      points = lawful.points;
      permitted = lawful.permitted;
      forbidden = lawful.forbidden;
      whole = (rw is_points (omega arith), rw is_permitted (omega arith));
    } in
    became _ next kept is

-- so does the last line
taken_end : (fields : List (List ℕ)) (found next : Found) → IsFoundWithin found → take_end fields found ≡ Ok next → IsFoundWithin next
taken_end [] found next lawful is = closed found.kind found.points found.permitted found next lawful refl refl is
taken_end (field ∷ fields) found next lawful is = absurd cc

-- any row between the header and the end
taken_row : (cutoffs : Bool) (word : List ℕ) (fields : List (List ℕ)) (found next : Found) → IsFoundWithin found → take_row cutoffs word fields found ≡ Ok next → IsFoundWithin next
unfolding take_row
taken_row cutoffs word fields found next lawful is =
    ⊎_elim (taken_kind (kind_row fields) found next lawful)
    (λ more. ⊎_elim (taken_point (point_row cutoffs fields) found next (IsDemandPt-point_row cutoffs fields) lawful)
    (λ more. ⊎_elim (taken_permit (polygon_row fields) found next (IsPolygon-polygon_row fields) lawful)
    (λ more. ⊎_elim (taken_forbid (polygon_row fields) found next (IsPolygon-polygon_row fields) lawful)
    (λ more. taken_end fields found next lawful (chosen (bytes_eq word (codes "end")) (take_end fields found) 2 next more).1)
    (either (bytes_eq word (codes "forbid")) _ _ next more))
    (either (bytes_eq word (codes "permit")) _ _ next more))
    (either (bytes_eq word (codes "point")) _ _ next more))
    (either (bytes_eq word (codes "kind")) _ _ next is)

-- each line that counts
taken_fields : (phase : Phase) (fields : List (List ℕ)) (found next : Found) → IsFoundWithin found → take_fields phase fields found ≡ Ok next → IsFoundWithin next
taken_fields Start fields found next lawful is = taken_header fields found next lawful is
taken_fields (Body cutoffs) [] found next lawful is = became found next lawful is
taken_fields (Body cutoffs) (word ∷ fields) found next lawful is = taken_row cutoffs word fields found next lawful is
taken_fields (Ended kind) fields found next lawful is = absurd cc

-- and each line
taken_line : (fields : List (List ℕ)) (found next : Found) → IsFoundWithin found → take_line fields found ≡ Ok next → IsFoundWithin next
taken_line fields found next lawful is =
    ⊎_elim (became found next lawful) (taken_fields found.phase fields found next lawful) (either (is_passed_over fields) (Ok found) (take_fields found.phase fields found) next is)

-- what was found at the end is an instance within the limits
ended : (phase : Phase) (found : Found) (i : Instance) → IsFoundWithin found → IsWhole phase found → finish phase found ≡ Ok i → IsInstance i
ended Start found i lawful whole is = absurd cc
ended (Body cutoffs) found i lawful whole is = absurd cc
ended (Ended kind) found i lawful whole is =
    let made : Instance = record { kind = kind; points = found.points; permitted = found.permitted; forbidden = found.forbidden } in
    let kept : IsInstance made = record {
      few_points = whole.0;
      many_points = lawful.points.many;
      points = lawful.points.all;
      weight = lawful.points.light;
      few_permitted = whole.1;
      many_permitted = lawful.permitted.many;
      permitted = lawful.permitted.all;
      many_forbidden = lawful.forbidden.many;
      forbidden = lawful.forbidden.all;
    } in
    let same : made ≡ i = cc in
    subst IsInstance same kept

-- where no fault was found, none is told
pub at_line-ok : {T : Type 0} (line : ℕ) (r : Result T ℕ) (x : T) → at_line line r ≡ Ok x → r ≡ Ok x
at_line-ok line (Ok value) x is = let same : value ≡ x = cc in ap Ok same
at_line-ok line (Err number) x is = absurd cc

-- so do all lines
read_lawful : (rows : List (List (List ℕ))) (line : ℕ) (found : Found) (i : Instance) → IsFoundWithin found → read_rows line rows found ≡ Ok i → IsInstance i
read_lawful [] line found i lawful is = ended found.phase found i lawful lawful.whole (at_line-ok line (finish found.phase found) i is)
read_lawful (fields ∷ rows) line found i lawful is =
    let step = then_ok (at_line line (take_line fields found)) (λ (next : Found). read_rows (line + 1) rows next) i is in
    read_lawful rows (line + 1) step.0 i (taken_line fields found step.0 lawful (at_line-ok line (take_line fields found) step.0 step.1.0)) step.1.1

-- nothing is within the limits
IsFoundWithin-nothing : IsFoundWithin nothing_found
unfolding weight
IsFoundWithin-nothing = record {
  points = record { light = omega arith; many = omega arith; all = All-nil IsDemandPt };
  permitted = record { many = omega arith; all = All-nil IsPolygon };
  forbidden = record { many = omega arith; all = All-nil IsPolygon };
  whole = tt;
}

-- an instance that a text says keeps the limits
pub IsInstance-reading : (bytes : List ℕ) (i : Instance) → reading bytes ≡ Ok i → IsInstance i
unfolding reading
IsInstance-reading bytes i is = read_lawful (rows_of bytes) 1 nothing_found i IsFoundWithin-nothing is
