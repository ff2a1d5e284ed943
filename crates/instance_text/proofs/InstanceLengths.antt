-- How long the canonical text of an instance can be.
use Rattle.std.proofs.Common.{◌≡◌, ◌⊎◌, inl, inr, ℕ, ◌+◌, ◌*◌, ◌<◌, ◌≤◌, Bool, true, false, cond, ℤ, pos, negsuc, ◌≤ℤ◌, List, [], ◌∷◌, ◌++◌, length, map, codes, Option, Some, None, refl, arith}
use Rattle.std.specs.Prelude.{unsigned_abs, All, MatchOption, ⊤}
use Rattle.std.specs.List.{flat_map}
use Rattle.std.specs.Fmt.{signed_decimal}
use Rattle.std.proofs.lemmas.Bool.{cases_lt}
use Rattle.std.proofs.lemmas.List.Sums.{sum_by-cons}
use Rattle.std.proofs.lemmas.List.Elements.{All-nil, All-cons, All-head, All-tail}
use borrow.Author.Differences.{ints}
use Rattle.siting_definitions.specs.declared.Kind.{Kind}
use Rattle.siting_definitions.specs.declared.Kind.TheVariants.{Sum, Max}
use Rattle.siting_definitions.specs.Point.{Place}
use Rattle.siting_definitions.specs.Instance.{DemandPt, Instance, weight, IsCoordinate, IsPlace, IsDemandPt, IsPolygon, IsInstance}
use Rattle.siting_definitions.specs.Line.{line_text, text_of}
use Rattle.siting_definitions.specs.InstanceText.{has_cutoff, version_field, kind_field, cutoff_fields, point_line, polygon_line, instance_lines, instance_text}
use Rattle.text_lines.proofs.LineLengths.{count_length, number_length, width, length-line_text, length-text_of-append, length-text_of-cons, lines_length}

-- ---- numbers
coordinate_length : (z : ℤ) → IsCoordinate z → length (signed_decimal z) ≤ 8
coordinate_length z is = number_length 7 z (omega arith) (omega arith) (omega arith)

-- a weight of n is about 5 + n / 9000 bytes long at most: a longer one leaves less for the others
weight_length : (z : ℤ) → unsigned_abs z ≤ 16000000 → 9000 * length (signed_decimal z) ≤ 44000 + unsigned_abs z
weight_length z is = by_size (cases_lt (unsigned_abs z) 1000) (cases_lt (unsigned_abs z) 10000) (cases_lt (unsigned_abs z) 100000)
  where
    by_size : (unsigned_abs z < 1000) ⊎ (1000 ≤ unsigned_abs z) → (unsigned_abs z < 10000) ⊎ (10000 ≤ unsigned_abs z)
        → (unsigned_abs z < 100000) ⊎ (100000 ≤ unsigned_abs z)
        → 9000 * length (signed_decimal z) ≤ 44000 + unsigned_abs z
    by_size (inl below) _ _ = omega (arith, number_length 3 z (omega arith) (omega arith) (omega arith))
    by_size (inr from) (inl below) _ = omega (arith, number_length 4 z (omega arith) (omega arith) (omega arith))
    by_size (inr _) (inr from) (inl below) = omega (arith, number_length 5 z (omega arith) (omega arith) (omega arith))
    by_size (inr _) (inr _) (inr from) = omega (arith, number_length 8 z (omega arith) (omega arith) (omega arith))

-- a cutoff is written in at most 7 digits, after a space
cutoff_width : (cutoff : Option ℤ) → MatchOption cutoff ⊤ (λ c. (pos 1 ≤ℤ c) × (c ≤ℤ pos 4000000)) → width (cutoff_fields cutoff) ≤ 8
unfolding width
cutoff_width None is = omega arith
cutoff_width (Some (pos n)) is =
    let high = is.1 in
    let small : n ≤ 4000000 = omega (arith, ints) in
    omega (arith, count_length 7 n (omega arith) (omega arith) (omega arith))
cutoff_width (Some (negsuc n)) is = let low = is.0 in absurd (omega (arith, ints))

-- ---- lines
-- the line of a point, by the digits of its weight
point_width : (d : DemandPt) → IsDemandPt d → length (line_text (point_line d)) ≤ 33 + length (signed_decimal d.w)
unfolding width
point_width d is =
    omega (
      arith,
      length-line_text (codes "point") (signed_decimal d.x ∷ signed_decimal d.y ∷ signed_decimal d.w ∷ cutoff_fields d.cutoff),
      coordinate_length d.x is.x,
      coordinate_length d.y is.y,
      cutoff_width d.cutoff is.cutoff,
    )

-- by its weight
point_length : (d : DemandPt) → IsDemandPt d → 9000 * length (line_text (point_line d)) ≤ 341000 + unsigned_abs d.w
point_length d is = omega (arith, point_width d is, weight_length d.w is.w)

-- and alone
point_short : (d : DemandPt) → IsDemandPt d → length (line_text (point_line d)) ≤ 42
point_short d is = omega (arith, point_width d is, number_length 8 d.w (omega arith) (omega (arith, is.w)) (omega (arith, is.w)))

-- the lines of points whose weights are known together
points_length : (ds : List DemandPt) → All IsDemandPt ds → 9000 * length (text_of (map point_line ds)) ≤ 341000 * length ds + weight ds
unfolding weight
points_length [] are = omega arith
points_length (d ∷ ds) are =
    omega (
      arith,
      length-text_of-cons (point_line d) (map point_line ds),
      point_length d (All-head IsDemandPt d ds are),
      points_length ds (All-tail IsDemandPt d ds are),
      sum_by-cons (λ (e : DemandPt). unsigned_abs e.w) d ds,
    )

abbrev place_fields : List Place → List (List ℕ)
place_fields vs = flat_map (λ (v : Place). signed_decimal v.x ∷ signed_decimal v.y ∷ []) vs

-- the fields of places
places_width : (vs : List Place) → All IsPlace vs → width (place_fields vs) ≤ 18 * length vs
unfolding width
places_width [] are = omega arith
places_width (v ∷ vs) are =
    let is = All-head IsPlace v vs are in
    omega (arith, coordinate_length v.x is.x, coordinate_length v.y is.y, places_width vs (All-tail IsPlace v vs are))

-- the line of a polygon of at most 64 vertices
polygon_length : (word : List ℕ) (vs : List Place) → IsPolygon vs → length (line_text (polygon_line word vs)) ≤ length word + 1153
unfolding width
polygon_length word vs is =
    let many = is.many in omega (arith, length-line_text word (place_fields vs), places_width vs is.places)

header_length : (second : Bool) → length (line_text (codes "siting" ∷ cond second (codes "2") (codes "1") ∷ [])) ≡ 9
header_length true = refl
header_length false = refl

kind_length : (kind : Kind) → length (line_text (codes "kind" ∷ kind_field kind ∷ [])) ≡ 9
kind_length Sum = refl
kind_length Max = refl

-- ---- the text
-- the canonical text of an instance within the limits has at most 305,344 bytes
pub length-instance_text : (i : Instance) → IsInstance i → length (instance_text i) ≤ 305344
unfolding instance_text
length-instance_text i is =
    let end : List (List (List ℕ)) = (codes "end" ∷ []) ∷ [] in
    let forbids : List (List (List ℕ)) = map (polygon_line (codes "forbid")) i.forbidden ++ end in
    let permits : List (List (List ℕ)) = map (polygon_line (codes "permit")) i.permitted ++ forbids in
    let points : List (List (List ℕ)) = map point_line i.points ++ permits in
    let kind : List (List ℕ) = codes "kind" ∷ kind_field i.kind ∷ [] in
    let header : List (List ℕ) = codes "siting" ∷ version_field i ∷ [] in
    let many_points = is.many_points in
    let many_permitted = is.many_permitted in
    let many_forbidden = is.many_forbidden in
    let light = is.weight in
    omega (
      arith,
      length-text_of-cons header (kind ∷ points),
      header_length (has_cutoff i),
      length-text_of-cons kind points,
      kind_length i.kind,
      length-text_of-append (map point_line i.points) permits,
      points_length i.points is.points,
      length-text_of-append (map (polygon_line (codes "permit")) i.permitted) forbids,
      lines_length IsPolygon (polygon_line (codes "permit")) 1159 (polygon_length (codes "permit")) i.permitted is.permitted,
      length-text_of-append (map (polygon_line (codes "forbid")) i.forbidden) end,
      lines_length IsPolygon (polygon_line (codes "forbid")) 1159 (polygon_length (codes "forbid")) i.forbidden is.forbidden,
    )

-- ---- each line
abbrev IsShortLine : List (List ℕ) → Type 0
IsShortLine line = length (line_text line) < 1200

-- lines of one kind, each of which is short, before others
short_map : {X : Type 0} (P : X → Type 0) (line : X → List (List ℕ)) → ((x : X) → P x → IsShortLine (line x)) → (xs : List X) (rest : List (List (List ℕ)))
    → All P xs → All IsShortLine rest → All IsShortLine (map line xs ++ rest)
short_map P line each [] rest are short = short
short_map P line each (x ∷ xs) rest are short =
    All-cons IsShortLine (line x) (map line xs ++ rest) (each x (All-head P x xs are)) (short_map P line each xs rest (All-tail P x xs are) short)

-- each line of the canonical text of an instance within the limits is short
pub short_lines : (i : Instance) → IsInstance i → All IsShortLine (instance_lines i)
short_lines i is =
    let header : IsShortLine (codes "siting" ∷ version_field i ∷ []) = omega (arith, header_length (has_cutoff i)) in
    let kind : IsShortLine (codes "kind" ∷ kind_field i.kind ∷ []) = omega (arith, kind_length i.kind) in
    let end : IsShortLine (codes "end" ∷ []) = omega arith in
    let ends : List (List (List ℕ)) = (codes "end" ∷ []) ∷ [] in
    let forbids = map (polygon_line (codes "forbid")) i.forbidden ++ ends in
    let permits = map (polygon_line (codes "permit")) i.permitted ++ forbids in
    let points = map point_line i.points ++ permits in
    let kinds : List (List (List ℕ)) = (codes "kind" ∷ kind_field i.kind ∷ []) ∷ points in
    All-cons IsShortLine (codes "siting" ∷ version_field i ∷ []) kinds header
    (All-cons IsShortLine (codes "kind" ∷ kind_field i.kind ∷ []) points kind
    (short_map IsDemandPt point_line (λ d p. omega (arith, point_short d p)) i.points permits is.points
    (short_map IsPolygon (polygon_line (codes "permit")) (λ vs p. omega (arith, polygon_length (codes "permit") vs p)) i.permitted forbids is.permitted
    (short_map IsPolygon (polygon_line (codes "forbid")) (λ vs p. omega (arith, polygon_length (codes "forbid") vs p)) i.forbidden ends is.forbidden
    (All-cons IsShortLine (codes "end" ∷ []) [] end (All-nil IsShortLine))))))
