-- The canonical text, part by part.
use Rattle.std.proofs.Common.{◌≡◌, ℕ, List, [], ◌∷◌, ◌++◌, map, codes, refl, sym, ap, ◌∙◌, append_assoc}
use Rattle.std.specs.List.{flat_map}
use Rattle.std.specs.Fmt.{signed_decimal}
use Rattle.std.proofs.lemmas.List.Folds.{flat_map-map}
use Rattle.std.proofs.lemmas.List.Concat.{flat_map-append}
use Rattle.siting_definitions.specs.Point.{Place}
use Rattle.siting_definitions.specs.Instance.{Instance}
use Rattle.siting_definitions.specs.Line.{line_text, text_of}
use Rattle.siting_definitions.specs.InstanceText.{version_field, kind_field, point_line, polygon_line, instance_text}
use Rattle.instance_text.specs.Written.{front_text, point_text, after_spaces, vertex_text, polygon_text}

map_text : {X : Type 0} (line : X → List (List ℕ)) (xs : List X) (rest : List (List (List ℕ))) → text_of (map line xs ++ rest) ≡ flat_map (λ x. line_text (line x)) xs ++ text_of rest
map_text line xs rest =
    flat_map-append line_text (map line xs) rest ∙ ap (λ bytes. bytes ++ text_of rest) (flat_map-map line_text line xs)

-- the whole text
pub instance_text-parts : (i : Instance) → instance_text i ≡ front_text i ++ (flat_map point_text i.points ++ (flat_map (polygon_text (codes "permit")) i.permitted ++ (flat_map (polygon_text (codes "forbid")) i.forbidden ++ codes "end\n")))
unfolding instance_text
instance_text-parts i =
    let header = line_text (codes "siting" ∷ version_field i ∷ []) in
    let kind = line_text (codes "kind" ∷ kind_field i.kind ∷ []) in
    let end : List (List (List ℕ)) = (codes "end" ∷ []) ∷ [] in
    let forbids = map (polygon_line (codes "forbid")) i.forbidden ++ end in
    let permits = map (polygon_line (codes "permit")) i.permitted ++ forbids in
    let forbids_text = map_text (polygon_line (codes "forbid")) i.forbidden end in
    let permits_text = map_text (polygon_line (codes "permit")) i.permitted forbids ∙ ap (λ bytes. flat_map (polygon_text (codes "permit")) i.permitted ++ bytes) forbids_text in
    let points_text = map_text point_line i.points permits ∙ ap (λ bytes. flat_map point_text i.points ++ bytes) permits_text in
    ap (λ bytes. header ++ (kind ++ bytes)) points_text ∙ sym (append_assoc header kind _)

-- a line is its first field, each other field after a space, and a line feed
line_text-cons : (field : List ℕ) (fields : List (List ℕ)) → line_text (field ∷ fields) ≡ field ++ (after_spaces fields ++ 10 ∷ [])
line_text-cons field [] = refl
line_text-cons field (next ∷ fields) =
    ap (λ bytes. field ++ 32 ∷ bytes) (line_text-cons next fields ∙ sym (append_assoc next (after_spaces fields) (10 ∷ [])))

vertices : (vs : List Place) → after_spaces (flat_map (λ (v : Place). signed_decimal v.x ∷ signed_decimal v.y ∷ []) vs) ≡ flat_map vertex_text vs
vertices [] = refl
vertices (v ∷ vs) =
    let fields = flat_map (λ (v : Place). signed_decimal v.x ∷ signed_decimal v.y ∷ []) vs in
    flat_map-append (λ (field : List ℕ). 32 ∷ field) (signed_decimal v.x ∷ signed_decimal v.y ∷ []) fields ∙ ap (λ bytes. vertex_text v ++ bytes) (vertices vs)

-- the line of a polygon
pub polygon_text-parts : (word : List ℕ) (vs : List Place) → polygon_text word vs ≡ word ++ (flat_map vertex_text vs ++ 10 ∷ [])
polygon_text-parts word vs = line_text-cons word _ ∙ ap (λ bytes. word ++ (bytes ++ 10 ∷ [])) (vertices vs)
