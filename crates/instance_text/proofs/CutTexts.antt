-- A canonical text that is cut short: without its last line feed it is read as before, and else it isn't read.
use Rattle.std.proofs.Common.{◌≡◌, ◌≢◌, ℕ, suc, ◌-◌, ◌≤◌, eqb, Bool, true, false, cond, not, ◌⊎◌, inl, inr, List, [], ◌∷◌, ◌++◌, length, take, map, codes, Result, Ok, Err, refl, sym, ap, ◌∙◌, subst, arith, append_assoc}
use Rattle.std.specs.Prelude.{⊤, slice_index}
use Rattle.std.specs.List.{list_all, filter}
use Rattle.std.specs.Str.{bytes_eq}
use Rattle.std.proofs.lemmas.Bool.{cases_Bool, and_parts, and_from, true≢false, ne_eqb, not-true, not_from_false}
use Rattle.std.proofs.lemmas.List.{append_cancel_right, length-append}
use Rattle.std.proofs.lemmas.List.Concat.{flat_map-append}
use Rattle.std.proofs.lemmas.List.Folds.{list_all-append}
use Rattle.std.proofs.lemmas.Slice.Eq.{bytes_eq-Decides}
use Rattle.siting_definitions.specs.Point.{Place}
use Rattle.siting_definitions.specs.Instance.{Instance, IsInstance}
use Rattle.siting_definitions.specs.Line.{line_text, text_of}
use Rattle.siting_definitions.specs.InstanceText.{version_field, kind_field, point_line, polygon_line, instance_lines, instance_text}
use Rattle.text_lines.specs.Lines.{onto, pieces_from, pieces_of, without_return, is_gap, begins_with_gap, fields_of}
use Rattle.text_lines.specs.Words.{are_words, line_bytes, rows_of}
use Rattle.text_lines.proofs.ReadBack.{of_line_bytes, line_text-joined, lines_of-line_text}
use Rattle.instance_text.specs.declared.faults.InstanceFault.{InstanceFault}
use Rattle.instance_text.specs.Reading.{nothing_found, read_rows, reading}
use Rattle.instance_text.specs.InstanceTexts.{begins_with, header_row, end_row}
use Rattle.instance_text.proofs.ReadsBack.{AreWords-instance_lines, reading-instance_text}
use Rattle.instance_text.proofs.TextRows.{rows_of-reading}

-- ---- rows that aren't the last one
abbrev is_other : List (List ℕ) → Bool
is_other row = not (begins_with (codes "end") row)

-- the first field of a line begins with the line's first byte
first_field : (b : ℕ) (bs : List ℕ) → is_gap b ≡ false → (field : List ℕ) × (fields : List (List ℕ)) × (fields_of (b ∷ bs) ≡ (b ∷ field) ∷ fields)
first_field b bs word = by_next (begins_with_gap bs) (fields_of bs)
  where
    by_next : (t : Bool) (rest : List (List ℕ)) → (field : List ℕ) × (fields : List (List ℕ)) × (cond (is_gap b) rest (cond t ((b ∷ []) ∷ rest) (onto b rest)) ≡ (b ∷ field) ∷ fields)
    by_next true rest = ([], rest, rw word refl)
    by_next false [] = ([], [], rw word refl)
    by_next false (f ∷ fs) = (f, fs, rw word refl)

not_end : (b : ℕ) (field : List ℕ) → b ≢ 101 → bytes_eq (b ∷ field) (codes "end") ≡ false
not_end b field other = by_test (cases_Bool (bytes_eq (b ∷ field) (codes "end")))
  where
    by_test : (bytes_eq (b ∷ field) (codes "end") ≡ true) ⊎ (bytes_eq (b ∷ field) (codes "end") ≡ false) → bytes_eq (b ∷ field) (codes "end") ≡ false
    by_test (inl same) =
        let all : b ∷ field ≡ codes "end" = (bytes_eq-Decides (b ∷ field) (codes "end")).0 same in
        let first : b ≡ 101 = cc in
        absurd (other first)
    by_test (inr differs) = differs

-- so a line that begins with another byte isn't the last one
other_row : (b : ℕ) (bs : List ℕ) → is_gap b ≡ false → b ≢ 101 → is_other (fields_of (b ∷ bs)) ≡ true
other_row b bs word other =
    let first = first_field b bs word in
    ap is_other first.2 ∙ not_from_false _ (not_end b first.0 other)

-- with or without a carriage return
other_line : (b : ℕ) (bs : List ℕ) → is_gap b ≡ false → b ≢ 101 → is_other (fields_of (without_return (b ∷ bs))) ≡ true
other_line b bs word other = by_test (eqb (slice_index (b ∷ bs) (length (b ∷ bs) - 1)) 13) bs
  where
    by_test : (t : Bool) (more : List ℕ) → is_other (fields_of (cond t (take (length (b ∷ more) - 1) (b ∷ more)) (b ∷ more))) ≡ true
    by_test false more = other_row b more word other
    by_test true [] = refl
    by_test true (c ∷ more) =
        let n : suc (length more) ≡ length (b ∷ c ∷ more) - 1 = omega arith in
        subst (λ k. is_other (fields_of (take k (b ∷ c ∷ more))) ≡ true) n (other_row b (take (length more) (c ∷ more)) word other)

-- ---- lines of words that begin with another byte
record IsOtherLine (line : List (List ℕ)) : Type 0 where
  first : ℕ
  rest : List ℕ
  bytes : line_bytes line ≡ first ∷ rest
  word : is_gap first ≡ false
  other : first ≢ 101
  words : are_words line ≡ true

abbrev AreOtherLines : List (List (List ℕ)) → Type 0
AreOtherLines [] = ⊤
AreOtherLines (line ∷ lines) = IsOtherLine line × AreOtherLines lines

-- a front of the text either has its first line whole or is a front of the line
first_line_or : (line front rest more : List ℕ) → line ++ 10 ∷ more ≡ front ++ rest
    → ((left : List ℕ) × (front ≡ line ++ 10 ∷ left) × (more ≡ left ++ rest)) ⊎ ((missed : List ℕ) × (line ≡ front ++ missed))
first_line_or line [] rest more is = inr (line, refl)
first_line_or [] (f ∷ front) rest more is =
    let head : 10 ≡ f = cc in
    let tail : more ≡ front ++ rest = cc in
    inl (front, ap (λ b. b ∷ front) (sym head), tail)
first_line_or (b ∷ line) (f ∷ front) rest more is = by_rest (first_line_or line front rest more tail)
  where
    head : b ≡ f
    head = cc

    tail : line ++ 10 ∷ more ≡ front ++ rest
    tail = cc

    by_rest : ((left : List ℕ) × (front ≡ line ++ 10 ∷ left) × (more ≡ left ++ rest)) ⊎ ((missed : List ℕ) × (line ≡ front ++ missed))
        → ((left : List ℕ) × (f ∷ front ≡ (b ∷ line) ++ 10 ∷ left) × (more ≡ left ++ rest)) ⊎ ((missed : List ℕ) × (b ∷ line ≡ (f ∷ front) ++ missed))
    by_rest (inl whole) = inl (whole.0, (let e = whole.1 in cc), whole.2)
    by_rest (inr part) = inr (part.0, (let e = part.1 in cc))

-- bytes without a line feed are one piece
one_piece : (b : ℕ) (bs : List ℕ) → list_all (λ c. not (eqb c 10)) (b ∷ bs) ≡ true → pieces_of (b ∷ bs) ≡ (b ∷ bs) ∷ []
one_piece b [] clean = let first : eqb b 10 ≡ false = not-true _ (and_parts _ _ clean).0 in rw first refl
one_piece b (c ∷ cs) clean =
    let parts = and_parts _ _ clean in
    let first : eqb b 10 ≡ false = not-true _ parts.0 in
    let here : pieces_of (b ∷ (c ∷ cs)) ≡ onto b (pieces_of (c ∷ cs)) = rw first refl in
    here ∙ ap (onto b) (one_piece c cs parts.1)

-- the rows of a front of such a line
part_rows : (line : List (List ℕ)) → IsOtherLine line → (front missed : List ℕ) → line_bytes line ≡ front ++ missed → list_all is_other (rows_of front) ≡ true
part_rows line here [] missed is = refl
part_rows line here (b ∷ bs) missed is =
    let clean : list_all (λ c. not (eqb c 10)) (line_bytes line) ≡ true =
    of_line_bytes (λ c. not (eqb c 10)) refl (λ c above. not_from_false _ (ne_eqb c 10 (λ same. omega (arith, same, above)))) line here.words in
    let both = sym (list_all-append (λ c. not (eqb c 10)) (b ∷ bs) missed) ∙ (ap (list_all (λ c. not (eqb c 10))) (sym is) ∙ clean) in
    let piece = one_piece b bs (and_parts _ _ both).0 in
    let same : b ∷ (bs ++ missed) ≡ here.first ∷ here.rest = sym is ∙ here.bytes in
    let first : b ≡ here.first = cc in
    ap (λ (ps : List (List ℕ)). list_all is_other (map fields_of (map without_return ps))) piece
    ∙ and_from _ _ (other_line b bs (subst (λ x. is_gap x ≡ false) (sym first) here.word) (λ e. here.other (sym first ∙ e))) refl

-- ---- a front of the text that lacks two bytes at least
-- the bytes of the last line
abbrev last_line : List ℕ
last_line = codes "end" ++ 10 ∷ []

end_rows : (front rest : List ℕ) → last_line ≡ front ++ rest → 2 ≤ length rest → list_all is_other (rows_of front) ≡ true
end_rows [] rest is two = refl
end_rows (a ∷ []) rest is two = let same : 101 ≡ a = cc in subst (λ x. list_all is_other (rows_of (x ∷ [])) ≡ true) same refl
end_rows (a ∷ b ∷ []) rest is two =
    let same : 101 ≡ a = cc in
    let next : 110 ≡ b = cc in
    subst (λ x. list_all is_other (rows_of (x ∷ b ∷ [])) ≡ true) same (subst (λ x. list_all is_other (rows_of (101 ∷ x ∷ [])) ≡ true) next refl)
end_rows (a ∷ b ∷ c ∷ front) rest is two = absurd (omega (arith, ap length is, length-append front rest))

front_rows : (lines : List (List (List ℕ))) → AreOtherLines lines → (front rest : List ℕ) → text_of lines ++ last_line ≡ front ++ rest → 2 ≤ length rest → list_all is_other (rows_of front) ≡ true
front_rows [] others front rest is two = end_rows front rest is two
front_rows (line ∷ lines) others front rest is two =
    by_front (front_rows lines others.1)
    (first_line_or (line_bytes line) front rest (text_of lines ++ last_line) (sym (append_assoc (line_text line) (text_of lines) last_line ∙ line_text-joined line (text_of lines ++ last_line)) ∙ is))
  where
    here : IsOtherLine line
    here = others.0

    by_front : ((left more : List ℕ) → text_of lines ++ last_line ≡ left ++ more → 2 ≤ length more → list_all is_other (rows_of left) ≡ true)
        → ((left : List ℕ) × (front ≡ line_bytes line ++ 10 ∷ left) × (text_of lines ++ last_line ≡ left ++ rest)) ⊎ ((missed : List ℕ) × (line_bytes line ≡ front ++ missed)) → list_all is_other (rows_of front) ≡ true
    by_front later (inr part) = part_rows line here front part.0 part.1
    by_front later (inl whole) =
        let left = whole.0 in
        let again : front ≡ line_text line ++ left = whole.1 ∙ sym (line_text-joined line left) in
        let rows : rows_of front ≡ fields_of (line_bytes line) ∷ rows_of left = ap rows_of again ∙ ap (map fields_of) (lines_of-line_text line left here.words) in
        let first : is_other (fields_of (line_bytes line)) ≡ true = ap (λ bytes. is_other (fields_of bytes)) here.bytes ∙ other_row here.first here.rest here.word here.other in
        ap (list_all is_other) rows ∙ and_from _ _ first (later left rest whole.2 two)

-- ---- the lines of an instance before the last
abbrev lines_before : Instance → List (List (List ℕ))
lines_before i =
    (codes "siting" ∷ version_field i ∷ [])
    ∷ (codes "kind" ∷ kind_field i.kind ∷ [])
    ∷ (map point_line i.points ++ (map (polygon_line (codes "permit")) i.permitted ++ map (polygon_line (codes "forbid")) i.forbidden))

whole_lines : (i : Instance) → instance_lines i ≡ lines_before i ++ end_row ∷ []
whole_lines i =
    let points = map point_line i.points in
    let permitted = map (polygon_line (codes "permit")) i.permitted in
    let forbidden = map (polygon_line (codes "forbid")) i.forbidden in
    ap (λ (lines : List (List (List ℕ))). (codes "siting" ∷ version_field i ∷ []) ∷ (codes "kind" ∷ kind_field i.kind ∷ []) ∷ lines)
    (sym (append_assoc points (permitted ++ forbidden) (end_row ∷ []) ∙ ap (λ (lines : List (List (List ℕ))). points ++ lines) (append_assoc permitted forbidden (end_row ∷ []))))

whole_text : (i : Instance) → instance_text i ≡ text_of (lines_before i) ++ last_line
unfolding instance_text
whole_text i = ap text_of (whole_lines i) ∙ flat_map-append line_text (lines_before i) (end_row ∷ [])

-- a line begins with the first byte of its first word
line_of_word : (b : ℕ) (word : List ℕ) (fields : List (List ℕ)) → is_gap b ≡ false → b ≢ 101 → are_words ((b ∷ word) ∷ fields) ≡ true → IsOtherLine ((b ∷ word) ∷ fields)
line_of_word b word [] is other words = record { first = b; rest = word; bytes = refl; word = is; other = other; words = words }
line_of_word b word (next ∷ fields) is other words =
    record { first = b; rest = word ++ 32 ∷ line_bytes (next ∷ fields); bytes = refl; word = is; other = other; words = words }

others_then : {X : Type 0} (line : X → List (List ℕ)) → ((x : X) → are_words (line x) ≡ true → IsOtherLine (line x)) → (xs : List X) (rest : List (List (List ℕ))) → list_all are_words (map line xs ++ rest) ≡ true
    → (list_all are_words rest ≡ true → AreOtherLines rest) → AreOtherLines (map line xs ++ rest)
others_then line each [] rest words later = later words
others_then line each (x ∷ xs) rest words later =
    let parts = and_parts _ _ words in
    (each x parts.0, others_then line each xs rest parts.1 later)

others_before : (i : Instance) → list_all are_words (lines_before i) ≡ true → AreOtherLines (lines_before i)
others_before i words =
    let header = and_parts _ _ words in
    let kind = and_parts _ _ header.1 in
    let polygons : list_all are_words (map (polygon_line (codes "permit")) i.permitted ++ map (polygon_line (codes "forbid")) i.forbidden) ≡ true → AreOtherLines (map (polygon_line (codes "permit")) i.permitted ++ map (polygon_line (codes "forbid")) i.forbidden) =
    λ more. others_then (polygon_line (codes "permit")) (λ vs words. line_of_word 112 _ _ refl (λ e. absurd (omega arith)) words) i.permitted _ more (λ last. others_last i.forbidden last) in
    let points = others_then point_line (λ d words. line_of_word 112 _ _ refl (λ e. absurd (omega arith)) words) i.points _ kind.1 polygons in
    (line_of_word 115 _ _ refl (λ e. absurd (omega arith)) header.0, (line_of_word 107 _ _ refl (λ e. absurd (omega arith)) kind.0, points))
  where
    others_last : (ps : List (List Place)) → list_all are_words (map (polygon_line (codes "forbid")) ps) ≡ true → AreOtherLines (map (polygon_line (codes "forbid")) ps)
    others_last [] words = tt
    others_last (vs ∷ ps) words = let parts = and_parts _ _ words in (line_of_word 102 _ _ refl (λ e. absurd (omega arith)) parts.0, others_last ps parts.1)

-- ---- both laws
kept_others : (p : List (List ℕ) → Bool) (rows : List (List (List ℕ))) → list_all is_other rows ≡ true → list_all is_other (filter p rows) ≡ true
kept_others p [] others = refl
kept_others p (row ∷ rows) others = by_test (p row) (kept_others p rows (and_parts _ _ others).1)
  where
    by_test : (t : Bool) → list_all is_other (filter p rows) ≡ true → list_all is_other (cond t (row ∷ filter p rows) (filter p rows)) ≡ true
    by_test true rest = and_from _ _ (and_parts _ _ others).0 rest
    by_test false rest = rest

no_instance : (front : List ℕ) (j : Instance) → list_all is_other (rows_of front) ≡ true → reading front ≡ Ok j → ⊥
no_instance front j others is =
    let text = rows_of-reading front j is in
    let all = sym (ap (list_all is_other) text.rows) ∙ kept_others _ (rows_of front) others in
    let last = sym (list_all-append is_other (header_row text.cutoffs ∷ text.body) (end_row ∷ [])) ∙ all in
    true≢false (sym (and_parts _ _ last).1)

-- a front that lacks two bytes at least has a fault
pub cut-refused : (i : Instance) → IsInstance i → (front rest : List ℕ) → instance_text i ≡ front ++ rest → 2 ≤ length rest → (fault : InstanceFault) × (reading front ≡ Err fault)
cut-refused i is front rest parts two = by_result (reading front) refl
  where
    words : list_all are_words (lines_before i) ≡ true
    words = (and_parts _ _ (sym (list_all-append are_words (lines_before i) (end_row ∷ [])) ∙ (ap (list_all are_words) (sym (whole_lines i)) ∙ (AreWords-instance_lines i).test))).0

    by_result : (r : Result Instance InstanceFault) → reading front ≡ r → (fault : InstanceFault) × (reading front ≡ Err fault)
    by_result (Err fault) said = (fault, said)
    by_result (Ok j) said =
        absurd (no_instance front j (front_rows (lines_before i) (others_before i words) front rest (sym (whole_text i) ∙ parts) two) said)

-- the last line is the same without its line feed
end_pieces : (bytes : List ℕ) → pieces_of (bytes ++ last_line) ≡ pieces_of (bytes ++ codes "end")
end_pieces [] = refl
end_pieces (b ∷ bs) = ap (pieces_from b) (end_pieces bs)

-- a front that lacks the last line feed alone is read as the same instance
pub cut-same : (i : Instance) → IsInstance i → (front : List ℕ) → instance_text i ≡ front ++ 10 ∷ [] → reading front ≡ Ok i
unfolding reading
cut-same i is front parts =
    let bytes = text_of (lines_before i) in
    let whole : (bytes ++ codes "end") ++ 10 ∷ [] ≡ front ++ 10 ∷ [] = append_assoc bytes (codes "end") (10 ∷ []) ∙ (sym (whole_text i) ∙ parts) in
    let same : bytes ++ codes "end" ≡ front = append_cancel_right (bytes ++ codes "end") front (10 ∷ []) whole in
    let pieces : pieces_of front ≡ pieces_of (instance_text i) = ap pieces_of (sym same) ∙ (sym (end_pieces bytes) ∙ ap pieces_of (sym (whole_text i))) in
    ap (λ (ps : List (List ℕ)). read_rows 1 (map fields_of (map without_return ps)) nothing_found) pieces ∙ reading-instance_text i is
