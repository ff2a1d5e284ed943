-- A text is refused with a fault exactly where that is its first one.
use Rattle.std.proofs.Common.{◌≡◌, ◌⊎◌, ℕ, ◌+◌, leb, Bool, true, false, not, ◌||◌, List, [], ◌∷◌, ◌++◌, length, map, drop, codes, Option, Some, None, is_some, Result, Ok, Err, refl, sym, ap, subst, ◌∙◌, inl, inr, arith, append_assoc}
use Rattle.std.specs.Prelude.{⊤}
use Rattle.std.specs.List.{filter_map, filter}
use Rattle.std.specs.Str.{bytes_eq}
use Rattle.std.proofs.lemmas.Bool.{cases_Bool}
use Rattle.std.proofs.lemmas.List.{append-nil, length-append, map-append}
use Rattle.std.proofs.lemmas.List.Folds.{list_any-append}
use Rattle.std.proofs.lemmas.List.Elements.{filter-append, filter_map-append}
use Rattle.std.proofs.lemmas.Slice.Eq.{bytes_eq-Decides}
use Rattle.siting_definitions.specs.declared.Kind.{Kind}
use Rattle.siting_definitions.specs.Point.{Place}
use Rattle.siting_definitions.specs.Instance.{DemandPt, Instance, weight}
use Rattle.text_lines.specs.Lines.{is_passed_over}
use Rattle.text_lines.specs.Words.{rows_of}
use Rattle.instance_text.specs.declared.faults.InstanceFault.{InstanceFault}
use Rattle.instance_text.specs.Phase.{Phase, Start, Body, Ended}
use Rattle.instance_text.specs.Rows.{kind_row, point_row, polygon_row}
use Rattle.instance_text.specs.Reading.{Found, nothing_found, and_then, take_version, take_header, take_kind, take_point, take_permit, take_forbid, take_end, take_row, take_fields, take_line, finish, at_line, read_rows, reading}
use Rattle.instance_text.specs.InstanceTexts.{counted_rows, begins_with, fields_after}
use Rattle.instance_text.specs.FirstFault.{when, or_else, own_fault, value_in, has, allows_cutoffs, points_in, point_fault, end_fault, body_fault, row_fault, line_fault, ending_fault, next_fault, IsFirstFault}
use Rattle.instance_text.proofs.TextRows.{WordCase, word_case}

-- the fields of a line, and of lines
abbrev Row : Type 0
Row = List (List ℕ)

abbrev Rows : Type 0
Rows = List Row

-- ---- one row more
-- the rows that begin with another word are as before
has_same : (name : List ℕ) (rows : Rows) (row : Row) → begins_with name row ≡ false → has name (rows ++ row ∷ []) ≡ has name rows
has_same name rows row other = list_any-append (begins_with name) rows (row ∷ []) ∙ rw other (either (has name rows))
  where
    either : (b : Bool) → (b || (false || false)) ≡ b
    either true = refl
    either false = refl

has_more : (name : List ℕ) (rows : Rows) (row : Row) → begins_with name row ≡ true → has name (rows ++ row ∷ []) ≡ true
has_more name rows row same = list_any-append (begins_with name) rows (row ∷ []) ∙ rw same (either (has name rows))
  where
    either : (b : Bool) → (b || (true || false)) ≡ true
    either true = refl
    either false = refl

after_same : (name : List ℕ) (rows : Rows) (row : Row) → begins_with name row ≡ false
    → fields_after name (rows ++ row ∷ []) ≡ fields_after name rows
after_same name rows row other =
    ap (map (drop 1)) (filter-append (begins_with name) rows (row ∷ []) ∙ rw other (append-nil (filter (begins_with name) rows)))

after_more : (name : List ℕ) (rows : Rows) (row : Row) → begins_with name row ≡ true
    → fields_after name (rows ++ row ∷ []) ≡ fields_after name rows ++ drop 1 row ∷ []
after_more name rows row same =
    ap (map (drop 1)) (filter-append (begins_with name) rows (row ∷ []))
    ∙ map-append (drop 1) (filter (begins_with name) rows) (filter (begins_with name) (row ∷ []))
    ∙ rw same refl

-- the header says whether points may have cutoffs, whatever comes after it
same_version : (first : Row) (rows more : Rows) → allows_cutoffs (first ∷ rows) ≡ allows_cutoffs (first ∷ more)
same_version [] rows more = refl
same_version (word ∷ []) rows more = refl
same_version (word ∷ version ∷ []) rows more = refl
same_version (word ∷ version ∷ field ∷ fields) rows more = refl

-- the points of rows that begin with a header, and of one row more
abbrev points_by : Bool → Rows → List DemandPt
points_by cutoffs fields = filter_map value_in (map (point_row cutoffs) fields)

points_same : (first : Row) (rows : Rows) (row : Row) → begins_with (codes "point") row ≡ false
    → points_in (first ∷ (rows ++ row ∷ [])) ≡ points_in (first ∷ rows)
points_same first rows row other =
    ap (λ c. points_by c (fields_after (codes "point") (first ∷ (rows ++ row ∷ [])))) (same_version first (rows ++ row ∷ []) rows)
    ∙ ap (points_by (allows_cutoffs (first ∷ rows))) (after_same (codes "point") (first ∷ rows) row other)

points_more : (first : Row) (rows : Rows) (fields : Row) (d : DemandPt) → point_row (allows_cutoffs (first ∷ rows)) fields ≡ Ok d
    → points_in (first ∷ (rows ++ (codes "point" ∷ fields) ∷ [])) ≡ points_in (first ∷ rows) ++ d ∷ []
points_more first rows fields d is =
    let c = allows_cutoffs (first ∷ rows) in
    let before = fields_after (codes "point") (first ∷ rows) in
    ap (λ c. points_by c (fields_after (codes "point") (first ∷ (rows ++ (codes "point" ∷ fields) ∷ [])))) (same_version first (rows ++ (codes "point" ∷ fields) ∷ []) rows)
    ∙ ap (points_by c) (after_more (codes "point") (first ∷ rows) (codes "point" ∷ fields) refl)
    ∙ ap (filter_map value_in) (map-append (point_row c) before (fields ∷ []))
    ∙ filter_map-append value_in (map (point_row c) before) (point_row c fields ∷ [])
    ∙ rw is refl

-- ---- what was found fits the rows that count
abbrev is_filled : {X : Type 0} → List X → Bool
is_filled [] = false
is_filled (x ∷ xs) = true

filled_more : {X : Type 0} (xs : List X) (x : X) → is_filled (xs ++ x ∷ []) ≡ true
filled_more [] x = refl
filled_more (y ∷ xs) x = refl

-- how far the rows were read
PhaseFits : Rows → Phase → Type 0
PhaseFits rows Start = rows ≡ []
PhaseFits [] (Body cutoffs) = ⊥
PhaseFits (first ∷ rows) (Body cutoffs) = (allows_cutoffs (first ∷ rows) ≡ cutoffs) × (has (codes "end") (first ∷ rows) ≡ false)
PhaseFits [] (Ended kind) = ⊥
PhaseFits (first ∷ rows) (Ended kind) = has (codes "end") (first ∷ rows) ≡ true

-- what was found is what they say
record Says (rows : Rows) (kind : Option Kind) (points : List DemandPt) (permitted forbidden : List (List Place)) : Type 0 where
  kinds : is_some kind ≡ has (codes "kind") rows
  pointed : is_filled points ≡ has (codes "point") rows
  points_same : points_in rows ≡ points
  permits : is_filled permitted ≡ has (codes "permit") rows
  permit_count : length (fields_after (codes "permit") rows) ≡ length permitted
  forbid_count : length (fields_after (codes "forbid") rows) ≡ length forbidden

record FitsRows (rows : Rows) (found : Found) : Type 0 where
  phase : PhaseFits rows found.phase
  says : Says rows found.kind found.points found.permitted found.forbidden

-- what a row makes of what was found, where this is its fault or none
StepFits : Option ℕ → Rows → Result Found ℕ → Type 0
StepFits fault rows (Ok next) = (fault ≡ None) × FitsRows rows next
StepFits fault rows (Err number) = fault ≡ Some number

-- ---- the header
header_says : (version : List ℕ) (found : Found) → FitsRows [] found → (cutoffs : Bool) → bytes_eq version (codes "2") ≡ cutoffs
    → FitsRows ((codes "siting" ∷ version ∷ []) ∷ []) (record found { phase = Body cutoffs })
unfolding PhaseFits
header_says version found fits cutoffs is = record {
  phase = (is, refl);
  says = record {
    kinds = fits.says.kinds;
    pointed = fits.says.pointed;
    points_same = fits.says.points_same;
    permits = fits.says.permits;
    permit_count = fits.says.permit_count;
    forbid_count = fits.says.forbid_count;
  };
}

-- where a choice is made by a test, it is one of the two
version_step : (version : List ℕ) (found : Found) → FitsRows [] found
    → (bytes_eq version (codes "1") ≡ true) ⊎ (bytes_eq version (codes "1") ≡ false)
    → (bytes_eq version (codes "2") ≡ true) ⊎ (bytes_eq version (codes "2") ≡ false)
    → StepFits (row_fault [] (codes "siting" ∷ version ∷ [])) ((codes "siting" ∷ version ∷ []) ∷ []) (take_version version found)
unfolding StepFits
version_step version found fits (inl one) two =
    let same : version ≡ codes "1" = (bytes_eq-Decides version (codes "1")).0 one in
    rw one (refl, header_says version found fits false (rw same refl))
version_step version found fits (inr other) (inl two) = rw (other, two) (refl, header_says version found fits true two)
version_step version found fits (inr other) (inr none) = rw (other, none) refl

header_step : (row : Row) (found : Found) → FitsRows [] found → StepFits (row_fault [] row) (row ∷ []) (take_header row found)
unfolding StepFits
header_step [] found fits = refl
header_step (word ∷ []) found fits = refl
header_step (word ∷ version ∷ field ∷ fields) found fits = refl
header_step (word ∷ version ∷ []) found fits = by_word (cases_Bool (bytes_eq word (codes "siting")))
  where
    by_word : (bytes_eq word (codes "siting") ≡ true) ⊎ (bytes_eq word (codes "siting") ≡ false)
        → StepFits (row_fault [] (word ∷ version ∷ [])) ((word ∷ version ∷ []) ∷ []) (take_header (word ∷ version ∷ []) found)
    by_word (inr other) = rw other refl
    by_word (inl is) =
        let same : word ≡ codes "siting" = (bytes_eq-Decides word (codes "siting")).0 is in
        subst (λ (w : List ℕ). StepFits (row_fault [] (w ∷ version ∷ [])) ((w ∷ version ∷ []) ∷ []) (take_header (w ∷ version ∷ []) found)) (sym same)
        (version_step version found fits (cases_Bool (bytes_eq version (codes "1"))) (cases_Bool (bytes_eq version (codes "2"))))

-- ---- a row between the header and the end
-- what is kept of the phase by a row that isn't the end
body_phase : (first : Row) (rows : Rows) (row : Row) (cutoffs : Bool) → begins_with (codes "end") row ≡ false
    → PhaseFits (first ∷ rows) (Body cutoffs) → PhaseFits (first ∷ (rows ++ row ∷ [])) (Body cutoffs)
unfolding PhaseFits
body_phase first rows row cutoffs other is =
    (same_version first (rows ++ row ∷ []) rows ∙ is.0, has_same (codes "end") (first ∷ rows) row other ∙ is.1)

-- a kind
kind_step : (first : Row) (rows : Rows) (fields : Row) (cutoffs : Bool) (found : Found) → found.phase ≡ Body cutoffs
    → FitsRows (first ∷ rows) found → (read : Result Kind ℕ)
    → StepFits (or_else (own_fault read) (when (has (codes "kind") (first ∷ rows)) 13)) (first ∷ (rows ++ (codes "kind" ∷ fields) ∷ [])) (take_kind read found)
unfolding StepFits
kind_step first rows fields cutoffs found is fits (Err number) = refl
kind_step first rows fields cutoffs found is fits (Ok kind) = by_kind (cases_Bool (has (codes "kind") (first ∷ rows)))
  where
    row : Row
    row = codes "kind" ∷ fields

    s : Says (first ∷ rows) found.kind found.points found.permitted found.forbidden
    s = fits.says

    by_kind : (has (codes "kind") (first ∷ rows) ≡ true) ⊎ (has (codes "kind") (first ∷ rows) ≡ false)
        → StepFits (or_else None (when (has (codes "kind") (first ∷ rows)) 13)) (first ∷ (rows ++ (codes "kind" ∷ fields) ∷ [])) (take_kind (Ok kind) found)
    by_kind (inl two) = rw (s.kinds, two) refl
    by_kind (inr one) = rw (s.kinds, one) (
      refl,
      record {
        phase = subst (PhaseFits (first ∷ (rows ++ row ∷ []))) (sym is) (body_phase first rows row cutoffs refl (subst (PhaseFits (first ∷ rows)) is fits.phase));
        says = record {
          kinds = sym (has_more (codes "kind") (first ∷ rows) row refl);
          pointed = s.pointed ∙ sym (has_same (codes "point") (first ∷ rows) row refl);
          points_same = points_same first rows row refl ∙ s.points_same;
          permits = s.permits ∙ sym (has_same (codes "permit") (first ∷ rows) row refl);
          permit_count = ap length (after_same (codes "permit") (first ∷ rows) row refl) ∙ s.permit_count;
          forbid_count = ap length (after_same (codes "forbid") (first ∷ rows) row refl) ∙ s.forbid_count;
        };
      },
    )

-- a demand point
point_step : (first : Row) (rows : Rows) (fields : Row) (cutoffs : Bool) (found : Found) → found.phase ≡ Body cutoffs
    → FitsRows (first ∷ rows) found → (read : Result DemandPt ℕ) → point_row (allows_cutoffs (first ∷ rows)) fields ≡ read
    → StepFits (point_fault (points_in (first ∷ rows)) read) (first ∷ (rows ++ (codes "point" ∷ fields) ∷ [])) (take_point read found)
unfolding StepFits
point_step first rows fields cutoffs found is fits (Err number) said = refl
point_step first rows fields cutoffs found is fits (Ok d) said =
    rw (fits.says.points_same) (by_count (cases_Bool (leb 4096 (length found.points))) (cases_Bool (leb (weight (found.points ++ d ∷ [])) 16000000)))
  where
    row : Row
    row = codes "point" ∷ fields

    s : Says (first ∷ rows) found.kind found.points found.permitted found.forbidden
    s = fits.says

    by_count : (leb 4096 (length found.points) ≡ true) ⊎ (leb 4096 (length found.points) ≡ false)
        → (leb (weight (found.points ++ d ∷ [])) 16000000 ≡ true) ⊎ (leb (weight (found.points ++ d ∷ [])) 16000000 ≡ false)
        → StepFits (point_fault found.points (Ok d)) (first ∷ (rows ++ (codes "point" ∷ fields) ∷ [])) (take_point (Ok d) found)
    by_count (inl many) light = rw many refl
    by_count (inr few) (inr heavy) = rw (few, heavy) refl
    by_count (inr few) (inl light) = rw (few, light) (
      refl,
      record {
        phase = subst (PhaseFits (first ∷ (rows ++ row ∷ []))) (sym is) (body_phase first rows row cutoffs refl (subst (PhaseFits (first ∷ rows)) is fits.phase));
        says = record {
          kinds = s.kinds ∙ sym (has_same (codes "kind") (first ∷ rows) row refl);
          pointed = filled_more found.points d ∙ sym (has_more (codes "point") (first ∷ rows) row refl);
          points_same = points_more first rows fields d said ∙ ap (λ (ds : List DemandPt). ds ++ d ∷ []) s.points_same;
          permits = s.permits ∙ sym (has_same (codes "permit") (first ∷ rows) row refl);
          permit_count = ap length (after_same (codes "permit") (first ∷ rows) row refl) ∙ s.permit_count;
          forbid_count = ap length (after_same (codes "forbid") (first ∷ rows) row refl) ∙ s.forbid_count;
        };
      },
    )

-- a permitted polygon
permit_step : (first : Row) (rows : Rows) (fields : Row) (cutoffs : Bool) (found : Found) → found.phase ≡ Body cutoffs
    → FitsRows (first ∷ rows) found → (read : Result (List Place) ℕ)
    → StepFits (or_else (own_fault read) (when (leb 64 (length (fields_after (codes "permit") (first ∷ rows)))) 11))
    (first ∷ (rows ++ (codes "permit" ∷ fields) ∷ [])) (take_permit read found)
unfolding StepFits
permit_step first rows fields cutoffs found is fits (Err number) = refl
permit_step first rows fields cutoffs found is fits (Ok p) = rw (fits.says.permit_count) (by_count (cases_Bool (leb 64 (length found.permitted))))
  where
    row : Row
    row = codes "permit" ∷ fields

    s : Says (first ∷ rows) found.kind found.points found.permitted found.forbidden
    s = fits.says

    by_count : (leb 64 (length found.permitted) ≡ true) ⊎ (leb 64 (length found.permitted) ≡ false)
        → StepFits (or_else None (when (leb 64 (length found.permitted)) 11)) (first ∷ (rows ++ (codes "permit" ∷ fields) ∷ [])) (take_permit (Ok p) found)
    by_count (inl many) = rw many refl
    by_count (inr few) = rw few (
      refl,
      record {
        phase = subst (PhaseFits (first ∷ (rows ++ row ∷ []))) (sym is) (body_phase first rows row cutoffs refl (subst (PhaseFits (first ∷ rows)) is fits.phase));
        says = record {
          kinds = s.kinds ∙ sym (has_same (codes "kind") (first ∷ rows) row refl);
          pointed = s.pointed ∙ sym (has_same (codes "point") (first ∷ rows) row refl);
          points_same = points_same first rows row refl ∙ s.points_same;
          permits = filled_more found.permitted p ∙ sym (has_more (codes "permit") (first ∷ rows) row refl);
          permit_count = ap length (after_more (codes "permit") (first ∷ rows) row refl)
              ∙ length-append (fields_after (codes "permit") (first ∷ rows)) (fields ∷ []) ∙ ap (λ n. n + 1) s.permit_count ∙ sym (length-append found.permitted (p ∷ []));
          forbid_count = ap length (after_same (codes "forbid") (first ∷ rows) row refl) ∙ s.forbid_count;
        };
      },
    )

-- a forbidden polygon
forbid_step : (first : Row) (rows : Rows) (fields : Row) (cutoffs : Bool) (found : Found) → found.phase ≡ Body cutoffs
    → FitsRows (first ∷ rows) found → (read : Result (List Place) ℕ)
    → StepFits (or_else (own_fault read) (when (leb 64 (length (fields_after (codes "forbid") (first ∷ rows)))) 11))
    (first ∷ (rows ++ (codes "forbid" ∷ fields) ∷ [])) (take_forbid read found)
unfolding StepFits
forbid_step first rows fields cutoffs found is fits (Err number) = refl
forbid_step first rows fields cutoffs found is fits (Ok p) = rw (fits.says.forbid_count) (by_count (cases_Bool (leb 64 (length found.forbidden))))
  where
    row : Row
    row = codes "forbid" ∷ fields

    s : Says (first ∷ rows) found.kind found.points found.permitted found.forbidden
    s = fits.says

    by_count : (leb 64 (length found.forbidden) ≡ true) ⊎ (leb 64 (length found.forbidden) ≡ false)
        → StepFits (or_else None (when (leb 64 (length found.forbidden)) 11)) (first ∷ (rows ++ (codes "forbid" ∷ fields) ∷ [])) (take_forbid (Ok p) found)
    by_count (inl many) = rw many refl
    by_count (inr few) = rw few (
      refl,
      record {
        phase = subst (PhaseFits (first ∷ (rows ++ row ∷ []))) (sym is) (body_phase first rows row cutoffs refl (subst (PhaseFits (first ∷ rows)) is fits.phase));
        says = record {
          kinds = s.kinds ∙ sym (has_same (codes "kind") (first ∷ rows) row refl);
          pointed = s.pointed ∙ sym (has_same (codes "point") (first ∷ rows) row refl);
          points_same = points_same first rows row refl ∙ s.points_same;
          permits = s.permits ∙ sym (has_same (codes "permit") (first ∷ rows) row refl);
          permit_count = ap length (after_same (codes "permit") (first ∷ rows) row refl) ∙ s.permit_count;
          forbid_count = ap length (after_more (codes "forbid") (first ∷ rows) row refl)
              ∙ length-append (fields_after (codes "forbid") (first ∷ rows)) (fields ∷ []) ∙ ap (λ n. n + 1) s.forbid_count ∙ sym (length-append found.forbidden (p ∷ []));
        };
      },
    )

-- the end
end_step : (first : Row) (rows : Rows) (fields : Row) (phase : Phase) (kind : Option Kind) (points : List DemandPt) (permitted forbidden : List (List Place))
    → Says (first ∷ rows) kind points permitted forbidden
    → StepFits (end_fault (first ∷ rows) fields) (first ∷ (rows ++ (codes "end" ∷ fields) ∷ []))
    (take_end fields (record { phase = phase; kind = kind; points = points; permitted = permitted; forbidden = forbidden }))
unfolding StepFits PhaseFits
end_step first rows (field ∷ fields) phase kind points permitted forbidden s = refl
end_step first rows [] phase None points permitted forbidden s = rw (← s.kinds) refl
end_step first rows [] phase (Some kind) [] permitted forbidden s = rw (← s.kinds, ← s.pointed) refl
end_step first rows [] phase (Some kind) (d ∷ points) [] forbidden s = rw (← s.kinds, ← s.pointed, ← s.permits) refl
end_step first rows [] phase (Some kind) (d ∷ points) (p ∷ permitted) forbidden s = rw (← s.kinds, ← s.pointed, ← s.permits) (
  refl,
  record {
    phase = has_more (codes "end") (first ∷ rows) (codes "end" ∷ []) refl;
    says = record {
      kinds = s.kinds ∙ sym (has_same (codes "kind") (first ∷ rows) (codes "end" ∷ []) refl);
      pointed = s.pointed ∙ sym (has_same (codes "point") (first ∷ rows) (codes "end" ∷ []) refl);
      points_same = points_same first rows (codes "end" ∷ []) refl ∙ s.points_same;
      permits = s.permits ∙ sym (has_same (codes "permit") (first ∷ rows) (codes "end" ∷ []) refl);
      permit_count = ap length (after_same (codes "permit") (first ∷ rows) (codes "end" ∷ []) refl) ∙ s.permit_count;
      forbid_count = ap length (after_same (codes "forbid") (first ∷ rows) (codes "end" ∷ []) refl) ∙ s.forbid_count;
    };
  },
)

-- each row between the header and the end
row_step : (first : Row) (rows : Rows) (word : List ℕ) (fields : Row) (cutoffs : Bool) (found : Found)
    → found.phase ≡ Body cutoffs → allows_cutoffs (first ∷ rows) ≡ cutoffs → FitsRows (first ∷ rows) found → WordCase word
    → StepFits (body_fault (first ∷ rows) word fields) (first ∷ (rows ++ (word ∷ fields) ∷ [])) (take_row cutoffs word fields found)
unfolding body_fault take_row StepFits
row_step first rows word fields cutoffs found is version fits (inl same) =
    rw same (kind_step first rows fields cutoffs found is fits (kind_row fields))
row_step first rows word fields cutoffs found is version fits (inr (inl same)) =
    rw same
    (subst (λ (c : Bool). StepFits (point_fault (points_in (first ∷ rows)) (point_row (allows_cutoffs (first ∷ rows)) fields))
    (first ∷ (rows ++ (codes "point" ∷ fields) ∷ [])) (take_point (point_row c fields) found))
    version (point_step first rows fields cutoffs found is fits (point_row (allows_cutoffs (first ∷ rows)) fields) refl))
row_step first rows word fields cutoffs found is version fits (inr (inr (inl same))) =
    rw same (permit_step first rows fields cutoffs found is fits (polygon_row fields))
row_step first rows word fields cutoffs found is version fits (inr (inr (inr (inl same)))) =
    rw same (forbid_step first rows fields cutoffs found is fits (polygon_row fields))
row_step first rows word fields cutoffs found is version fits (inr (inr (inr (inr (inl same))))) =
    rw same (end_step first rows fields found.phase found.kind found.points found.permitted found.forbidden fits.says)
row_step first rows word fields cutoffs found is version fits (inr (inr (inr (inr (inr other))))) =
    rw (other.kind, other.point, other.permit, other.forbid, other.end) refl

-- each row that counts
fields_step : (rows : Rows) (word : List ℕ) (fields : Row) (phase : Phase) (found : Found) → found.phase ≡ phase → FitsRows rows found
    → StepFits (row_fault rows (word ∷ fields)) (rows ++ (word ∷ fields) ∷ []) (take_fields phase (word ∷ fields) found)
unfolding PhaseFits StepFits
fields_step rows word fields Start found is fits =
    let none : rows ≡ [] = subst (PhaseFits rows) is fits.phase in
    let at_first = subst (λ (rs : Rows). FitsRows rs found) none fits in
    rw none (header_step (word ∷ fields) found at_first)
fields_step [] word fields (Body cutoffs) found is fits = absurd (subst (PhaseFits []) is fits.phase)
fields_step (first ∷ rows) word fields (Body cutoffs) found is fits =
    let phase : PhaseFits (first ∷ rows) (Body cutoffs) = subst (PhaseFits (first ∷ rows)) is fits.phase in
    rw (phase.1) (row_step first rows word fields cutoffs found is phase.0 fits (word_case word))
fields_step [] word fields (Ended kind) found is fits = absurd (subst (PhaseFits []) is fits.phase)
fields_step (first ∷ rows) word fields (Ended kind) found is fits =
    let phase : PhaseFits (first ∷ rows) (Ended kind) = subst (PhaseFits (first ∷ rows)) is fits.phase in rw phase refl

-- ---- lines
-- one line more, of those that count
counted_more : (lines : Rows) (row : Row) → is_passed_over row ≡ false → counted_rows (lines ++ row ∷ []) ≡ counted_rows lines ++ row ∷ []
counted_more lines row counts = filter-append (λ (r : Row). not (is_passed_over r)) lines (row ∷ []) ∙ rw counts refl

counted_same : (lines : Rows) (row : Row) → is_passed_over row ≡ true → counted_rows (lines ++ row ∷ []) ≡ counted_rows lines
counted_same lines row passed =
    filter-append (λ (r : Row). not (is_passed_over r)) lines (row ∷ []) ∙ rw passed (append-nil (counted_rows lines))

line_step : (done : Rows) (row : Row) (found : Found) → FitsRows (counted_rows done) found
    → StepFits (line_fault done row) (counted_rows (done ++ row ∷ [])) (take_line row found)
unfolding StepFits
line_step done [] found fits = (refl, subst (λ (rows : Rows). FitsRows rows found) (sym (counted_same done [] refl)) fits)
line_step done (word ∷ fields) found fits = by_row (cases_Bool (is_passed_over (word ∷ fields)))
  where
    by_row : (is_passed_over (word ∷ fields) ≡ true) ⊎ (is_passed_over (word ∷ fields) ≡ false)
        → StepFits (line_fault done (word ∷ fields)) (counted_rows (done ++ (word ∷ fields) ∷ [])) (take_line (word ∷ fields) found)
    by_row (inl passed) =
        rw passed (refl, subst (λ (rows : Rows). FitsRows rows found) (sym (counted_same done (word ∷ fields) passed)) fits)
    by_row (inr counts) =
        rw (counted_more done (word ∷ fields) counts, counts) (fields_step (counted_rows done) word fields found.phase found refl fits)

-- the end of the text
EndFits : Option ℕ → {T : Type 0} → Result T ℕ → Type 0
EndFits fault (Ok value) = fault ≡ None
EndFits fault (Err number) = fault ≡ Some number

finish_step : (rows : Rows) (phase : Phase) (found : Found) → PhaseFits rows phase → EndFits (ending_fault rows) (finish phase found)
unfolding EndFits PhaseFits
finish_step rows Start found fits = rw fits refl
finish_step [] (Body cutoffs) found fits = absurd fits
finish_step (first ∷ rows) (Body cutoffs) found fits = rw (fits.1) refl
finish_step [] (Ended kind) found fits = absurd fits
finish_step (first ∷ rows) (Ended kind) found fits = rw fits refl

-- ---- the whole text
-- after these lines, these have no fault
NoneAfter : Rows → Rows → Type 0
NoneAfter done [] = ⊤
NoneAfter done (row ∷ rows) = (line_fault done row ≡ None) × NoneAfter (done ++ row ∷ []) rows

-- each of them is one that comes after some of them
none_at : (done lines front : Rows) (row : Row) (back : Rows) → NoneAfter done lines → lines ≡ front ++ row ∷ back
    → line_fault (done ++ front) row ≡ None
unfolding NoneAfter
none_at done [] [] row back none is = absurd cc
none_at done [] (r ∷ front) row back none is = absurd cc
none_at done (line ∷ lines) [] row back none is =
    let same : line ≡ row = cc in rw (append-nil done, ← same) (none.0)
none_at done (line ∷ lines) (r ∷ front) row back none is =
    let same : line ≡ r = cc in
    let later : lines ≡ front ++ row ∷ back = cc in
    let e : (done ++ line ∷ []) ++ front ≡ done ++ r ∷ front = append_assoc done (line ∷ []) front ∙ ap (λ (x : Row). done ++ x ∷ front) same in
    subst (λ (ls : Rows). line_fault ls row ≡ None) e (none_at (done ++ line ∷ []) lines front row back none.1 later)

none_after : (done lines : Rows)
    → ((front : Rows) (row : Row) (back : Rows) → lines ≡ front ++ row ∷ back → line_fault (done ++ front) row ≡ None)
    → NoneAfter done lines
unfolding NoneAfter
none_after done [] none = tt
none_after done (line ∷ lines) none = (
  subst (λ (ls : Rows). line_fault ls line ≡ None) (append-nil done) (none [] line lines refl),
  none_after (done ++ line ∷ []) lines (λ front row back is.
      subst (λ (ls : Rows). line_fault ls row ≡ None) (sym (append_assoc done (line ∷ []) front))
      (none (line ∷ front) row back (ap (λ (ls : Rows). line ∷ ls) is))),
)

-- the first fault of these lines after others, of which the first of these has this number
record IsNextFault (done : Rows) (at : ℕ) (lines : Rows) (fault : InstanceFault) : Type 0 where
  before : Rows
  later : Rows
  lines_are : lines ≡ before ++ later
  line : fault.line ≡ length before + at
  none : NoneAfter done before
  number : next_fault (done ++ before) later ≡ Some fault.number

-- the fault of what comes next
found_here : (done : Rows) (at : ℕ) (lines : Rows) (fault : InstanceFault) → next_fault done lines ≡ Some fault.number → fault.line ≡ at
    → IsNextFault done at lines fault
unfolding NoneAfter
found_here done at lines fault is line = record {
  before = [];
  later = lines;
  lines_are = refl;
  line = omega (arith, line);
  none = tt;
  number = rw (append-nil done) is;
}

-- the fault that comes after one line more
found_later : (done : Rows) (at : ℕ) (row : Row) (lines : Rows) (fault : InstanceFault) → line_fault done row ≡ None
    → IsNextFault (done ++ row ∷ []) (at + 1) lines fault → IsNextFault done at (row ∷ lines) fault
unfolding NoneAfter
found_later done at row lines fault none next = record {
  before = row ∷ next.before;
  later = next.later;
  lines_are = ap (λ (ls : Rows). row ∷ ls) next.lines_are;
  line = omega (arith, next.line);
  none = (none, next.none);
  number = subst (λ (ls : Rows). next_fault ls next.later ≡ Some fault.number) (append_assoc done (row ∷ []) next.before) next.number;
}

-- the fault with which lines are refused is their first
next_of : (lines : Rows) (done : Rows) (at : ℕ) (found : Found) (fault : InstanceFault) → FitsRows (counted_rows done) found
    → read_rows at lines found ≡ Err fault → IsNextFault done at lines fault
unfolding StepFits EndFits
next_of [] done at found fault fits is = by_end (finish found.phase found) (finish_step (counted_rows done) found.phase found fits.phase) is
  where
    by_end : (end : Result Instance ℕ) → EndFits (ending_fault (counted_rows done)) end → at_line at end ≡ Err fault → IsNextFault done at [] fault
    by_end (Ok i) fault_is e = absurd cc
    by_end (Err number) fault_is e =
        let same : record { number = number; line = at } ≡ fault = cc in
        found_here done at [] fault (fault_is ∙ ap (λ (f : InstanceFault). Some f.number) same) (ap (λ (f : InstanceFault). f.line) (sym same))
next_of (row ∷ lines) done at found fault fits is =
    by_step (take_line row found) (line_step done row found fits) (λ next f e. next_of lines (done ++ row ∷ []) (at + 1) next fault f e) is
  where
    by_step : (step : Result Found ℕ) → StepFits (line_fault done row) (counted_rows (done ++ row ∷ [])) step
        → ((next : Found) → FitsRows (counted_rows (done ++ row ∷ [])) next → read_rows (at + 1) lines next ≡ Err fault → IsNextFault (done ++ row ∷ []) (at + 1) lines fault)
        → and_then (at_line at step) (λ (next : Found). read_rows (at + 1) lines next) ≡ Err fault → IsNextFault done at (row ∷ lines) fault
    by_step (Err number) fault_is later e =
        let same : record { number = number; line = at } ≡ fault = cc in
        found_here done at (row ∷ lines) fault (fault_is ∙ ap (λ (f : InstanceFault). Some f.number) same) (ap (λ (f : InstanceFault). f.line) (sym same))
    by_step (Ok next) fits_next later e = found_later done at row lines fault fits_next.0 (later next fits_next.1 e)

-- a fault with these fields
same_fault : (fault : InstanceFault) (number line : ℕ) → Some fault.number ≡ Some number → fault.line ≡ line → record { number = number; line = line } ≡ fault
same_fault fault number line e f = let n : number ≡ fault.number = cc in rw (n, ← f) refl

-- and lines are refused with their first fault
refused_with : (before : Rows) (done : Rows) (at : ℕ) (later : Rows) (found : Found) (fault : InstanceFault)
    → FitsRows (counted_rows done) found → NoneAfter done before → next_fault (done ++ before) later ≡ Some fault.number → fault.line ≡ length before + at
    → read_rows at (before ++ later) found ≡ Err fault
unfolding StepFits EndFits NoneAfter
refused_with [] done at [] found fault fits none is line =
    by_end (finish found.phase found) (finish_step (counted_rows done) found.phase found fits.phase)
  where
    by_end : (end : Result Instance ℕ) → EndFits (ending_fault (counted_rows done)) end → at_line at end ≡ Err fault
    by_end (Ok i) none_is = let e = rw (append-nil done) at is in absurd cc
    by_end (Err number) fault_is = ap Err (same_fault fault number at (sym (rw (append-nil done) at is) ∙ fault_is) (omega (arith, line)))
refused_with [] done at (row ∷ later) found fault fits none is line = by_step (take_line row found) (line_step done row found fits)
  where
    by_step : (step : Result Found ℕ) → StepFits (line_fault done row) (counted_rows (done ++ row ∷ [])) step
        → and_then (at_line at step) (λ (next : Found). read_rows (at + 1) later next) ≡ Err fault
    by_step (Ok next) fits_next = let e = rw (append-nil done) at is in let none_is = fits_next.0 in absurd cc
    by_step (Err number) fault_is = ap Err (same_fault fault number at (sym (rw (append-nil done) at is) ∙ fault_is) (omega (arith, line)))
refused_with (row ∷ before) done at later found fault fits none is line =
    by_step (take_line row found) (line_step done row found fits)
    (λ next f. refused_with before (done ++ row ∷ []) (at + 1) later next fault f none.1
    (subst (λ (ls : Rows). next_fault ls later ≡ Some fault.number) (sym (append_assoc done (row ∷ []) before)) is) (omega (arith, line)))
  where
    by_step : (step : Result Found ℕ) → StepFits (line_fault done row) (counted_rows (done ++ row ∷ [])) step
        → ((next : Found) → FitsRows (counted_rows (done ++ row ∷ [])) next → read_rows (at + 1) (before ++ later) next ≡ Err fault)
        → and_then (at_line at step) (λ (next : Found). read_rows (at + 1) (before ++ later) next) ≡ Err fault
    by_step (Ok next) fits_next rest = rest next fits_next.1
    by_step (Err number) fault_is rest = let none_is = none.0 in absurd cc

-- before the first line
nothing_fits : FitsRows [] nothing_found
unfolding PhaseFits
nothing_fits = record {
  phase = refl;
  says = record { kinds = refl; pointed = refl; points_same = refl; permits = refl; permit_count = refl; forbid_count = refl };
}

pub first_fault-reading : (bytes : List ℕ) (fault : InstanceFault) → reading bytes ≡ Err fault → IsFirstFault bytes fault
unfolding reading
first_fault-reading bytes fault is =
    let next = next_of (rows_of bytes) [] 1 nothing_found fault nothing_fits is in
    record {
      before = next.before;
      later = next.later;
      lines = next.lines_are;
      line = next.line;
      first = λ front row back at. none_at [] next.before front row back next.none at;
      number = next.number;
    }

pub reading-first_fault : (bytes : List ℕ) (fault : InstanceFault) → IsFirstFault bytes fault → reading bytes ≡ Err fault
unfolding reading
reading-first_fault bytes fault is =
    subst (λ (rows : Rows). read_rows 1 rows nothing_found ≡ Err fault) (sym is.lines)
    (refused_with is.before [] 1 is.later nothing_found fault nothing_fits (none_after [] is.before is.first) is.number is.line)
