-- A text is read as an instance exactly where its rows say that instance.
use Rattle.std.proofs.Common.{◌≡◌, ◌⊎◌, ℕ, ◌+◌, ◌<◌, ◌≤◌, leb, Bool, true, false, cond, List, [], ◌∷◌, ◌++◌, length, map, codes, Option, Some, None, Result, Ok, Err, refl, sym, ap, subst, ◌∙◌, inl, inr, arith, append_assoc}
use Rattle.std.specs.List.{list_all}
use Rattle.std.specs.Str.{bytes_eq}
use Rattle.std.proofs.lemmas.Bool.{cases_Bool, and_parts, and_from, le-leb, lt-leb}
use Rattle.std.proofs.lemmas.List.{append-nil, length-append}
use Rattle.std.proofs.lemmas.Slice.Eq.{bytes_eq-Decides}
use Rattle.siting_definitions.specs.declared.Kind.{Kind}
use Rattle.siting_definitions.specs.Point.{Place}
use Rattle.siting_definitions.specs.Instance.{DemandPt, Instance, weight, IsInstance}
use Rattle.text_lines.specs.Lines.{is_passed_over}
use Rattle.text_lines.specs.Words.{rows_of}
use Rattle.instance_text.specs.Phase.{Body, Ended}
use Rattle.instance_text.specs.Rows.{kind_row, point_row, polygon_row}
use Rattle.instance_text.specs.Reading.{Found, nothing_found, take_version, take_header, take_kind, take_point, add_polygon, take_permit, take_forbid, take_row, take_fields, finish, at_line, and_then, read_rows, reading}
use Rattle.instance_text.specs.InstanceTexts.{counted_rows, fields_after, header_row, end_row, is_body_row, IsInstanceText}
use Rattle.instance_text.proofs.ReadLawful.{chosen, refused, then_ok, at_line-ok, IsInstance-reading}
use Rattle.instance_text.proofs.ReadsBack.{weight-append}

-- ---- only the rows that count are taken
-- these rows, one after another, give this instance
TakesRows : List (List (List ℕ)) → Found → Instance → Type 0
TakesRows [] found i = finish found.phase found ≡ Ok i
TakesRows ([] ∷ rows) found i = ⊥
TakesRows ((word ∷ fields) ∷ rows) found i = (next : Found) × (take_fields found.phase (word ∷ fields) found ≡ Ok next) × TakesRows rows next i

-- a row before others: what it makes of what was found, and what the others make of that
taken_then : (line : ℕ) (step : Result Found ℕ) (rows : List (List (List ℕ))) (i : Instance)
    → and_then (at_line line step) (λ (next : Found). read_rows (line + 1) rows next) ≡ Ok i
    → (next : Found) × (step ≡ Ok next) × (read_rows (line + 1) rows next ≡ Ok i)
taken_then line step rows i is =
    let parts = then_ok (at_line line step) (λ (next : Found). read_rows (line + 1) rows next) i is in
    (parts.0, at_line-ok line step parts.0 parts.1.0, parts.1.1)

-- the rows of a text that was read
takes_rows : (rows : List (List (List ℕ))) (line : ℕ) (found : Found) (i : Instance) → read_rows line rows found ≡ Ok i → TakesRows (counted_rows rows) found i
unfolding TakesRows
takes_rows [] line found i is = at_line-ok line (finish found.phase found) i is
takes_rows ([] ∷ rows) line found i is = takes_rows rows (line + 1) found i is
takes_rows ((word ∷ fields) ∷ rows) line found i is = by_row (λ next e. takes_rows rows (line + 1) next i e) (cases_Bool (is_passed_over (word ∷ fields)))
  where
    by_row : ((next : Found) → read_rows (line + 1) rows next ≡ Ok i → TakesRows (counted_rows rows) next i)
        → (is_passed_over (word ∷ fields) ≡ true) ⊎ (is_passed_over (word ∷ fields) ≡ false) → TakesRows (counted_rows ((word ∷ fields) ∷ rows)) found i
    by_row later (inl passed) = rw passed (later found (rw passed at is))
    by_row later (inr counts) =
        let step = taken_then line (take_fields found.phase (word ∷ fields) found) rows i (rw counts at is) in
        rw counts (step.0, step.1, later step.0 step.2)

-- and back
rows_read : (rows : List (List (List ℕ))) (line : ℕ) (found : Found) (i : Instance) → TakesRows (counted_rows rows) found i → read_rows line rows found ≡ Ok i
unfolding TakesRows
rows_read [] line found i takes = ap (at_line line) takes
rows_read ([] ∷ rows) line found i takes = rows_read rows (line + 1) found i takes
rows_read ((word ∷ fields) ∷ rows) line found i takes = by_row (λ next t. rows_read rows (line + 1) next i t) (cases_Bool (is_passed_over (word ∷ fields)))
  where
    by_row : ((next : Found) → TakesRows (counted_rows rows) next i → read_rows (line + 1) rows next ≡ Ok i)
        → (is_passed_over (word ∷ fields) ≡ true) ⊎ (is_passed_over (word ∷ fields) ≡ false) → read_rows line ((word ∷ fields) ∷ rows) found ≡ Ok i
    by_row later (inl passed) = rw passed (later found (rw passed at takes))
    by_row later (inr counts) =
        let step = rw counts at takes in
        rw (counts, step.1) (later step.0 step.2)

-- ---- what rows between the header and the end say
-- what was found between the header and the end
abbrev body : Bool → Option Kind → List DemandPt → List (List Place) → List (List Place) → Found
body cutoffs kind points permitted forbidden =
    record { phase = Body cutoffs; kind = kind; points = points; permitted = permitted; forbidden = forbidden }

-- the kinds that are still said, where one was found or none
KindFits : Option Kind → List (Result Kind ℕ) → Kind → Type 0
KindFits None said kind = said ≡ Ok kind ∷ []
KindFits (Some found) said kind = (said ≡ []) × (found ≡ kind)

-- the values that were read of some rows are those of a list that come after the ones before
record SaysMore {X : Type 0} (said : List (Result X ℕ)) (before all : List X) : Type 0 where
  more : List X
  read : said ≡ map Ok more
  whole : all ≡ before ++ more

-- After what was found these rows say the rest of this instance.
record SaysRest (cutoffs : Bool) (kind : Option Kind) (points : List DemandPt) (permitted forbidden : List (List Place))
    (rows : List (List (List ℕ))) (i : Instance) : Type 0 where
  kind_said : KindFits kind (map kind_row (fields_after (codes "kind") rows)) i.kind
  points_said : SaysMore (map (point_row cutoffs) (fields_after (codes "point") rows)) points i.points
  permitted_said : SaysMore (map polygon_row (fields_after (codes "permit") rows)) permitted i.permitted
  forbidden_said : SaysMore (map polygon_row (fields_after (codes "forbid") rows)) forbidden i.forbidden

-- one value more before the others
one_more : {X : Type 0} (r : Result X ℕ) (x : X) (rs : List (Result X ℕ)) (before all : List X) → r ≡ Ok x → SaysMore rs (before ++ x ∷ []) all
    → SaysMore (r ∷ rs) before all
one_more r x rs before all is says =
    record { more = x ∷ says.more; read = let later = says.read in cc; whole = says.whole ∙ append_assoc before (x ∷ []) says.more }

-- the first value, and the others
first_said : {X : Type 0} (r : Result X ℕ) (rs : List (Result X ℕ)) (before all : List X) → SaysMore (r ∷ rs) before all
    → (x : X) × (r ≡ Ok x) × SaysMore rs (before ++ x ∷ []) all
first_said {X = X} r rs before all says = first says.more says.read says.whole
  where
    first : (more : List X) → r ∷ rs ≡ map Ok more → all ≡ before ++ more → (x : X) × (r ≡ Ok x) × SaysMore rs (before ++ x ∷ []) all
    first [] read whole = absurd cc
    first (x ∷ more) read whole =
        (x, cc, record { more = more; read = cc; whole = whole ∙ sym (append_assoc before (x ∷ []) more) })

-- where no row is left, those before are all
none_left : {X : Type 0} (before all : List X) → SaysMore [] before all → all ≡ before
none_left {X = X} before all says = none says.more says.read says.whole
  where
    none : (more : List X) → ◌≡◌ {A = List (Result X ℕ)} [] (map Ok more) → all ≡ before ++ more → all ≡ before
    none [] read whole = whole ∙ append-nil before
    none (x ∷ more) read whole = absurd cc

-- ---- the words that begin rows
-- none of the words of this format
pub record IsOther (word : List ℕ) : Type 0 where
  pub kind : bytes_eq word (codes "kind") ≡ false
  pub point : bytes_eq word (codes "point") ≡ false
  pub permit : bytes_eq word (codes "permit") ≡ false
  pub forbid : bytes_eq word (codes "forbid") ≡ false
  pub end : bytes_eq word (codes "end") ≡ false

abbrev pub WordCase : List ℕ → Type 0
WordCase word =
    (word ≡ codes "kind") ⊎ ((word ≡ codes "point") ⊎ ((word ≡ codes "permit") ⊎ ((word ≡ codes "forbid") ⊎ ((word ≡ codes "end") ⊎ IsOther word))))

-- a word is this one, or what holds where it differs
is_or : {T : Type 0} (word name : List ℕ) → (bytes_eq word name ≡ false → T) → (word ≡ name) ⊎ T
is_or {T = T} word name other = by_test (cases_Bool (bytes_eq word name))
  where
    by_test : (bytes_eq word name ≡ true) ⊎ (bytes_eq word name ≡ false) → (word ≡ name) ⊎ T
    by_test (inl same) = inl ((bytes_eq-Decides word name).0 same)
    by_test (inr differs) = inr (other differs)

-- each word is one of these
pub word_case : (word : List ℕ) → WordCase word
word_case word =
    is_or word (codes "kind") (λ kind.
    is_or word (codes "point") (λ point.
    is_or word (codes "permit") (λ permit.
    is_or word (codes "forbid") (λ forbid.
    is_or word (codes "end") (λ end.
    record { kind = kind; point = point; permit = permit; forbid = forbid; end = end })))))

-- ---- from what was taken to what the rows say
-- rows between the header and the end, and the end, with what they say
record SaysBody (cutoffs : Bool) (kind : Option Kind) (points : List DemandPt) (permitted forbidden : List (List Place))
    (all : List (List (List ℕ))) (i : Instance) : Type 0 where
  between : List (List (List ℕ))
  rows : all ≡ between ++ end_row ∷ []
  words : list_all is_body_row between ≡ true
  says : SaysRest cutoffs kind points permitted forbidden between i

-- a row of the body before others
row_before : (cutoffs : Bool) (kind found : Option Kind) (points ds : List DemandPt) (permitted forbidden ps qs : List (List Place))
    (row : List (List ℕ)) (rows : List (List (List ℕ))) (i : Instance)
    → is_body_row row ≡ true → (rest : SaysBody cutoffs found ds ps qs rows i)
    → SaysRest cutoffs kind points permitted forbidden (row ∷ rest.between) i → SaysBody cutoffs kind points permitted forbidden (row ∷ rows) i
row_before cutoffs kind found points ds permitted forbidden ps qs row rows i is rest says =
    record {
      between = row ∷ rest.between;
      rows = ap (λ (rs : List (List (List ℕ))). row ∷ rs) rest.rows;
      words = and_from _ _ is rest.words;
      says = says;
    }

-- ---- what taking a row of each sort makes of what was found
-- the kind, where there was none
kind_taken : (cutoffs : Bool) (kind : Option Kind) (points : List DemandPt) (permitted forbidden : List (List Place)) (row : Result Kind ℕ) (next : Found)
    → take_kind row (body cutoffs kind points permitted forbidden) ≡ Ok next
    → (kind ≡ None) × (k : Kind) × (row ≡ Ok k) × (body cutoffs (Some k) points permitted forbidden ≡ next)
kind_taken cutoffs None points permitted forbidden (Ok k) next is = (refl, k, refl, cc)
kind_taken cutoffs (Some j) points permitted forbidden (Ok k) next is = absurd cc
kind_taken cutoffs kind points permitted forbidden (Err number) next is = absurd cc

-- one point more
point_taken : (cutoffs : Bool) (kind : Option Kind) (points : List DemandPt) (permitted forbidden : List (List Place)) (row : Result DemandPt ℕ)
    (next : Found)
    → take_point row (body cutoffs kind points permitted forbidden) ≡ Ok next
    → (d : DemandPt) × (row ≡ Ok d) × (body cutoffs kind (points ++ d ∷ []) permitted forbidden ≡ next)
point_taken cutoffs kind points permitted forbidden (Err number) next is = absurd cc
point_taken cutoffs kind points permitted forbidden (Ok d) next is =
    let few = refused (leb 4096 (length points)) _ 6 next is in
    let made = (chosen (leb (weight (points ++ d ∷ [])) 16000000) (Ok (body cutoffs kind (points ++ d ∷ []) permitted forbidden)) 7 next few.1).1 in
    (d, refl, cc)

-- polygons to which one was added
polygon_added : (row : Result (List Place) ℕ) (polygons more : List (List Place)) → add_polygon row polygons ≡ Ok more
    → (p : List Place) × (row ≡ Ok p) × (polygons ++ p ∷ [] ≡ more)
polygon_added (Err number) polygons more is = absurd cc
polygon_added (Ok p) polygons more is =
    let made = (refused (leb 64 (length polygons)) (Ok (polygons ++ p ∷ [])) 11 more is).1 in (p, refl, cc)

-- one permitted polygon more
permit_taken : (cutoffs : Bool) (kind : Option Kind) (points : List DemandPt) (permitted forbidden : List (List Place)) (row : Result (List Place) ℕ)
    (next : Found)
    → take_permit row (body cutoffs kind points permitted forbidden) ≡ Ok next
    → (p : List Place) × (row ≡ Ok p) × (body cutoffs kind points (permitted ++ p ∷ []) forbidden ≡ next)
permit_taken cutoffs kind points permitted forbidden row next is =
    let grown = then_ok (add_polygon row permitted) (λ (more : List (List Place)). Ok (body cutoffs kind points more forbidden)) next is in
    let added = polygon_added row permitted grown.0 grown.1.0 in
    let made = grown.1.1 in
    (added.0, added.1, ap (λ (more : List (List Place)). body cutoffs kind points more forbidden) added.2 ∙ cc)

-- one forbidden polygon more
forbid_taken : (cutoffs : Bool) (kind : Option Kind) (points : List DemandPt) (permitted forbidden : List (List Place)) (row : Result (List Place) ℕ)
    (next : Found)
    → take_forbid row (body cutoffs kind points permitted forbidden) ≡ Ok next
    → (p : List Place) × (row ≡ Ok p) × (body cutoffs kind points permitted (forbidden ++ p ∷ []) ≡ next)
forbid_taken cutoffs kind points permitted forbidden row next is =
    let grown = then_ok (add_polygon row forbidden) (λ (more : List (List Place)). Ok (body cutoffs kind points permitted more)) next is in
    let added = polygon_added row forbidden grown.0 grown.1.0 in
    let made = grown.1.1 in
    (added.0, added.1, ap (λ (more : List (List Place)). body cutoffs kind points permitted more) added.2 ∙ cc)

-- what was found, with the end
abbrev ended : Kind → List DemandPt → List (List Place) → List (List Place) → Found
ended kind points permitted forbidden =
    record { phase = Ended kind; kind = Some kind; points = points; permitted = permitted; forbidden = forbidden }

-- after the end no row counts
after_end : (rows : List (List (List ℕ))) (kind : Kind) (points : List DemandPt) (permitted forbidden : List (List Place)) (i : Instance)
    → TakesRows rows (ended kind points permitted forbidden) i
    → (rows ≡ []) × (i ≡ record { kind = kind; points = points; permitted = permitted; forbidden = forbidden })
unfolding TakesRows
after_end [] kind points permitted forbidden i takes = (refl, cc)
after_end ([] ∷ rows) kind points permitted forbidden i takes = absurd takes
after_end ((word ∷ fields) ∷ rows) kind points permitted forbidden i takes = let no = takes.1 in absurd cc

-- where these rows are all taken, whatever was found before, they are rows of the body, and the end
abbrev AreBody : Bool → Instance → List (List (List ℕ)) → Type 0
AreBody cutoffs i rows =
    (kind : Option Kind) (points : List DemandPt) (permitted forbidden : List (List Place))
    → TakesRows rows (body cutoffs kind points permitted forbidden) i → SaysBody cutoffs kind points permitted forbidden rows i

-- the row of the kind, of a point, of a polygon, and rows that are of the body
says_kind : (cutoffs : Bool) (i : Instance) (fields : List (List ℕ)) (rows : List (List (List ℕ))) → AreBody cutoffs i rows
    → AreBody cutoffs i ((codes "kind" ∷ fields) ∷ rows)
unfolding TakesRows take_row KindFits
says_kind cutoffs i fields rows later kind points permitted forbidden takes =
    let step = kind_taken cutoffs kind points permitted forbidden (kind_row fields) takes.0 takes.1 in
    let rest = later (Some step.1) points permitted forbidden (subst (λ (next : Found). TakesRows rows next i) (sym step.3) takes.2) in
    let says = rest.says in
    subst (λ (k : Option Kind). SaysBody cutoffs k points permitted forbidden ((codes "kind" ∷ fields) ∷ rows) i) (sym step.0)
    (row_before cutoffs None (Some step.1) points points permitted forbidden permitted forbidden (codes "kind" ∷ fields) rows i refl rest
    (record {
      kind_said = let first = step.2 in let none = says.kind_said.0 in let same = says.kind_said.1 in cc;
      points_said = says.points_said;
      permitted_said = says.permitted_said;
      forbidden_said = says.forbidden_said;
    }))

-- a point
says_point : (cutoffs : Bool) (i : Instance) (fields : List (List ℕ)) (rows : List (List (List ℕ))) → AreBody cutoffs i rows
    → AreBody cutoffs i ((codes "point" ∷ fields) ∷ rows)
unfolding TakesRows take_row
says_point cutoffs i fields rows later kind points permitted forbidden takes =
    let step = point_taken cutoffs kind points permitted forbidden (point_row cutoffs fields) takes.0 takes.1 in
    let rest = later kind (points ++ step.0 ∷ []) permitted forbidden (subst (λ (next : Found). TakesRows rows next i) (sym step.2) takes.2) in
    let says = rest.says in
    row_before cutoffs kind kind points (points ++ step.0 ∷ []) permitted forbidden permitted forbidden (codes "point" ∷ fields) rows i refl rest
    (record {
      kind_said = says.kind_said;
      points_said = one_more (point_row cutoffs fields) step.0 _ points i.points step.1 says.points_said;
      permitted_said = says.permitted_said;
      forbidden_said = says.forbidden_said;
    })

-- a permitted polygon
says_permit : (cutoffs : Bool) (i : Instance) (fields : List (List ℕ)) (rows : List (List (List ℕ))) → AreBody cutoffs i rows
    → AreBody cutoffs i ((codes "permit" ∷ fields) ∷ rows)
unfolding TakesRows take_row
says_permit cutoffs i fields rows later kind points permitted forbidden takes =
    let step = permit_taken cutoffs kind points permitted forbidden (polygon_row fields) takes.0 takes.1 in
    let rest = later kind points (permitted ++ step.0 ∷ []) forbidden (subst (λ (next : Found). TakesRows rows next i) (sym step.2) takes.2) in
    let says = rest.says in
    row_before cutoffs kind kind points points permitted forbidden (permitted ++ step.0 ∷ []) forbidden (codes "permit" ∷ fields) rows i refl rest
    (record {
      kind_said = says.kind_said;
      points_said = says.points_said;
      permitted_said = one_more (polygon_row fields) step.0 _ permitted i.permitted step.1 says.permitted_said;
      forbidden_said = says.forbidden_said;
    })

-- a forbidden polygon
says_forbid : (cutoffs : Bool) (i : Instance) (fields : List (List ℕ)) (rows : List (List (List ℕ))) → AreBody cutoffs i rows
    → AreBody cutoffs i ((codes "forbid" ∷ fields) ∷ rows)
unfolding TakesRows take_row
says_forbid cutoffs i fields rows later kind points permitted forbidden takes =
    let step = forbid_taken cutoffs kind points permitted forbidden (polygon_row fields) takes.0 takes.1 in
    let rest = later kind points permitted (forbidden ++ step.0 ∷ []) (subst (λ (next : Found). TakesRows rows next i) (sym step.2) takes.2) in
    let says = rest.says in
    row_before cutoffs kind kind points points permitted forbidden permitted (forbidden ++ step.0 ∷ []) (codes "forbid" ∷ fields) rows i refl rest
    (record {
      kind_said = says.kind_said;
      points_said = says.points_said;
      permitted_said = says.permitted_said;
      forbidden_said = one_more (polygon_row fields) step.0 _ forbidden i.forbidden step.1 says.forbidden_said;
    })

-- the end, where something of each sort was found
says_end : (cutoffs : Bool) (i : Instance) (fields : List (List ℕ)) (rows : List (List (List ℕ))) → AreBody cutoffs i ((codes "end" ∷ fields) ∷ rows)
unfolding TakesRows take_row KindFits
says_end cutoffs i (field ∷ fields) rows kind points permitted forbidden takes = let no = takes.1 in absurd cc
says_end cutoffs i [] rows None points permitted forbidden takes = let no = takes.1 in absurd cc
says_end cutoffs i [] rows (Some k) [] permitted forbidden takes = let no = takes.1 in absurd cc
says_end cutoffs i [] rows (Some k) (d ∷ ds) [] forbidden takes = let no = takes.1 in absurd cc
says_end cutoffs i [] rows (Some k) (d ∷ ds) (p ∷ ps) forbidden takes =
    let made = takes.1 in
    let same : takes.0 ≡ ended k (d ∷ ds) (p ∷ ps) forbidden = cc in
    let last = after_end rows k (d ∷ ds) (p ∷ ps) forbidden i (subst (λ (next : Found). TakesRows rows next i) same takes.2) in
    let is = last.1 in
    record {
      between = [];
      rows = ap (λ (rs : List (List (List ℕ))). end_row ∷ rs) last.0;
      words = refl;
      says = record {
        kind_said = (refl, cc);
        points_said = record { more = []; read = refl; whole = ap (λ (j : Instance). j.points) is ∙ sym (append-nil (d ∷ ds)) };
        permitted_said = record { more = []; read = refl; whole = ap (λ (j : Instance). j.permitted) is ∙ sym (append-nil (p ∷ ps)) };
        forbidden_said = record { more = []; read = refl; whole = ap (λ (j : Instance). j.forbidden) is ∙ sym (append-nil forbidden) };
      };
    }

-- a row that is none of these is not taken
says_other : (cutoffs : Bool) (i : Instance) (word : List ℕ) (fields : List (List ℕ)) (rows : List (List (List ℕ))) → IsOther word
    → AreBody cutoffs i ((word ∷ fields) ∷ rows)
unfolding TakesRows take_row
says_other cutoffs i word fields rows other kind points permitted forbidden takes =
    let no = rw (other.kind, other.point, other.permit, other.forbid, other.end) at takes.1 in absurd cc

-- a row that begins with any word, before rows that are of the body
says_row : (cutoffs : Bool) (i : Instance) (word : List ℕ) (fields : List (List ℕ)) (rows : List (List (List ℕ))) → AreBody cutoffs i rows
    → WordCase word → AreBody cutoffs i ((word ∷ fields) ∷ rows)
says_row cutoffs i word fields rows later (inl is) =
    subst (λ (w : List ℕ). AreBody cutoffs i ((w ∷ fields) ∷ rows)) (sym is) (says_kind cutoffs i fields rows later)
says_row cutoffs i word fields rows later (inr (inl is)) =
    subst (λ (w : List ℕ). AreBody cutoffs i ((w ∷ fields) ∷ rows)) (sym is) (says_point cutoffs i fields rows later)
says_row cutoffs i word fields rows later (inr (inr (inl is))) =
    subst (λ (w : List ℕ). AreBody cutoffs i ((w ∷ fields) ∷ rows)) (sym is) (says_permit cutoffs i fields rows later)
says_row cutoffs i word fields rows later (inr (inr (inr (inl is)))) =
    subst (λ (w : List ℕ). AreBody cutoffs i ((w ∷ fields) ∷ rows)) (sym is) (says_forbid cutoffs i fields rows later)
says_row cutoffs i word fields rows later (inr (inr (inr (inr (inl is))))) =
    subst (λ (w : List ℕ). AreBody cutoffs i ((w ∷ fields) ∷ rows)) (sym is) (says_end cutoffs i fields rows)
says_row cutoffs i word fields rows later (inr (inr (inr (inr (inr other))))) = says_other cutoffs i word fields rows other

-- rows that are all taken are rows of the body, and the end
says_body : (rows : List (List (List ℕ))) (cutoffs : Bool) (i : Instance) → AreBody cutoffs i rows
unfolding TakesRows
says_body [] cutoffs i kind points permitted forbidden takes = absurd cc
says_body ([] ∷ rows) cutoffs i kind points permitted forbidden takes = absurd takes
says_body ((word ∷ fields) ∷ rows) cutoffs i kind points permitted forbidden takes =
    says_row cutoffs i word fields rows (says_body rows cutoffs i) (word_case word) kind points permitted forbidden takes

-- ---- from what the rows say to what is taken
-- where these rows say the rest of the instance, whatever was found before, they are all taken, and the end
abbrev AreTaken : Bool → Instance → List (List (List ℕ)) → Type 0
AreTaken cutoffs i rows =
    (kind : Option Kind) (points : List DemandPt) (permitted forbidden : List (List Place))
    → SaysRest cutoffs kind points permitted forbidden rows i → TakesRows (rows ++ end_row ∷ []) (body cutoffs kind points permitted forbidden) i

-- the end is taken where a kind, a point and a permitted polygon were found
end_taken : (cutoffs : Bool) (kind : Kind) (points : List DemandPt) (permitted forbidden : List (List Place)) → 1 ≤ length points → 1 ≤ length permitted
    → take_fields (Body cutoffs) end_row (body cutoffs (Some kind) points permitted forbidden) ≡ Ok (ended kind points permitted forbidden)
unfolding take_row
end_taken cutoffs kind [] permitted forbidden some_points some_permitted = absurd (omega arith)
end_taken cutoffs kind (d ∷ ds) [] forbidden some_points some_permitted = absurd (omega arith)
end_taken cutoffs kind (d ∷ ds) (p ∷ ps) forbidden some_points some_permitted = refl

-- an instance of these parts
same_instance : (i : Instance) (kind : Kind) (points : List DemandPt) (permitted forbidden : List (List Place))
    → kind ≡ i.kind → i.points ≡ points → i.permitted ≡ permitted → i.forbidden ≡ forbidden
    → ◌≡◌ {A = Result Instance ℕ} (Ok (record { kind = kind; points = points; permitted = permitted; forbidden = forbidden })) (Ok i)
same_instance i kind points permitted forbidden a b c d = rw (a, ← b, ← c, ← d) refl

-- the end alone, where all of the instance was found
takes_end : (cutoffs : Bool) (i : Instance) → IsInstance i → AreTaken cutoffs i []
unfolding TakesRows KindFits
takes_end cutoffs i is None points permitted forbidden says = let no = says.kind_said in absurd cc
takes_end cutoffs i is (Some k) points permitted forbidden says =
    let same_points : i.points ≡ points = none_left points i.points says.points_said in
    let same_permitted : i.permitted ≡ permitted = none_left permitted i.permitted says.permitted_said in
    let same_forbidden : i.forbidden ≡ forbidden = none_left forbidden i.forbidden says.forbidden_said in
    let some_points : 1 ≤ length points = omega (arith, is.few_points, ap length same_points) in
    let some_permitted : 1 ≤ length permitted = omega (arith, is.few_permitted, ap length same_permitted) in (
      ended k points permitted forbidden,
      end_taken cutoffs k points permitted forbidden some_points some_permitted,
      same_instance i k points permitted forbidden says.kind_said.1 same_points same_permitted same_forbidden,
    )

-- the points so far and one more are no heavier than all
weight_within : (points : List DemandPt) (d : DemandPt) (said : List (Result DemandPt ℕ)) (all : List DemandPt) → SaysMore said (points ++ d ∷ []) all
    → weight all ≤ 16000000 → weight (points ++ d ∷ []) ≤ 16000000
weight_within points d said all says light = omega (arith, ap weight says.whole, weight-append (points ++ d ∷ []) says.more)

-- where one more is within the most, those so far are below it
fewer : {X : Type 0} (xs : List X) (x : X) (said : List (Result X ℕ)) (all : List X) (most : ℕ) → SaysMore said (xs ++ x ∷ []) all → length all ≤ most
    → length xs < most
fewer xs x said all most says few =
    omega (arith, ap length says.whole, length-append (xs ++ x ∷ []) says.more, length-append xs (x ∷ []))

-- one point more is taken where there is room for it
point_taken_in : (cutoffs : Bool) (kind : Option Kind) (points : List DemandPt) (permitted forbidden : List (List Place)) (row : Result DemandPt ℕ)
    (d : DemandPt)
    → row ≡ Ok d → length points < 4096 → weight (points ++ d ∷ []) ≤ 16000000
    → take_point row (body cutoffs kind points permitted forbidden) ≡ Ok (body cutoffs kind (points ++ d ∷ []) permitted forbidden)
point_taken_in cutoffs kind points permitted forbidden row d is few light =
    rw (is, lt-leb 4096 (length points) few, le-leb (weight (points ++ d ∷ [])) 16000000 light) refl

-- and so is one polygon more
polygon_taken_in : (row : Result (List Place) ℕ) (p : List Place) (polygons : List (List Place)) → row ≡ Ok p → length polygons < 64
    → add_polygon row polygons ≡ Ok (polygons ++ p ∷ [])
polygon_taken_in row p polygons is few = rw (is, lt-leb 64 (length polygons) few) refl

-- the row of the kind, of a point, of a polygon, and rows that are taken
takes_kind : (cutoffs : Bool) (i : Instance) (fields : List (List ℕ)) (rows : List (List (List ℕ))) → AreTaken cutoffs i rows
    → AreTaken cutoffs i ((codes "kind" ∷ fields) ∷ rows)
unfolding TakesRows take_row KindFits
takes_kind cutoffs i fields rows later (Some k) points permitted forbidden says = let no = says.kind_said.0 in absurd cc
takes_kind cutoffs i fields rows later None points permitted forbidden says =
    let all = says.kind_said in
    let first : kind_row fields ≡ Ok i.kind = cc in
    let none : map kind_row (fields_after (codes "kind") rows) ≡ [] = cc in (
      body cutoffs (Some i.kind) points permitted forbidden,
      rw first refl,
      later (Some i.kind) points permitted forbidden
          (record {
            kind_said = (none, refl);
            points_said = says.points_said;
            permitted_said = says.permitted_said;
            forbidden_said = says.forbidden_said;
          }),
    )

-- a point
takes_point : (cutoffs : Bool) (i : Instance) → IsInstance i → (fields : List (List ℕ)) (rows : List (List (List ℕ))) → AreTaken cutoffs i rows
    → AreTaken cutoffs i ((codes "point" ∷ fields) ∷ rows)
unfolding TakesRows take_row
takes_point cutoffs i is fields rows later kind points permitted forbidden says =
    let first = first_said (point_row cutoffs fields) _ points i.points says.points_said in
    let few = fewer points first.0 _ i.points 4096 first.2 is.many_points in
    let light = weight_within points first.0 _ i.points first.2 is.weight in (
      body cutoffs kind (points ++ first.0 ∷ []) permitted forbidden,
      point_taken_in cutoffs kind points permitted forbidden (point_row cutoffs fields) first.0 first.1 few light,
      later kind (points ++ first.0 ∷ []) permitted forbidden
          (record {
            kind_said = says.kind_said;
            points_said = first.2;
            permitted_said = says.permitted_said;
            forbidden_said = says.forbidden_said;
          }),
    )

-- a permitted polygon
takes_permit : (cutoffs : Bool) (i : Instance) → IsInstance i → (fields : List (List ℕ)) (rows : List (List (List ℕ))) → AreTaken cutoffs i rows
    → AreTaken cutoffs i ((codes "permit" ∷ fields) ∷ rows)
unfolding TakesRows take_row
takes_permit cutoffs i is fields rows later kind points permitted forbidden says =
    let first = first_said (polygon_row fields) _ permitted i.permitted says.permitted_said in
    let few = fewer permitted first.0 _ i.permitted 64 first.2 is.many_permitted in (
      body cutoffs kind points (permitted ++ first.0 ∷ []) forbidden,
      ap (λ (grown : Result (List (List Place)) ℕ). and_then grown (λ (more : List (List Place)). Ok (body cutoffs kind points more forbidden)))
          (polygon_taken_in (polygon_row fields) first.0 permitted first.1 few),
      later kind points (permitted ++ first.0 ∷ []) forbidden
          (record {
            kind_said = says.kind_said;
            points_said = says.points_said;
            permitted_said = first.2;
            forbidden_said = says.forbidden_said;
          }),
    )

-- a forbidden polygon
takes_forbid : (cutoffs : Bool) (i : Instance) → IsInstance i → (fields : List (List ℕ)) (rows : List (List (List ℕ))) → AreTaken cutoffs i rows
    → AreTaken cutoffs i ((codes "forbid" ∷ fields) ∷ rows)
unfolding TakesRows take_row
takes_forbid cutoffs i is fields rows later kind points permitted forbidden says =
    let first = first_said (polygon_row fields) _ forbidden i.forbidden says.forbidden_said in
    let few = fewer forbidden first.0 _ i.forbidden 64 first.2 is.many_forbidden in (
      body cutoffs kind points permitted (forbidden ++ first.0 ∷ []),
      ap (λ (grown : Result (List (List Place)) ℕ). and_then grown (λ (more : List (List Place)). Ok (body cutoffs kind points permitted more)))
          (polygon_taken_in (polygon_row fields) first.0 forbidden first.1 few),
      later kind points permitted (forbidden ++ first.0 ∷ [])
          (record {
            kind_said = says.kind_said;
            points_said = says.points_said;
            permitted_said = says.permitted_said;
            forbidden_said = first.2;
          }),
    )

-- a row of the body, before rows that are taken
takes_row : (cutoffs : Bool) (i : Instance) → IsInstance i → (word : List ℕ) (fields : List (List ℕ)) (rows : List (List (List ℕ)))
    → is_body_row (word ∷ fields) ≡ true → AreTaken cutoffs i rows → WordCase word → AreTaken cutoffs i ((word ∷ fields) ∷ rows)
takes_row cutoffs i is word fields rows known later (inl same) =
    subst (λ (w : List ℕ). AreTaken cutoffs i ((w ∷ fields) ∷ rows)) (sym same) (takes_kind cutoffs i fields rows later)
takes_row cutoffs i is word fields rows known later (inr (inl same)) =
    subst (λ (w : List ℕ). AreTaken cutoffs i ((w ∷ fields) ∷ rows)) (sym same) (takes_point cutoffs i is fields rows later)
takes_row cutoffs i is word fields rows known later (inr (inr (inl same))) =
    subst (λ (w : List ℕ). AreTaken cutoffs i ((w ∷ fields) ∷ rows)) (sym same) (takes_permit cutoffs i is fields rows later)
takes_row cutoffs i is word fields rows known later (inr (inr (inr (inl same)))) =
    subst (λ (w : List ℕ). AreTaken cutoffs i ((w ∷ fields) ∷ rows)) (sym same) (takes_forbid cutoffs i is fields rows later)
takes_row cutoffs i is word fields rows known later (inr (inr (inr (inr (inl same))))) = let no = rw same at known in absurd cc
takes_row cutoffs i is word fields rows known later (inr (inr (inr (inr (inr o))))) =
    let no = rw (o.kind, o.point, o.permit, o.forbid) at known in absurd cc

-- rows of the body that say an instance within the limits are all taken, and the end
takes_body : (rows : List (List (List ℕ))) (cutoffs : Bool) (i : Instance) → IsInstance i → list_all is_body_row rows ≡ true → AreTaken cutoffs i rows
takes_body [] cutoffs i is words = takes_end cutoffs i is
takes_body ([] ∷ rows) cutoffs i is words = absurd cc
takes_body ((word ∷ fields) ∷ rows) cutoffs i is words =
    let parts = and_parts _ _ words in
    takes_row cutoffs i is word fields rows parts.0 (takes_body rows cutoffs i is parts.1) (word_case word)

-- ---- the whole text
-- the header comes first
begins : (rows : List (List (List ℕ))) (i : Instance) → TakesRows rows nothing_found i
    → (cutoffs : Bool) × (later : List (List (List ℕ))) × (rows ≡ header_row cutoffs ∷ later) × TakesRows later (body cutoffs None [] [] []) i
unfolding TakesRows
begins [] i takes = absurd cc
begins ([] ∷ rows) i takes = absurd takes
begins ((word ∷ []) ∷ rows) i takes = let no = takes.1 in absurd cc
begins ((word ∷ version ∷ more ∷ fields) ∷ rows) i takes = let no = takes.1 in absurd cc
begins ((word ∷ version ∷ []) ∷ rows) i takes =
    let test = chosen (bytes_eq word (codes "siting")) (take_version version nothing_found) 1 takes.0 takes.1 in
    let siting : word ≡ codes "siting" = (bytes_eq-Decides word (codes "siting")).0 test.0 in
    by_version siting test.1 (cases_Bool (bytes_eq version (codes "1"))) (cases_Bool (bytes_eq version (codes "2")))
  where
    Begun : Type 0
    Begun =
        (cutoffs : Bool) × (later : List (List (List ℕ))) × ((word ∷ version ∷ []) ∷ rows ≡ header_row cutoffs ∷ later)
        × TakesRows later (body cutoffs None [] [] []) i

    begun : (cutoffs : Bool) → word ≡ codes "siting" → version ≡ cond cutoffs (codes "2") (codes "1") → body cutoffs None [] [] [] ≡ takes.0 → Begun
    begun cutoffs siting same next = (cutoffs, rows, rw (siting, same) refl, subst (λ (found : Found). TakesRows rows found i) (sym next) takes.2)

    by_version : word ≡ codes "siting" → take_version version nothing_found ≡ Ok takes.0
        → (bytes_eq version (codes "1") ≡ true) ⊎ (bytes_eq version (codes "1") ≡ false)
        → (bytes_eq version (codes "2") ≡ true) ⊎ (bytes_eq version (codes "2") ≡ false) → Begun
    by_version siting is (inl one) second =
        let made = rw one at is in begun false siting ((bytes_eq-Decides version (codes "1")).0 one) cc
    by_version siting is (inr other) (inl two) =
        let made = rw (other, two) at is in begun true siting ((bytes_eq-Decides version (codes "2")).0 two) cc
    by_version siting is (inr other) (inr third) = let no = rw (other, third) at is in absurd cc

-- the rows of a text that was read say the instance
pub rows_of-reading : (bytes : List ℕ) (i : Instance) → reading bytes ≡ Ok i → IsInstanceText bytes i
unfolding reading KindFits
rows_of-reading bytes i is =
    let header = begins (counted_rows (rows_of bytes)) i (takes_rows (rows_of bytes) 1 nothing_found i is) in
    let rest = says_body header.1 header.0 i None [] [] [] header.3 in
    let says = rest.says in
    record {
      cutoffs = header.0;
      body = rest.between;
      rows = header.2 ∙ ap (λ (rows : List (List (List ℕ))). header_row header.0 ∷ rows) rest.rows;
      words = rest.words;
      kind = says.kind_said;
      points = says.points_said.read ∙ ap (map Ok) (sym says.points_said.whole);
      permitted = says.permitted_said.read ∙ ap (map Ok) (sym says.permitted_said.whole);
      forbidden = says.forbidden_said.read ∙ ap (map Ok) (sym says.forbidden_said.whole);
      limits = IsInstance-reading bytes i is;
    }

-- the header is taken first
header_taken : (cutoffs : Bool) → take_header (header_row cutoffs) nothing_found ≡ Ok (body cutoffs None [] [] [])
header_taken true = refl
header_taken false = refl

-- a text whose rows say an instance is read as it
pub reading-rows_of : (bytes : List ℕ) (i : Instance) → IsInstanceText bytes i → reading bytes ≡ Ok i
unfolding reading TakesRows KindFits
reading-rows_of bytes i text =
    let says : SaysRest text.cutoffs None [] [] [] text.body i = record {
      kind_said = text.kind;
      points_said = record { more = i.points; read = text.points; whole = refl };
      permitted_said = record { more = i.permitted; read = text.permitted; whole = refl };
      forbidden_said = record { more = i.forbidden; read = text.forbidden; whole = refl };
    } in
    let taken = takes_body text.body text.cutoffs i text.limits text.words None [] [] [] says in
    rows_read (rows_of bytes) 1 nothing_found i
    (subst (λ (rows : List (List (List ℕ))). TakesRows rows nothing_found i) (sym text.rows) (body text.cutoffs None [] [] [], header_taken text.cutoffs, taken))
