-- The part of an answer that is the canonical text of its instance.
use Rattle.std.proofs.Common.{◌≡◌, ℕ, ◌+◌, Bool, true, false, ◌&&◌, not, List, [], ◌∷◌, ◌++◌, length, map, codes, Option, Some, None, Result, Ok, Err, refl, sym, ap, subst, ◌∙◌, ◌⊎◌, inl, inr}
use Rattle.std.specs.Str.{bytes_eq}
use Rattle.std.proofs.lemmas.Bool.{cases_Bool, cond-true, not-true, not_from_false, and_parts, and_from}
use Rattle.std.proofs.lemmas.List.Folds.{list_all-append}
use Rattle.std.proofs.lemmas.Option.{cond_some, same_Some}
use Rattle.std.proofs.lemmas.Slice.Eq.{bytes_eq-Decides}
use Rattle.text_lines.specs.Words.{line_bytes}
use Rattle.siting_definitions.specs.Point.{Place}
use Rattle.siting_definitions.specs.Instance.{DemandPt, Instance, IsInstance}
use Rattle.siting_definitions.specs.InstanceText.{has_cutoff, version_field, kind_field, point_line, polygon_line, instance_lines, instance_text}
use Rattle.instance_text.specs.declared.faults.InstanceFault.{InstanceFault}
use Rattle.instance_text.specs.Reading.{reading}
use Rattle.instance_text.proofs.ReadsBack.{AreWords-instance_lines, reading-instance_text}
use Rattle.instance_text.proofs.ReadLawful.{IsInstance-reading}
use Rattle.line_stream.specs.Coming.{Coming}
use Rattle.line_stream.specs.Input.{bytes_of}
use Rattle.line_stream.specs.Feeds.{is_feedless, are_feedless}
use Rattle.certificate.specs.declared.reader.AnswerError.{AnswerError}
use Rattle.certificate.specs.HeadReading.{part_of, same_version, if_canonical, or_bad_instance, instance_in, instance_part}
use Rattle.certificate.specs.HeadText.{BeginsWith}
use Rattle.certificate.proofs.FrontLemmas.{ok_pair, same_coming}
use Rattle.certificate.proofs.LineBytes.{text_of-bytes_of, feedless_lines, bytes_of_injective}

-- ---- where the lines of an instance end
-- whether a line is `end`
is_end : List (List ℕ) → Bool
is_end fields = bytes_eq (line_bytes fields) (codes "end")

-- whether the last line is the only one that is `end`
ends : List (List (List ℕ)) → Bool
ends [] = false
ends (line ∷ []) = is_end line
ends (line ∷ next ∷ lines) = not (is_end line) && ends (next ∷ lines)

ends_next : (line : List (List ℕ)) (lines : List (List (List ℕ))) → is_end line ≡ false → ends lines ≡ true → ends (line ∷ lines) ≡ true
unfolding ends
ends_next line [] other h = absurd cc
ends_next line (next ∷ lines) other h = and_from _ _ (not_from_false _ other) h

-- lines of one kind, none of which is `end`, before others
ends_map : {X : Type 0} (line : X → List (List ℕ)) → ((x : X) → is_end (line x) ≡ false) → (xs : List X) (lines : List (List (List ℕ)))
    → ends lines ≡ true → ends (map line xs ++ lines) ≡ true
ends_map line each [] lines h = h
ends_map line each (x ∷ xs) lines h = ends_next (line x) (map line xs ++ lines) (each x) (ends_map line each xs lines h)

permit_not_end : (vs : List Place) → is_end (polygon_line (codes "permit") vs) ≡ false
unfolding is_end
permit_not_end [] = refl
permit_not_end (v ∷ vs) = refl

forbid_not_end : (vs : List Place) → is_end (polygon_line (codes "forbid") vs) ≡ false
unfolding is_end
forbid_not_end [] = refl
forbid_not_end (v ∷ vs) = refl

point_not_end : (d : DemandPt) → is_end (point_line d) ≡ false
unfolding is_end
point_not_end d = refl

header_not_end : (field : List ℕ) → is_end (codes "siting" ∷ field ∷ []) ≡ false
unfolding is_end
header_not_end field = refl

kind_not_end : (field : List ℕ) → is_end (codes "kind" ∷ field ∷ []) ≡ false
unfolding is_end
kind_not_end field = refl

last_ends : ends ((codes "end" ∷ []) ∷ []) ≡ true
unfolding ends is_end
last_ends = refl

-- the last line of an instance, and no other, is `end`
ends-instance_lines : (i : Instance) → ends (instance_lines i) ≡ true
ends-instance_lines i =
    ends_next _ _ (header_not_end (version_field i))
    (ends_next _ _ (kind_not_end (kind_field i.kind))
    (ends_map point_line point_not_end i.points _
    (ends_map (polygon_line (codes "permit")) permit_not_end i.permitted _
    (ends_map (polygon_line (codes "forbid")) forbid_not_end i.forbidden ((codes "end" ∷ []) ∷ []) last_ends))))

-- the lines up to the first that is `end`
part_of-ends : (lines : List (List (List ℕ))) (rest : List (List ℕ)) → ends lines ≡ true
    → part_of (map line_bytes lines ++ rest) ≡ Some (map line_bytes lines, rest)
unfolding ends is_end
part_of-ends [] rest h = absurd cc
part_of-ends (line ∷ []) rest h = rw h refl
part_of-ends (line ∷ next ∷ lines) rest h =
    let parts = and_parts _ _ h in
    let other : bytes_eq (line_bytes line) (codes "end") ≡ false = not-true _ parts.0 in
    rw (other, part_of-ends (next ∷ lines) rest parts.1) refl

cases_Option : {T : Type 0} (o : Option T) → (o ≡ None) ⊎ ((x : T) × (o ≡ Some x))
cases_Option None = inl refl
cases_Option (Some x) = inr (x, refl)

part_first : (line : List ℕ) (lines : List (List ℕ)) (parts : List (List ℕ) × List (List ℕ))
    → ((p : List (List ℕ) × List (List ℕ)) → part_of lines ≡ Some p → lines ≡ p.0 ++ p.1) → part_of (line ∷ lines) ≡ Some parts
    → (bytes_eq line (codes "end") ≡ true) ⊎ (bytes_eq line (codes "end") ≡ false)
    → (part_of lines ≡ None) ⊎ ((p : List (List ℕ) × List (List ℕ)) × (part_of lines ≡ Some p))
    → line ∷ lines ≡ parts.0 ++ parts.1
part_first line lines parts more e (inl t) rest =
    let same : Some (line ∷ [], lines) ≡ Some parts = sym (cond-true _ _ _ t) ∙ e in
    ap (λ (p : List (List ℕ) × List (List ℕ)). p.0 ++ p.1) (same_Some _ _ same)
part_first line lines parts more e (inr f) (inl none) = let is = rw (f, none) at e in absurd cc
part_first line lines parts more e (inr f) (inr some) =
    let is = rw (f, some.1) at e in
    let same : ◌≡◌ {A = List (List ℕ) × List (List ℕ)} (line ∷ some.0.0, some.0.1) parts = same_Some _ _ is in
    ap (λ (ls : List (List ℕ)). line ∷ ls) (more some.0 some.1) ∙ ap (λ (p : List (List ℕ) × List (List ℕ)). p.0 ++ p.1) same

-- the part and the rest are the lines
part_of-parts : (lines : List (List ℕ)) (parts : List (List ℕ) × List (List ℕ)) → part_of lines ≡ Some parts → lines ≡ parts.0 ++ parts.1
part_of-parts [] parts e = absurd cc
part_of-parts (line ∷ lines) parts e = part_first line lines parts (part_of-parts lines) e (cases_Bool (bytes_eq line (codes "end")))
    (cases_Option (part_of lines))

-- ---- the instance of a part
same_version-true : (a b : Bool) → same_version a b ≡ true → a ≡ b
same_version-true true b h = sym h
same_version-true false true h = absurd cc
same_version-true false false h = refl

same_version-same : (a : Bool) → same_version a a ≡ true
same_version-same true = refl
same_version-same false = refl

or_bad_instance_ok : (o : Option Instance) (i : Instance) (r after : Coming) → or_bad_instance o r ≡ Ok (i, after) → (o ≡ Some i) × (r ≡ after)
or_bad_instance_ok None i r after e = absurd cc
or_bad_instance_ok (Some j) i r after e = let parts = ok_pair {E = AnswerError} j i r after e in (ap Some parts.0, parts.1)

-- a part that is the canonical text of an instance of this version
if_canonical_some : (second : Bool) (bytes : List ℕ) (found : Result Instance InstanceFault) (i : Instance) → if_canonical second bytes found ≡ Some i
    → (found ≡ Ok i) × (instance_text i ≡ bytes) × (second ≡ has_cutoff i)
if_canonical_some second bytes (Err fault) i e = absurd cc
if_canonical_some second bytes (Ok j) i e =
    let test = cond_some (bytes_eq (instance_text j) bytes && same_version second (has_cutoff j)) j i e in
    let parts = and_parts _ _ test.0 in (
      ap Ok test.1,
      ap instance_text (sym test.1) ∙ (bytes_eq-Decides (instance_text j) bytes).0 parts.0,
      same_version-true second (has_cutoff j) parts.1 ∙ ap has_cutoff test.1,
    )

instance_text-bytes_of : (i : Instance) → instance_text i ≡ bytes_of (map line_bytes (instance_lines i))
unfolding instance_text
instance_text-bytes_of i = text_of-bytes_of (instance_lines i)

feedless_instance : (i : Instance) → are_feedless (map line_bytes (instance_lines i)) ≡ true
feedless_instance i = feedless_lines (instance_lines i) (AreWords-instance_lines i).test

-- the lines of a canonical text are those of its instance
canonical_lines : (i : Instance) (part : List (List ℕ)) → are_feedless part ≡ true → instance_text i ≡ bytes_of part
    → part ≡ map line_bytes (instance_lines i)
canonical_lines i part clean same =
    bytes_of_injective part (map line_bytes (instance_lines i)) clean (feedless_instance i) (sym same ∙ instance_text-bytes_of i)

-- what is to come begins with the canonical lines of this instance, of this version
abbrev pub IsPart : Bool → Instance → Coming → Coming → Type 0
IsPart second i before after = IsInstance i × (second ≡ has_cutoff i) × BeginsWith (map line_bytes (instance_lines i)) before after

-- the instance of a part that was found
read_part : (second : Bool) (i : Instance) (before after : Coming) (parts : List (List ℕ) × List (List ℕ)) → are_feedless before.input.lines ≡ true
    → part_of before.input.lines ≡ Some parts → instance_in second (Some parts) before ≡ Ok (i, after) → IsPart second i before after
read_part second i before after parts clean found e =
    let next : Coming = record { input = record before.input { lines = parts.1 }; line = before.line + length parts.0 } in
    let bytes = bytes_of parts.0 in
    let ok = or_bad_instance_ok (if_canonical second bytes (reading bytes)) i next after e in
    let is = if_canonical_some second bytes (reading bytes) i ok.0 in
    let whole : before.input.lines ≡ parts.0 ++ parts.1 = part_of-parts before.input.lines parts found in
    let both : (are_feedless parts.0 && are_feedless parts.1) ≡ true =
    sym (list_all-append is_feedless parts.0 parts.1) ∙ ap are_feedless (sym whole) ∙ clean in
    let same : parts.0 ≡ map line_bytes (instance_lines i) = canonical_lines i parts.0 (and_parts _ _ both).0 is.1 in
    let begins : BeginsWith parts.0 before next = record { lines = whole; partial = refl; goes_on = refl; line = refl } in (
      IsInstance-reading bytes i is.0,
      is.2,
      subst (λ (front : List (List ℕ)). BeginsWith front before after) same (subst (λ (r : Coming). BeginsWith parts.0 before r) ok.1 begins),
    )

-- an instance is read from its canonical lines alone
pub read_instance : (second : Bool) (i : Instance) (before after : Coming) → are_feedless before.input.lines ≡ true
    → instance_part second before ≡ Ok (i, after) → IsPart second i before after
read_instance second i before after clean e = by_part (cases_Option (part_of before.input.lines))
  where
    by_part : (part_of before.input.lines ≡ None) ⊎ ((p : List (List ℕ) × List (List ℕ)) × (part_of before.input.lines ≡ Some p))
        → IsPart second i before after
    by_part (inl none) = let no : instance_in second None before ≡ Ok (i, after) = sym (ap (λ o. instance_in second o before) none) ∙ e in absurd cc
    by_part (inr some) = read_part second i before after some.0 clean some.1 (sym (ap (λ o. instance_in second o before) some.1) ∙ e)

-- and it is read from these
pub instance_back : (i : Instance) (before after : Coming) → IsInstance i → BeginsWith (map line_bytes (instance_lines i)) before after
    → instance_part (has_cutoff i) before ≡ Ok (i, after)
instance_back i before after is begins =
    let part : List (List ℕ) = map line_bytes (instance_lines i) in
    let next : Coming = record { input = record before.input { lines = after.input.lines }; line = before.line + length part } in
    let found : part_of before.input.lines ≡ Some (part, after.input.lines) =
    ap part_of begins.lines ∙ part_of-ends (instance_lines i) after.input.lines (ends-instance_lines i) in
    let bytes : instance_text i ≡ bytes_of part = instance_text-bytes_of i in
    let read : reading (bytes_of part) ≡ Ok i = ap reading (sym bytes) ∙ reading-instance_text i is in
    let same : bytes_eq (instance_text i) (bytes_of part) ≡ true = (bytes_eq-Decides (instance_text i) (bytes_of part)).1 bytes in
    let canonical : if_canonical (has_cutoff i) (bytes_of part) (reading (bytes_of part)) ≡ Some i = rw (read, same, same_version-same (has_cutoff i)) refl in
    ap (λ o. instance_in (has_cutoff i) o before) found
    ∙ ap (λ (o : Option Instance). or_bad_instance o next) canonical
    ∙ ap (λ (r : Coming). Ok (i, r)) (same_coming after.input.lines before.input.partial after.input.partial before.input.goes_on after.input.goes_on
    (before.line + length part) after.line (sym begins.partial) (sym begins.goes_on) (sym begins.line))
