-- What is still to come of an answer begins with some lines, part by part and line by line.
use Rattle.std.proofs.Common.{◌≡◌, ℕ, ◌+◌, Bool, List, [], ◌∷◌, ◌++◌, length, Option, Some, None, Result, Ok, Err, refl, sym, ap, subst, ◌∙◌, append_assoc, arith}
use Rattle.std.proofs.lemmas.List.{length-append}
use Rattle.instance_text.specs.Reading.{and_then}
use Rattle.line_stream.specs.Coming.{Coming, first_line}
use Rattle.certificate.specs.declared.reader.AnswerError.{AnswerError}
use Rattle.certificate.specs.HeadReading.{in_answer, or_form, formed, answer_line}
use Rattle.certificate.specs.HeadText.{BeginsWith}
use Rattle.certificate.proofs.NumberForms.{IsForm}

-- ---- results
-- an answer of two steps is one of each
pub and_then_ok : {T U E : Type 0} (x : Result T E) (more : T → Result U E) (y : U) → and_then x more ≡ Ok y → (v : T) × (x ≡ Ok v) × (more v ≡ Ok y)
and_then_ok (Ok v) more y is = (v, refl, is)
and_then_ok (Err e) more y is = absurd cc

pub and_then_from : {T U E : Type 0} (x : Result T E) (more : T → Result U E) (v : T) (y : Result U E) → x ≡ Ok v → more v ≡ y → and_then x more ≡ y
and_then_from x more v y is next = ap (λ r. and_then r more) is ∙ next

pub ok_pair : {A B E : Type 0} (a x : A) (b y : B) → ◌≡◌ {A = Result (A × B) E} (Ok (a, b)) (Ok (x, y)) → (a ≡ x) × (b ≡ y)
ok_pair {A = A} {B = B} a x b y is = let same : ◌≡◌ {A = A × B} (a, b) (x, y) = cc in (ap (λ p. p.0) same, ap (λ p. p.1) same)

-- ---- fronts of what is to come
-- two fronts, one after another, are one
pub begins_then : (front more : List (List ℕ)) (a b c : Coming) → BeginsWith front a b → BeginsWith more b c → BeginsWith (front ++ more) a c
begins_then front more a b c first second = record {
  lines = first.lines ∙ ap (λ (lines : List (List ℕ)). front ++ lines) second.lines ∙ sym (append_assoc front more c.input.lines);
  partial = second.partial ∙ first.partial;
  goes_on = second.goes_on ∙ first.goes_on;
  line = let one = first.line in let two = second.line in omega (arith, length-append front more);
}

-- what comes after the first of two fronts
abbrev pub between : List (List ℕ) → List (List ℕ) → Coming → Coming → Coming
between front more a c = record { input = record a.input { lines = more ++ c.input.lines }; line = a.line + length front }

pub begins_first : (front more : List (List ℕ)) (a c : Coming) → BeginsWith (front ++ more) a c → BeginsWith front a (between front more a c)
begins_first front more a c whole = record { lines = whole.lines ∙ append_assoc front more c.input.lines; partial = refl; goes_on = refl; line = refl }

pub begins_second : (front more : List (List ℕ)) (a c : Coming) → BeginsWith (front ++ more) a c → BeginsWith more (between front more a c) c
begins_second front more a c whole =
    record { lines = refl; partial = whole.partial; goes_on = whole.goes_on; line = let n = whole.line in omega (arith, length-append front more) }

pub same_coming : (lines : List (List ℕ)) (partial partial' : List ℕ) (goes_on goes_on' : Bool) (n n' : ℕ) → partial ≡ partial' → goes_on ≡ goes_on'
    → n ≡ n' →
    ◌≡◌ {A = Coming} (record { input = record { lines = lines; partial = partial; goes_on = goes_on }; line = n })
    (record { input = record { lines = lines; partial = partial'; goes_on = goes_on' }; line = n' })
same_coming lines partial partial' goes_on goes_on' n n' p q r = cc

-- ---- one line
-- the next line is the front
read_next : (lines : List (List ℕ)) (line : List ℕ) (before after : Coming) → before.input.lines ≡ lines → in_answer (first_line lines before) ≡ Ok (line, after)
    → BeginsWith (line ∷ []) before after
read_next [] line before after is e = absurd cc
read_next (l ∷ ls) line before after is e =
    let next : Coming = record { input = record before.input { lines = ls }; line = before.line + 1 } in
    let parts = ok_pair {E = AnswerError} l line next after e in
    let first : BeginsWith (l ∷ []) before next = record { lines = is; partial = refl; goes_on = refl; line = refl } in
    subst (λ (x : List ℕ). BeginsWith (x ∷ []) before after) parts.0 (subst (λ (r : Coming). BeginsWith (l ∷ []) before r) parts.1 first)

-- and a front of one line is the next line
next_back : (line : List ℕ) (before after : Coming) → BeginsWith (line ∷ []) before after → answer_line before ≡ Ok (line, after)
next_back line before after begins =
    ap (λ (lines : List (List ℕ)). in_answer (first_line lines before)) begins.lines
    ∙ ap (λ (r : Coming). Ok (line, r)) (same_coming after.input.lines before.input.partial after.input.partial
    before.input.goes_on after.input.goes_on (before.line + 1) after.line (sym begins.partial) (sym begins.goes_on) (sym begins.line))

or_form_ok : {T : Type 0} (o : Option T) (v : T) (r after : Coming) → or_form o r ≡ Ok (v, after) → (o ≡ Some v) × (r ≡ after)
or_form_ok None v r after e = absurd cc
or_form_ok (Some w) v r after e = let parts = ok_pair {E = AnswerError} w v r after e in (ap Some parts.0, parts.1)

-- a line that is read by its form, with the range of its value
pub read_formed : {T : Type 0} (form : List ℕ → Option T) (text : T → List ℕ) (P : T → Type 0) (v : T) (before after : Coming) → IsForm form text P
    → formed form before ≡ Ok (v, after) → BeginsWith (text v ∷ []) before after × P v
read_formed form text P v before after is e =
    let next = and_then_ok (answer_line before) (λ n. or_form (form n.0) n.1) (v, after) e in
    let value = or_form_ok (form next.0.0) v next.0.1 after next.2 in
    let begins = read_next before.input.lines next.0.0 before next.0.1 refl next.1 in
    let p = is.read next.0.0 v value.0 in
    (subst (λ (line : List ℕ). BeginsWith (line ∷ []) before after) p.0 (subst (λ (r : Coming). BeginsWith (next.0.0 ∷ []) before r) value.1 begins), p.1)

-- a line of a form is read as its value
pub formed_back : {T : Type 0} (form : List ℕ → Option T) (text : T → List ℕ) (P : T → Type 0) (v : T) (before after : Coming) → IsForm form text P → P v
    → BeginsWith (text v ∷ []) before after → formed form before ≡ Ok (v, after)
formed_back form text P v before after is p begins = rw (next_back (text v) before after begins, is.back v p) refl
