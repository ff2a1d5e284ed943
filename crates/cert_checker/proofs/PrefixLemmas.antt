-- The text of a valid answer that is cut short has its fault at the first line that is missing.
use Rattle.std.proofs.Common.{◌≡◌, ℕ, zero, suc, ◌+◌, ◌<◌, ◌≤◌, ◌==◌, eqb, Bool, true, false, cond, ◌⊎◌, inl, inr, List, [], ◌∷◌, ◌++◌, length, codes, bytes_eq, count_by, Option, None, Some, Result, Ok, Err, refl, sym, ap, ◌∙◌, subst, arith}
use Rattle.std.specs.Prelude.{⊤}
use Rattle.std.proofs.lemmas.List.{length-append}
use Rattle.std.proofs.lemmas.List.Sums.{sum_by-cons}
use Rattle.siting_definitions.specs.declared.Mark.{Mark}
use Rattle.siting_definitions.specs.Instance.{Instance}
use Rattle.siting_definitions.specs.Sites.{root_of}
use Rattle.siting_definitions.specs.Marks.{tally_of}
use Rattle.siting_definitions.specs.Answer.{Head, Answer, IsValid}
use Rattle.siting_definitions.specs.AnswerText.{answer_text}
use Rattle.instance_text.specs.Reading.{and_then}
use Rattle.line_stream.specs.Input.{Input, onto_lines, input_from, input_of, bytes_of}
use Rattle.line_stream.specs.Coming.{Coming, first_line}
use Rattle.line_stream.proofs.InputLemmas.{bytes-input_of, are_feedless-input_of, goes_on-within}
use Rattle.certificate.specs.declared.reader.AnswerError.{AnswerError}
use Rattle.certificate.specs.declared.reader.AnswerError.TheVariants.{Form}
use Rattle.certificate.specs.declared.reader.Item.{Item}
use Rattle.certificate.specs.declared.reader.Item.TheVariants.{Node, End}
use Rattle.certificate.specs.Forms.{version_form, gap_form, budget_form, pool_form, site_form, cost_form, bound_form, word_form, open_form, leases_form, root_form, item_form}
use Rattle.certificate.specs.HeadReading.{answer_limit, coming_of, missing, in_answer, answer_line, or_form, formed, add_line, part_of, instance_in, instance_part, or_bad_instance, limits_part, best_part, outcome_part, lines_after, head_reading, end_of}
use Rattle.certificate.proofs.HeadLemmas.{read_head}
use Rattle.certificate.proofs.AnswerTextLemmas.{text_comes}
use Rattle.certificate.proofs.LengthLemmas.{valid-length}
use Rattle.cert_checker.specs.declared.faults.TheConstants.{FORM}
use Rattle.cert_checker.specs.declared.faults.CheckFault.{CheckFault}
use Rattle.cert_checker.specs.declared.faults.CheckError.{CheckError}
use Rattle.cert_checker.specs.declared.faults.CheckError.TheVariants.{Fault}
use Rattle.cert_checker.specs.declared.checking.Accepted.{Accepted}
use Rattle.cert_checker.specs.Faults.{fault_at, head_fault_of}
use Rattle.cert_checker.specs.Checking.{Progress, unless_fault, read_ok, accepted_of, node_fault, last_fault, at_item, items_of, after_head, checking, start_of, progress_after}
use Rattle.cert_checker.proofs.ItemLemmas.{unless-parts}
use Rattle.cert_checker.proofs.ValidLemmas.{valid-accepted}

-- ---- the input
-- Of an input that ends with a line feed a front has the first lines whole, and at least one of them not.
record IsCutInput (whole cut : Input) : Type 0 where
  pub missing : List (List ℕ)
  pub some : 0 < length missing
  pub lines : whole.lines ≡ cut.lines ++ missing

onto_cut : (b : ℕ) (ws cs ys : List (List ℕ)) (wp cp : List ℕ) (wg cg : Bool) → 0 < length ys → ws ≡ cs ++ ys
    → IsCutInput (onto_lines b ws (record { lines = ws; partial = wp; goes_on = wg })) (onto_lines b cs (record { lines = cs; partial = cp; goes_on = cg }))
onto_cut b ws [] [] wp cp wg cg some is = absurd (omega arith)
onto_cut b ws [] (y ∷ ys) wp cp wg cg some is = rw is (record { missing = (b ∷ y) ∷ ys; some = omega arith; lines = refl })
onto_cut b ws (c ∷ cs) ys wp cp wg cg some is = rw is (record { missing = ys; some = some; lines = refl })

from_cut : (b : ℕ) (whole cut : Input) → IsCutInput whole cut → IsCutInput (input_from b whole) (input_from b cut)
from_cut b whole cut h = by_test (eqb b 10)
  where
    by_test : (t : Bool) → IsCutInput (cond t (record whole { lines = [] ∷ whole.lines }) (onto_lines b whole.lines whole)) (cond t (record cut { lines = [] ∷ cut.lines }) (onto_lines b cut.lines cut))
    by_test true = record { missing = h.missing; some = h.some; lines = ap (λ (ls : List (List ℕ)). [] ∷ ls) h.lines }
    by_test false = onto_cut b whole.lines cut.lines h.missing whole.partial cut.partial whole.goes_on cut.goes_on h.some h.lines

-- where nothing comes after the last line feed, nothing does before a byte
onto_whole : (b : ℕ) (lines : List (List ℕ)) (partial : List ℕ) (goes_on : Bool) → (onto_lines b lines (record { lines = lines; partial = partial; goes_on = goes_on })).partial ≡ [] → partial ≡ []
onto_whole b [] partial goes_on none = absurd (cc)
onto_whole b (line ∷ lines) partial goes_on none = none

from_whole : (b : ℕ) (i : Input) → (input_from b i).partial ≡ [] → i.partial ≡ []
from_whole b i = by_test (eqb b 10)
  where
    by_test : (t : Bool) → (cond t (record i { lines = [] ∷ i.lines }) (onto_lines b i.lines i)).partial ≡ [] → i.partial ≡ []
    by_test true none = none
    by_test false none = onto_whole b i.lines i.partial i.goes_on none

-- bytes that end with a line feed have a line
some_lines : (limit : ℕ) (bytes : List ℕ) → 0 < length bytes → length bytes ≤ limit → (input_of limit bytes).partial ≡ [] → 0 < length (input_of limit bytes).lines
some_lines limit bytes some within none = by_lines (input_of limit bytes).lines refl
  where
    by_lines : (lines : List (List ℕ)) → (input_of limit bytes).lines ≡ lines → 0 < length lines
    by_lines [] is =
        let empty = bytes-input_of limit bytes (goes_on-within limit bytes within) ∙ (ap (λ (p : List ℕ). bytes_of (input_of limit bytes).lines ++ p) none ∙ ap (λ (ls : List (List ℕ)). bytes_of ls ++ []) is) in
        absurd (omega (arith, ap length empty, some))
    by_lines (line ∷ lines) is = omega arith

input_cut : (limit : ℕ) (front rest : List ℕ) → 0 < length rest → length (front ++ rest) ≤ limit → (input_of limit (front ++ rest)).partial ≡ [] → IsCutInput (input_of limit (front ++ rest)) (input_of limit front)
unfolding input_of
input_cut limit [] rest some within none = record { missing = (input_of limit rest).lines; some = some_lines limit rest some within none; lines = refl }
input_cut zero (b ∷ bs) rest some within none = absurd (omega arith)
input_cut (suc limit) (b ∷ bs) rest some within none =
    from_cut b (input_of limit (bs ++ rest)) (input_of limit bs) (input_cut limit bs rest some (omega arith) (from_whole b (input_of limit (bs ++ rest)) none))

-- an input within the limit has as many whole lines as line feeds
onto_count : (b : ℕ) (lines : List (List ℕ)) (i : Input) → i.lines ≡ lines → length (onto_lines b lines i).lines ≡ length lines
onto_count b [] i is = ap length is
onto_count b (line ∷ lines) i is = refl

from_count : (b : ℕ) (i : Input) → length (input_from b i).lines ≡ cond (eqb b 10) 1 0 + length i.lines
from_count b i = by_test (eqb b 10)
  where
    by_test : (t : Bool) → length (cond t (record i { lines = [] ∷ i.lines }) (onto_lines b i.lines i)).lines ≡ cond t 1 0 + length i.lines
    by_test true = omega arith
    by_test false = omega (arith, onto_count b i.lines i refl)

lines_count : (limit : ℕ) (bytes : List ℕ) → length bytes ≤ limit → length (input_of limit bytes).lines ≡ count_by (λ b. b == 10) bytes
unfolding input_of
lines_count limit [] within = refl
lines_count zero (b ∷ bs) within = absurd (omega arith)
lines_count (suc limit) (b ∷ bs) within =
    from_count b (input_of limit bs)
    ∙ (ap (λ n. cond (eqb b 10) 1 0 + n) (lines_count limit bs (omega arith)) ∙ sym (sum_by-cons (λ (c : ℕ). cond (eqb c 10) 1 0) b bs))

-- ---- what is to come, cut short
-- The first n lines are whole, and at least one that comes after them in r doesn't come in c.
record IsCut (n : ℕ) (r c : Coming) : Type 0 where
  pub missing : List (List ℕ)
  pub some : 0 < length missing
  pub lines : r.input.lines ≡ c.input.lines ++ missing
  pub ends : c.input.goes_on ≡ false
  pub line : c.line ≡ r.line
  pub last : c.line + length c.input.lines ≡ n

-- where a value is read of all, it is read of what was cut short, too, or the line is missing
abbrev IsReadOf : {T : Type 0} → ℕ → Result (T × Coming) AnswerError → Result (T × Coming) AnswerError → Type 0
IsReadOf n (Ok v) cut = ((c : Coming) × (cut ≡ Ok (v.0, c)) × IsCut n v.1 c) ⊎ (cut ≡ Err (Form (n + 1)))
IsReadOf n (Err error) cut = ⊤

stops_there : {T : Type 0} (n : ℕ) (whole cut : Result (T × Coming) AnswerError) → cut ≡ Err (Form (n + 1)) → IsReadOf n whole cut
stops_there n (Ok v) cut is = inr is
stops_there n (Err error) cut is = tt

then_cut : {T U : Type 0} (n : ℕ) (whole cut : Result (T × Coming) AnswerError) (more : T × Coming → Result (U × Coming) AnswerError) → IsReadOf n whole cut
    → ((v : T) (r c : Coming) → IsCut n r c → IsReadOf n (more (v, r)) (more (v, c))) → IsReadOf n (and_then whole more) (and_then cut more)
then_cut n (Err error) cut more h later = tt
then_cut n (Ok v) cut more (inl h) later = subst (λ y. IsReadOf n (more v) (and_then y more)) (sym h.1) (later v.0 v.1 h.0 h.2)
then_cut n (Ok v) cut more (inr stops) later = stops_there n (more v) (and_then cut more) (ap (λ y. and_then y more) stops)

missing_there : (i : Input) (n k : ℕ) → i.goes_on ≡ false → k ≡ n + 1 → missing i k ≡ Form (n + 1)
missing_there i n k ends is = rw (ends, is) refl

line_cut : (n : ℕ) (r c : Coming) → IsCut n r c → IsReadOf n (answer_line r) (answer_line c)
line_cut n r c h =
    subst (λ (ls : List (List ℕ)). IsReadOf n (in_answer (first_line ls r)) (in_answer (first_line c.input.lines c))) (sym h.lines)
    (by_lines c.input.lines h.last)
  where
    by_lines : (lines : List (List ℕ)) → c.line + length lines ≡ n → IsReadOf n (in_answer (first_line (lines ++ h.missing) r)) (in_answer (first_line lines c))
    by_lines [] last = stops_there n _ _ (ap Err (missing_there c.input n (c.line + 1) h.ends (omega (arith, last))))
    by_lines (line ∷ lines) last =
        inl (
          record { input = record c.input { lines = lines }; line = c.line + 1 },
          refl,
          record {
            missing = h.missing;
            some = h.some;
            lines = refl;
            ends = h.ends;
            line = ap (λ k. k + 1) h.line;
            last = omega (arith, last);
          },
        )

or_form_cut : {T : Type 0} (n : ℕ) (o : Option T) (r c : Coming) → IsCut n r c → IsReadOf n (or_form o r) (or_form o c)
or_form_cut n None r c h = tt
or_form_cut n (Some v) r c h = inl (c, refl, h)

formed_cut : {T : Type 0} (n : ℕ) (form : List ℕ → Option T) (r c : Coming) → IsCut n r c → IsReadOf n (formed form r) (formed form c)
formed_cut n form r c h =
    then_cut n (answer_line r) (answer_line c) (λ line. or_form (form line.0) line.1) (line_cut n r c h) (λ line s d cut. or_form_cut n (form line) s d cut)

-- ---- the instance
-- the lines of the instance are whole, or not all there
abbrev IsPartOf : ℕ → List (List ℕ) → Option (List (List ℕ) × List (List ℕ)) → Option (List (List ℕ) × List (List ℕ)) → Type 0
IsPartOf k missed None cut = ⊤
IsPartOf k missed (Some parts) cut =
    ((left : List (List ℕ)) × (cut ≡ Some (parts.0, left)) × (parts.1 ≡ left ++ missed) × (length parts.0 + length left ≡ k)) ⊎ (cut ≡ None)

none_there : (k : ℕ) (missed : List (List ℕ)) (whole : Option (List (List ℕ) × List (List ℕ))) → IsPartOf k missed whole None
none_there k missed None = tt
none_there k missed (Some parts) = inr refl

add_cut : (k : ℕ) (line : List ℕ) (missed : List (List ℕ)) (whole cut : Option (List (List ℕ) × List (List ℕ))) → IsPartOf k missed whole cut → IsPartOf (k + 1) missed (add_line line whole) (add_line line cut)
add_cut k line missed None cut h = tt
add_cut k line missed (Some parts) cut (inl h) = inl (h.0, ap (add_line line) h.1, h.2, omega (arith, h.3))
add_cut k line missed (Some parts) cut (inr none) = inr (ap (add_line line) none)

part_cut : (lines missed : List (List ℕ)) → IsPartOf (length lines) missed (part_of (lines ++ missed)) (part_of lines)
part_cut [] missed = none_there 0 missed (part_of missed)
part_cut (line ∷ lines) missed = by_test (bytes_eq line (codes "end")) (part_cut lines missed)
  where
    by_test : (t : Bool) → IsPartOf (length lines) missed (part_of (lines ++ missed)) (part_of lines)
        → IsPartOf (length (line ∷ lines)) missed (cond t (Some (line ∷ [], lines ++ missed)) (add_line line (part_of (lines ++ missed)))) (cond t (Some (line ∷ [], lines)) (add_line line (part_of lines)))
    by_test true later = inl (lines, refl, refl, omega arith)
    by_test false later =
        let one : length lines + 1 ≡ length (line ∷ lines) = omega arith in
        subst (λ k. IsPartOf k missed (add_line line (part_of (lines ++ missed))) (add_line line (part_of lines))) one
        (add_cut (length lines) line missed (part_of (lines ++ missed)) (part_of lines) later)

or_bad_cut : (n : ℕ) (o : Option Instance) (r c : Coming) → IsCut n r c → IsReadOf n (or_bad_instance o r) (or_bad_instance o c)
or_bad_cut n None r c h = tt
or_bad_cut n (Some i) r c h = inl (c, refl, h)

instance_cut : (n : ℕ) (second : Bool) (r c : Coming) → IsCut n r c → IsReadOf n (instance_part second r) (instance_part second c)
instance_cut n second r c h =
    subst (λ (ls : List (List ℕ)). IsReadOf n (instance_in second (part_of ls) r) (instance_in second (part_of c.input.lines) c)) (sym h.lines)
    (by_parts (part_of (c.input.lines ++ h.missing)) (part_of c.input.lines) (part_cut c.input.lines h.missing))
  where
    by_parts : (whole cut : Option (List (List ℕ) × List (List ℕ))) → IsPartOf (length c.input.lines) h.missing whole cut → IsReadOf n (instance_in second whole r) (instance_in second cut c)
    by_parts None cut there = tt
    by_parts (Some parts) cut (inl there) =
        subst (λ (o : Option (List (List ℕ) × List (List ℕ))). IsReadOf n (instance_in second (Some parts) r) (instance_in second o c)) (sym there.1)
        (or_bad_cut n _ (record { input = record r.input { lines = parts.1 }; line = r.line + length parts.0 }) (record { input = record c.input { lines = there.0 }; line = c.line + length parts.0 })
        (record {
          missing = h.missing;
          some = h.some;
          lines = there.2;
          ends = h.ends;
          line = ap (λ k. k + length parts.0) h.line;
          last = omega (arith, there.3, h.last);
        }))
    by_parts (Some parts) cut (inr none) =
        stops_there n _ _
        (ap (λ (o : Option (List (List ℕ) × List (List ℕ))). instance_in second o c) none
        ∙ ap Err (missing_there c.input n (c.line + length c.input.lines + 1) h.ends (omega (arith, h.last))))

-- ---- the head
limits_cut : (n : ℕ) (r c : Coming) → IsCut n r c → IsReadOf n (limits_part r) (limits_part c)
limits_cut n r c h =
    then_cut n (formed gap_form r) (formed gap_form c) _ (formed_cut n gap_form r c h) (λ gap r1 c1 h1.
    then_cut n (formed budget_form r1) (formed budget_form c1) _ (formed_cut n budget_form r1 c1 h1) (λ budget r2 c2 h2.
    then_cut n (formed pool_form r2) (formed pool_form c2) _ (formed_cut n pool_form r2 c2 h2) (λ pool r3 c3 h3. inl (c3, refl, h3))))

best_cut : (n : ℕ) (r c : Coming) → IsCut n r c → IsReadOf n (best_part r) (best_part c)
best_cut n r c h =
    then_cut n (formed site_form r) (formed site_form c) _ (formed_cut n site_form r c h) (λ site r1 c1 h1. formed_cut n (cost_form site) r1 c1 h1)

outcome_cut : (n : ℕ) (r c : Coming) → IsCut n r c → IsReadOf n (outcome_part r) (outcome_part c)
outcome_cut n r c h =
    then_cut n (formed bound_form r) (formed bound_form c) _ (formed_cut n bound_form r c h) (λ bound r1 c1 h1.
    then_cut n (formed word_form r1) (formed word_form c1) _ (formed_cut n word_form r1 c1 h1) (λ word r2 c2 h2.
    then_cut n (formed open_form r2) (formed open_form c2) _ (formed_cut n open_form r2 c2 h2) (λ opened r3 c3 h3.
    then_cut n (formed leases_form r3) (formed leases_form c3) _ (formed_cut n leases_form r3 c3 h3) (λ leases r4 c4 h4. inl (c4, refl, h4)))))

after_instance_cut : (n : ℕ) (i : Instance) (r c : Coming) → IsCut n r c → IsReadOf n (lines_after i r) (lines_after i c)
after_instance_cut n i r c h =
    then_cut n (limits_part r) (limits_part c) _ (limits_cut n r c h) (λ limits r1 c1 h1.
    then_cut n (best_part r1) (best_part c1) _ (best_cut n r1 c1 h1) (λ best r2 c2 h2.
    then_cut n (outcome_part r2) (outcome_part c2) _ (outcome_cut n r2 c2 h2) (λ outcome r3 c3 h3.
    then_cut n (formed (root_form (root_of i)) r3) (formed (root_form (root_of i)) c3) _ (formed_cut n (root_form (root_of i)) r3 c3 h3) (λ root r4 c4 h4. inl (c4, refl, h4)))))

head_cut : (n : ℕ) (r c : Coming) → IsCut n r c → IsReadOf n (head_reading r) (head_reading c)
unfolding head_reading
head_cut n r c h =
    then_cut n (formed version_form r) (formed version_form c) _ (formed_cut n version_form r c h) (λ version r1 c1 h1.
    then_cut n (instance_part version r1) (instance_part version c1) _ (instance_cut n version r1 c1 h1) (λ instance r2 c2 h2. after_instance_cut n instance r2 c2 h2))

-- ---- the lines after the head
-- something comes where the answer was to end
no_end : (o : Option CheckFault) (lines : List (List ℕ)) (partial : List ℕ) (goes_on : Bool) (line : ℕ) (x y : Accepted) → 0 < length lines
    → unless_fault o (read_ok (end_of (record { input = record { lines = lines; partial = partial; goes_on = goes_on }; line = line })) (λ _. Ok y)) ≡ Ok x → ⊥
no_end o [] partial goes_on line x y some is = omega arith
no_end None (l ∷ lines) partial goes_on line x y some is = cc
no_end (Some fault) (l ∷ lines) partial goes_on line x y some is = cc

-- the fault of a line that is missing
abbrev cut_at : ℕ → Result Accepted CheckError
cut_at line = Err (Fault (fault_at FORM line))

abbrev coming_at : List (List ℕ) → List ℕ → Bool → ℕ → Coming
coming_at lines partial goes_on line = record { input = record { lines = lines; partial = partial; goes_on = goes_on }; line = line }

-- what the lines from one on say
abbrev in_lines : Head → List (List ℕ) → List ℕ → Bool → ℕ → Progress → Result Accepted CheckError
in_lines h lines partial goes_on line q = items_of h q (coming_at lines partial goes_on line) lines

items_cut : (h : Head) (p : Progress) (n line : ℕ) (lines missed all left : List (List ℕ)) (partial part : List ℕ) (goes_on : Bool) (x : Accepted) → 0 < length missed → line + length lines ≡ n
    → items_of h p (coming_at all partial goes_on line) (lines ++ missed) ≡ Ok x → items_of h p (coming_at left part false line) lines ≡ cut_at (n + 1)
items_cut h p n line [] missed all left partial part goes_on x some last is =
    let next : line + 1 ≡ n + 1 = omega (arith, last) in
    ap cut_at next
items_cut h p n line (l ∷ lines) missed all left partial part goes_on x some last is =
    by_item (item_form l) (λ q said. items_cut h q n (line + 1) lines missed (lines ++ missed) lines partial part goes_on x some (omega (arith, last)) said) is
  where
    by_mark : (m : Mark) (o : Option CheckFault) → ((q : Progress) → in_lines h (lines ++ missed) partial goes_on (line + 1) q ≡ Ok x → in_lines h lines part false (line + 1) q ≡ cut_at (n + 1))
        → and_then (unless_fault o (Ok (progress_after p m))) (in_lines h (lines ++ missed) partial goes_on (line + 1)) ≡ Ok x → and_then (unless_fault o (Ok (progress_after p m))) (in_lines h lines part false (line + 1)) ≡ cut_at (n + 1)
    by_mark m None later is = later (progress_after p m) is
    by_mark m (Some fault) later is = absurd (cc)

    by_item : (item : Option Item) → ((q : Progress) → in_lines h (lines ++ missed) partial goes_on (line + 1) q ≡ Ok x → in_lines h lines part false (line + 1) q ≡ cut_at (n + 1))
        → at_item h p (coming_at (lines ++ missed) partial goes_on (line + 1)) (in_lines h (lines ++ missed) partial goes_on (line + 1)) item ≡ Ok x → at_item h p (coming_at lines part false (line + 1)) (in_lines h lines part false (line + 1)) item ≡ cut_at (n + 1)
    by_item None later is = absurd (cc)
    by_item (Some (Node m)) later is = by_mark m (node_fault h p.squares m (line + 1)) later is
    by_item (Some End) later is =
        absurd (no_end (last_fault h p.squares p.tally (line + 1)) (lines ++ missed) partial goes_on (line + 1) x (accepted_of h p.tally) (omega (arith, some, length-append lines missed)) is)

after_head_cut : (n : ℕ) (h : Head) (r c : Coming) (x : Accepted) → IsCut n r c → after_head h r ≡ Ok x → after_head h c ≡ cut_at (n + 1)
after_head_cut n h r c x cut is =
    let parts = unless-parts (head_fault_of h) (items_of h (start_of h) r r.input.lines) x is in
    let said : items_of h (start_of h) r (c.input.lines ++ cut.missing) ≡ Ok x = ap (items_of h (start_of h) r) (sym cut.lines) ∙ parts.1 in
    ap (λ (o : Option CheckFault). unless_fault o (items_of h (start_of h) c c.input.lines)) parts.0
    ∙ by_line c.line c.input.goes_on cut.line cut.ends said
  where
    by_line : (line : ℕ) (goes_on : Bool) → line ≡ r.line → goes_on ≡ false → items_of h (start_of h) r (c.input.lines ++ cut.missing) ≡ Ok x
        → items_of h (start_of h) (coming_at c.input.lines c.input.partial goes_on line) c.input.lines ≡ cut_at (n + 1)
    by_line line goes_on same ends said =
        rw (same, ends)
        (items_cut h (start_of h) n r.line c.input.lines cut.missing r.input.lines c.input.lines r.input.partial c.input.partial r.input.goes_on x cut.some (omega (arith, cut.last, cut.line)) said)

-- ---- all
read_cut : (n : ℕ) (whole cut : Result (Head × Coming) AnswerError) (x : Accepted) → IsReadOf n whole cut → read_ok whole (λ h. after_head h.0 h.1) ≡ Ok x → read_ok cut (λ h. after_head h.0 h.1) ≡ cut_at (n + 1)
read_cut n (Err error) cut x h is = absurd (cc)
read_cut n (Ok v) cut x (inl h) is = ap (λ (r : Result (Head × Coming) AnswerError). read_ok r (λ h. after_head h.0 h.1)) h.1 ∙ after_head_cut n v.0 v.1 h.0 x h.2 is
read_cut n (Ok v) cut x (inr stops) is = ap (λ (r : Result (Head × Coming) AnswerError). read_ok r (λ h. after_head h.0 h.1)) stops

-- the text of a valid answer that is cut short
cut_text : (front rest : List ℕ) (x : Accepted) → 0 < length rest → length (front ++ rest) ≤ answer_limit → (input_of answer_limit (front ++ rest)).partial ≡ []
    → checking (front ++ rest) ≡ Ok x → checking front ≡ cut_at (count_by (λ b. b == 10) front + 1)
unfolding checking
cut_text front rest x some within none is =
    let short : length front ≤ answer_limit = omega (arith, length-append front rest, within) in
    let input = input_cut answer_limit front rest some within none in
    let cut : IsCut (count_by (λ b. b == 10) front) (coming_of (front ++ rest)) (coming_of front) =
    record {
      missing = input.missing;
      some = input.some;
      lines = input.lines;
      ends = goes_on-within answer_limit front short;
      line = refl;
      last = omega (arith, lines_count answer_limit front short);
    } in
    read_cut (count_by (λ b. b == 10) front) (head_reading (coming_of (front ++ rest))) (head_reading (coming_of front)) x (head_cut _ (coming_of (front ++ rest)) (coming_of front) cut) is

pub cut-refused : (a : Answer) → IsValid a → (front rest : List ℕ) → answer_text a ≡ front ++ rest → 0 < length rest
    → checking front ≡ Err (Fault (fault_at FORM (count_by (λ b. b == 10) front + 1)))
cut-refused a valid front rest parts some =
    let short = valid-length a valid in
    let comes = text_comes a valid.ranges valid.mark_ranges short in
    let head = read_head a.head (coming_of (answer_text a)) comes.0 (are_feedless-input_of answer_limit (answer_text a)) comes.1 in
    let none : (input_of answer_limit (answer_text a)).partial ≡ [] = sym head.1.partial ∙ comes.3 in
    cut_text front rest (accepted_of a.head (tally_of a.marks)) some (omega (arith, short, ap length parts)) (sym (ap (λ (bytes : List ℕ). (input_of answer_limit bytes).partial) parts) ∙ none) (sym (ap checking parts) ∙ valid-accepted a valid)
