-- A check of bytes within the limit never finds them too long.
use Rattle.std.proofs.Common.{◌≡◌, ℕ, ◌+◌, ◌^◌, ◌≤◌, Bool, true, false, List, [], ◌∷◌, length, Option, None, Some, Result, Ok, Err, subst}
use Rattle.std.specs.Prelude.{⊤}
use Rattle.siting_definitions.specs.Instance.{Instance}
use Rattle.siting_definitions.specs.Sites.{root_of}
use Rattle.siting_definitions.specs.Answer.{Head}
use Rattle.instance_text.specs.Reading.{and_then}
use Rattle.line_stream.specs.Input.{Input}
use Rattle.line_stream.specs.Coming.{Coming, first_line}
use Rattle.line_stream.proofs.InputLemmas.{goes_on-within}
use Rattle.certificate.specs.declared.reader.AnswerError.{AnswerError}
use Rattle.certificate.specs.declared.reader.AnswerError.TheVariants.{Form, Instance as BadInstance, TooLong, ReadFault, NoMemory}
use Rattle.certificate.specs.declared.reader.Item.{Item}
use Rattle.certificate.specs.declared.reader.Item.TheVariants.{Node, End}
use Rattle.certificate.specs.Forms.{version_form, gap_form, budget_form, pool_form, site_form, cost_form, bound_form, word_form, open_form, leases_form, root_form, item_form}
use Rattle.certificate.specs.HeadReading.{answer_limit, coming_of, missing, in_answer, or_form, formed, part_of, instance_in, instance_part, or_bad_instance, limits_part, best_part, outcome_part, lines_after, head_reading, end_of}
use Rattle.cert_checker.specs.declared.faults.CheckFault.{CheckFault}
use Rattle.cert_checker.specs.declared.faults.CheckError.{CheckError}
use Rattle.cert_checker.specs.declared.faults.CheckError.TheVariants.{Fault, ReadFault as CheckReadFault, TooLong as CheckTooLong, NoMemory as CheckNoMemory}
use Rattle.cert_checker.specs.declared.checking.Accepted.{Accepted}
use Rattle.cert_checker.specs.Faults.{head_fault_of}
use Rattle.cert_checker.specs.Checking.{Progress, error_of, unless_fault, read_ok, accepted_of, node_fault, last_fault, at_item, items_of, after_head, checking, start_of, progress_after}

-- ---- the head
-- what is to come ends
abbrev Ends : Coming → Type 0
Ends r = r.input.goes_on ≡ false

-- the error isn't that the input is too long
abbrev IsOther : AnswerError → Type 0
IsOther (Form line) = ⊤
IsOther BadInstance = ⊤
IsOther TooLong = ⊥
IsOther ReadFault = ⊤
IsOther NoMemory = ⊤

-- what is left to come ends, or there is such an error
abbrev LeavesEnd : {T : Type 0} → Result (T × Coming) AnswerError → Type 0
LeavesEnd (Ok v) = Ends v.1
LeavesEnd (Err error) = IsOther error

missing_other : (i : Input) (line : ℕ) → i.goes_on ≡ false → IsOther (missing i line)
missing_other i line ends = rw ends tt

then_ends : {T U : Type 0} (r : Result (T × Coming) AnswerError) (more : T × Coming → Result (U × Coming) AnswerError) → LeavesEnd r → ((v : T × Coming) → Ends v.1 → LeavesEnd (more v)) → LeavesEnd (and_then r more)
then_ends (Ok v) more h later = later v h
then_ends (Err error) more h later = h

or_form_ends : {T : Type 0} (o : Option T) (r : Coming) → Ends r → LeavesEnd (or_form o r)
or_form_ends None r ends = tt
or_form_ends (Some v) r ends = ends

-- a line of a form
formed_ends : {T : Type 0} (form : List ℕ → Option T) (r : Coming) → Ends r → LeavesEnd (formed form r)
formed_ends {T = T} form r ends = by_lines r.input.lines
  where
    by_lines : (lines : List (List ℕ)) → LeavesEnd {T = T} (and_then (in_answer (first_line lines r)) (λ n. or_form (form n.0) n.1))
    by_lines [] = missing_other r.input (r.line + 1) ends
    by_lines (line ∷ lines) = or_form_ends (form line) (record { input = record r.input { lines = lines }; line = r.line + 1 }) ends

instance_ends : (second : Bool) (r : Coming) → Ends r → LeavesEnd (instance_part second r)
instance_ends second r ends = by_parts (part_of r.input.lines)
  where
    by_instance : (o : Option Instance) (after : Coming) → Ends after → LeavesEnd (or_bad_instance o after)
    by_instance None after h = tt
    by_instance (Some i) after h = h

    by_parts : (parts : Option (List (List ℕ) × List (List ℕ))) → LeavesEnd (instance_in second parts r)
    by_parts None = missing_other r.input (r.line + length r.input.lines + 1) ends
    by_parts (Some parts) = by_instance _ _ ends

limits_end : (r : Coming) → Ends r → LeavesEnd (limits_part r)
limits_end r ends =
    then_ends (formed gap_form r) _ (formed_ends gap_form r ends) (λ gap gap_ends.
    then_ends (formed budget_form gap.1) _ (formed_ends budget_form gap.1 gap_ends) (λ budget budget_ends.
    then_ends (formed pool_form budget.1) _ (formed_ends pool_form budget.1 budget_ends) (λ pool pool_ends. pool_ends)))

best_ends : (r : Coming) → Ends r → LeavesEnd (best_part r)
best_ends r ends =
    then_ends (formed site_form r) _ (formed_ends site_form r ends) (λ site site_ends. formed_ends (cost_form site.0) site.1 site_ends)

outcome_ends : (r : Coming) → Ends r → LeavesEnd (outcome_part r)
outcome_ends r ends =
    then_ends (formed bound_form r) _ (formed_ends bound_form r ends) (λ bound bound_ends.
    then_ends (formed word_form bound.1) _ (formed_ends word_form bound.1 bound_ends) (λ word word_ends.
    then_ends (formed open_form word.1) _ (formed_ends open_form word.1 word_ends) (λ opened opened_ends.
    then_ends (formed leases_form opened.1) _ (formed_ends leases_form opened.1 opened_ends) (λ leases leases_ends. leases_ends))))

lines_after_end : (i : Instance) (r : Coming) → Ends r → LeavesEnd (lines_after i r)
lines_after_end i r ends =
    then_ends (limits_part r) _ (limits_end r ends) (λ limits limits_ends.
    then_ends (best_part limits.1) _ (best_ends limits.1 limits_ends) (λ best best_ends_.
    then_ends (outcome_part best.1) _ (outcome_ends best.1 best_ends_) (λ outcome outcome_ends_.
    then_ends (formed (root_form (root_of i)) outcome.1) _ (formed_ends (root_form (root_of i)) outcome.1 outcome_ends_) (λ root root_ends. root_ends))))

head_ends : (r : Coming) → Ends r → LeavesEnd (head_reading r)
unfolding head_reading
head_ends r ends =
    then_ends (formed version_form r) _ (formed_ends version_form r ends) (λ version version_ends.
    then_ends (instance_part version.0 version.1) _ (instance_ends version.0 version.1 version_ends) (λ instance instance_ends_. lines_after_end instance.0 instance.1 instance_ends_))

-- ---- the lines after the head
-- the bytes aren't found too long
abbrev IsNotLong : Result Accepted CheckError → Type 0
IsNotLong (Ok accepted) = ⊤
IsNotLong (Err (Fault fault)) = ⊤
IsNotLong (Err CheckReadFault) = ⊤
IsNotLong (Err CheckTooLong) = ⊥
IsNotLong (Err CheckNoMemory) = ⊤

other_not_long : (e : AnswerError) → IsOther e → IsNotLong (Err (error_of e))
other_not_long (Form line) h = tt
other_not_long BadInstance h = tt
other_not_long TooLong h = h
other_not_long ReadFault h = tt
other_not_long NoMemory h = tt

fault_first : (o : Option CheckFault) (r : Result Accepted CheckError) → IsNotLong r → IsNotLong (unless_fault o r)
fault_first None r h = h
fault_first (Some fault) r h = tt

at_input_end : (x : Accepted) (lines : List (List ℕ)) (partial : List ℕ) (goes_on : Bool) (line : ℕ) → goes_on ≡ false → IsNotLong (read_ok (end_of (record { input = record { lines = lines; partial = partial; goes_on = goes_on }; line = line })) (λ _. Ok x))
at_input_end x [] [] true line e = absurd (cc)
at_input_end x [] [] false line e = tt
at_input_end x [] (b ∷ bs) goes_on line e = tt
at_input_end x (l ∷ lines) partial goes_on line e = tt

mark_not_long : (o : Option CheckFault) (q : Progress) (later : Progress → Result Accepted CheckError) → IsNotLong (later q) → IsNotLong (and_then (unless_fault o (Ok q)) later)
mark_not_long None q later h = h
mark_not_long (Some fault) q later h = tt

item_not_long : (h : Head) (p : Progress) (r : Coming) (later : Progress → Result Accepted CheckError) (item : Option Item) → Ends r → ((q : Progress) → IsNotLong (later q)) → IsNotLong (at_item h p r later item)
item_not_long h p r later None ends rest = tt
item_not_long h p r later (Some (Node m)) ends rest = mark_not_long (node_fault h p.squares m r.line) (progress_after p m) later (rest (progress_after p m))
item_not_long h p r later (Some End) ends rest =
    fault_first (last_fault h p.squares p.tally r.line) (read_ok (end_of r) (λ _. Ok (accepted_of h p.tally)))
    (at_input_end (accepted_of h p.tally) r.input.lines r.input.partial r.input.goes_on r.line ends)

items_not_long : (h : Head) (p : Progress) (r : Coming) (lines : List (List ℕ)) → Ends r → IsNotLong (items_of h p r lines)
items_not_long h p r [] ends = other_not_long (missing r.input (r.line + 1)) (missing_other r.input (r.line + 1) ends)
items_not_long h p r (line ∷ lines) ends =
    let after : Coming = record { input = record r.input { lines = lines }; line = r.line + 1 } in
    item_not_long h p after (λ next. items_of h next after lines) (item_form line) ends (λ q. items_not_long h q after lines ends)

-- ---- all
after_head_not_long : (r : Result (Head × Coming) AnswerError) → LeavesEnd r → IsNotLong (read_ok r (λ h. after_head h.0 h.1))
after_head_not_long (Ok v) ends =
    fault_first (head_fault_of v.0) (items_of v.0 (start_of v.0) v.1 v.1.input.lines) (items_not_long v.0 (start_of v.0) v.1 v.1.input.lines ends)
after_head_not_long (Err error) other = other_not_long error other

-- bytes within the limit aren't found too long
pub checking-not_long : (bytes : List ℕ) → length bytes ≤ 2 ^ 30 → checking bytes ≡ Err CheckTooLong → ⊥
unfolding checking
checking-not_long bytes within long =
    subst IsNotLong long
    (after_head_not_long (head_reading (coming_of bytes)) (head_ends (coming_of bytes) (goes_on-within answer_limit bytes within)))
