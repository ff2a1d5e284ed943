-- The lines after the head, read one after another.
use Rattle.std.proofs.Common.{◌≡◌, ℕ, zero, suc, ◌+◌, ◌-◌, ◌^◌, ◌<◌, ◌≤◌, List, [], ◌∷◌, ◌++◌, length, Option, None, Some, Result, Ok, Err, refl, sym, ap, ◌∙◌, subst, arith}
use Rattle.std.specs.Prelude.{◌==◌, cond, Bool, true, false}
use Rattle.std.specs.Result.{IsErrAnd}
use Rattle.std.proofs.lemmas.List.Sums.{count_by-le-length}
use Rattle.siting_definitions.specs.declared.Mark.{Mark}
use Rattle.siting_definitions.specs.Square.{Square}
use Rattle.siting_definitions.specs.Sites.{root_of}
use Rattle.siting_definitions.specs.Marks.{Tally, is_floor, is_leaf, is_open, is_split, tally_of}
use Rattle.siting_definitions.specs.Answer.{Head}
use Rattle.instance_text.specs.Reading.{and_then}
use Rattle.line_stream.specs.Input.{Input, input_of, onto_lines}
use Rattle.line_stream.specs.Coming.{Coming, first_line}
use Rattle.line_stream.specs.Stream.{Stream, coming_in}
use Rattle.certificate.specs.declared.reader.AnswerError.{AnswerError}
use Rattle.certificate.specs.declared.reader.Item.{Item}
use Rattle.certificate.specs.declared.reader.Item.TheVariants.{Node, End}
use Rattle.certificate.specs.Forms.{item_form}
use Rattle.certificate.specs.HeadReading.{answer_limit, in_answer, or_form, formed}
use Rattle.certificate.specs.AnswerReading.{Read}
use Rattle.answer_model.specs.Tally.{tally_sum}
use Rattle.cert_checker.specs.declared.faults.CheckFault.{CheckFault}
use Rattle.cert_checker.specs.declared.faults.CheckError.{CheckError}
use Rattle.cert_checker.specs.declared.faults.CheckError.TheVariants.{Fault}
use Rattle.cert_checker.specs.declared.checking.Accepted.{Accepted}
use Rattle.cert_checker.specs.Checking.{Progress, error_of, unless_fault, read_ok, at_item, items_of, last_fault, node_fault, progress_after, take_mark}
use Rattle.cert_checker.specs.Walking.{squares_after}
use Rattle.cert_checker.specs.CheckReading.{after_root, at_last, IsPast, IsCheckStopped, MarksRead}
use Rattle.cert_checker.proofs.ReadLemmas.{past_nothing, past_as, past_then, past_stopped, past_fault, part_read, part_error}

-- ---- one line
-- what a line that was read so was, and what comes after it
pub record IsNext {T : Type 0} (form : List ℕ → Option T) (r : Coming) (v : T) (after : Coming) : Type 0 where
  pub line : List ℕ
  pub lines : List (List ℕ)
  pub here : r.input.lines ≡ line ∷ lines
  pub value : form line ≡ Some v
  pub rest : after ≡ record { input = record r.input { lines = lines }; line = r.line + 1 }

or_form-is : {T : Type 0} (o : Option T) (r : Coming) (v : T) (after : Coming) → or_form o r ≡ Ok (v, after) → (o ≡ Some v) × (after ≡ r)
or_form-is None r v after e = absurd (cc)
or_form-is {T = T} (Some w) r v after e =
    let pair : (w, r) ≡ (v, after) = cc in
    (ap (λ (p : T × Coming). Some p.0) pair, sym (ap (λ (p : T × Coming). p.1) pair))

next_is : {T : Type 0} (form : List ℕ → Option T) (r : Coming) (v : T) (after : Coming) (lines : List (List ℕ)) → r.input.lines ≡ lines → and_then (in_answer (first_line lines r)) (λ n. or_form (form n.0) n.1) ≡ Ok (v, after) → IsNext form r v after
next_is form r v after [] here e = absurd (cc)
next_is form r v after (line ∷ lines) here e =
    let k = or_form-is (form line) (record { input = record r.input { lines = lines }; line = r.line + 1 }) v after e in
    record { line = line; lines = lines; here = here; value = k.0; rest = k.1 }

-- what was read was the next line
pub formed-next : {T : Type 0} (form : List ℕ → Option T) (r : Coming) (v : T) (after : Coming) → formed form r ≡ Ok (v, after) → IsNext form r v after
formed-next form r v after e = next_is form r v after r.input.lines refl e

-- ---- the lines of an input
pub onto_lines-length : (b : ℕ) (lines : List (List ℕ)) (i : Input) → i.lines ≡ lines → length (onto_lines b lines i).lines ≡ length i.lines
onto_lines-length b [] i e = refl
onto_lines-length b (line ∷ lines) i e = sym (ap length e)

from_length : (b : ℕ) (t : Bool) (i : Input) → length (cond t (record i { lines = [] ∷ i.lines }) (onto_lines b i.lines i)).lines ≤ suc (length i.lines)
from_length b true i = omega arith
from_length b false i = omega (arith, onto_lines-length b i.lines i refl)

-- bytes have no more lines than bytes
pub few_lines : (limit : ℕ) (bytes : List ℕ) → length (input_of limit bytes).lines ≤ limit
unfolding input_of
few_lines limit [] = omega arith
few_lines zero (b ∷ bytes) = omega arith
few_lines (suc limit) (b ∷ bytes) = omega (arith, from_length b (b == 10) (input_of limit bytes), few_lines limit bytes)

-- ---- the lines after the head
-- how far a check has come
abbrev pub progress : List Square → Tally → Progress
progress squares t = record { squares = squares; tally = t }

-- a fault, or what there is to say where there is none
pub then-unless : {T : Type 0} (fault : Option CheckFault) (p : Progress) (more : Progress → Result T CheckError) → and_then (unless_fault fault (Ok p)) more ≡ unless_fault fault (more p)
then-unless None p more = refl
then-unless (Some fault) p more = refl

-- what a node line says is its fault, or what there is to say after it
pub take_mark-then : (h : Head) (p : Progress) (line : ℕ) (m : Mark) (more : Progress → Result Accepted CheckError) → and_then (take_mark h line m p) more ≡ unless_fault (node_fault h p.squares m line) (more (progress_after p m))
take_mark-then h p line m more = then-unless (node_fault h p.squares m line) (progress_after p m) more

abbrev pub items_at : Head → List Square → Tally → Coming → Result Accepted CheckError
items_at h squares t r = items_of h (progress squares t) r r.input.lines

-- what there is to say where this item comes, with what comes after it
abbrev pub item_at : Head → List Square → Tally → Item → Coming → Result Accepted CheckError
item_at h squares t item r = at_item h (progress squares t) r (λ next. items_of h next r r.input.lines) (Some item)

-- the lines after the head say what their first item says, with what comes after it
pub items_begin : (h : Head) (squares : List Square) (t : Tally) (r : Coming)
    → items_at h squares t r ≡ read_ok (formed item_form r) (λ n. item_at h squares t n.0 n.1)
items_begin h squares t r = by_lines r.input.lines
  where
    by_lines : (lines : List (List ℕ)) → items_of h (progress squares t) r lines
        ≡ read_ok (and_then (in_answer (first_line lines r)) (λ n. or_form (item_form n.0) n.1)) (λ n. item_at h squares t n.0 n.1)
    by_lines [] = refl
    by_lines (line ∷ lines) = by_form (item_form line)
      where
        after : Coming
        after = record { input = record r.input { lines = lines }; line = r.line + 1 }

        by_form : (o : Option Item) → at_item h (progress squares t) after (λ next. items_of h next after lines) o
            ≡ read_ok (or_form o after) (λ n. item_at h squares t n.0 n.1)
        by_form None = refl
        by_form (Some item) = refl

-- a node line with a fault
pub node_fails : (h : Head) (squares : List Square) (t : Tally) (m : Mark) (fault : CheckFault) (r : Coming)
    → Some fault ≡ node_fault h squares m r.line → item_at h squares t (Node m) r ≡ Err (Fault fault)
node_fails h squares t m fault r some =
    let more : Progress → Result Accepted CheckError = λ next. items_of h next r r.input.lines in
    take_mark-then h (progress squares t) r.line m more
    ∙ ap (λ (o : Option CheckFault). unless_fault o (more (progress_after (progress squares t) m))) (sym some)

-- a node line without a fault
pub node_passes : (h : Head) (squares squares' : List Square) (t t' : Tally) (m : Mark) (r : Coming) → None ≡ node_fault h squares m r.line
    → squares' ≡ squares_after squares (is_split m) → t' ≡ tally_sum t (tally_of (m ∷ [])) → item_at h squares t (Node m) r ≡ items_at h squares' t' r
node_passes h squares squares' t t' m r none es et =
    let more : Progress → Result Accepted CheckError = λ next. items_of h next r r.input.lines in
    let next = more (progress_after (progress squares t) m) in
    let moved : next ≡ items_at h squares' t' r = rw (es, et) refl in
    take_mark-then h (progress squares t) r.line m more ∙ (ap (λ (o : Option CheckFault). unless_fault o next) (sym none) ∙ moved)

-- the line "end" with a fault
pub end_fails : (h : Head) (squares : List Square) (t : Tally) (fault : CheckFault) (r : Coming)
    → Some fault ≡ last_fault h squares t r.line → item_at h squares t End r ≡ Err (Fault fault)
end_fails h squares t fault r some = ap (λ (o : Option CheckFault). unless_fault o (at_last h t r)) (sym some)

-- the line "end" without a fault
pub end_passes : (h : Head) (squares : List Square) (t : Tally) (r : Coming) → None ≡ last_fault h squares t r.line → item_at h squares t End r ≡ at_last h t r
end_passes h squares t r none = ap (λ (o : Option CheckFault). unless_fault o (at_last h t r)) (sym none)

-- ---- the loop
-- The check has come past the lines before, and no more lines come than there are turns left.
pub record IsHalfway (h : Head) (start now : Stream) (squares : List Square) (t : Tally) (turns : ℕ) : Type 0 where
  pub past : IsPast (after_root h) (items_at h squares t) start now
  pub few : (more : Bool) (rest : List ℕ) → length (coming_in more answer_limit now.lines rest).input.lines + turns ≤ 2 ^ 30

-- before the first line
pub halfway_begins : (h : Head) (start : Stream) (squares : List Square) (t : Tally) → squares ≡ root_of h.instance ∷ [] → t ≡ tally_of [] → IsHalfway h start start squares t 0
halfway_begins h start squares t es et = record {
  past = past_as _ _ _ start start (past_nothing (after_root h) start) (λ more rest. rw (es, et) refl);
  few = λ more rest. omega (arith, few_lines (answer_limit - start.lines.read) (start.lines.ahead ++ rest));
}

-- one line fewer comes, and one more turn was taken
shorter : {T : Type 0} (form : List ℕ → Option T) (r : Coming) (v : T) (after : Coming) (turns : ℕ) → IsNext form r v after → length r.input.lines + turns ≤ 2 ^ 30 → length after.input.lines + (turns + 1) ≤ 2 ^ 30
shorter form r v after turns n few = omega (arith, few, ap length n.here, ap (λ (p : Coming). length p.input.lines) n.rest)

-- an error that was answered
marks_stop : (h : Head) (start after : Stream) (e : CheckError) (result : Result Tally CheckError) → IsErrAnd result (λ x. x ≡ e) → IsCheckStopped (after_root h) start after e → MarksRead h start after result
marks_stop h start after e (Ok t) is stopped = absurd is
marks_stop h start after e (Err x) is stopped = subst (IsCheckStopped (after_root h) start after) (sym is) stopped

-- an item was read
item_read : (h : Head) (start now after : Stream) (squares : List Square) (t : Tally) (turns : ℕ) (item : Item) → IsHalfway h start now squares t turns
    → Read (formed item_form) now after (Ok item) → IsPast (after_root h) (item_at h squares t item) start after
item_read h start now after squares t turns item half read =
    past_then (after_root h) (items_at h squares t) start now after half.past (item_at h squares t item)
    (part_read false (items_at h squares t) (formed item_form) (item_at h squares t) (items_begin h squares t) now after item read)

-- a line is read at each turn
pub fewer : (now after : Stream) (turns : ℕ) (item : Item) → ((more : Bool) (rest : List ℕ) → length (coming_in more answer_limit now.lines rest).input.lines + turns ≤ 2 ^ 30)
    → Read (formed item_form) now after (Ok item) → (more : Bool) (rest : List ℕ) → length (coming_in more answer_limit after.lines rest).input.lines + (turns + 1) ≤ 2 ^ 30
fewer now after turns item few read more rest =
    shorter item_form _ item _ turns (formed-next item_form _ item _ (read.reads more rest)) (few more (read.got ++ rest))

-- a node line without a fault
pub halfway_more : (h : Head) (start now after : Stream) (squares : List Square) (t : Tally) (turns : ℕ) (m : Mark) → IsHalfway h start now squares t turns
    → Read (formed item_form) now after (Ok (Node m)) → (line : ℕ) → line ≡ after.lines.line → None ≡ node_fault h squares m line
    → (squares' : List Square) (t' : Tally) → squares' ≡ squares_after squares (is_split m) → t' ≡ tally_sum t (tally_of (m ∷ [])) → IsHalfway h start after squares' t' (turns + 1)
halfway_more h start now after squares t turns m half read line here none squares' t' es et = record {
  past = past_as _ _ _ start after (item_read h start now after squares t turns (Node m) half read)
      (λ more rest. node_passes h squares squares' t t' m (coming_in more answer_limit after.lines rest) (none ∙ ap (node_fault h squares m) here) es et);
  few = fewer now after turns (Node m) half.few read;
}

-- a node line with a fault
pub halfway_fault : (h : Head) (start now after : Stream) (squares : List Square) (t : Tally) (turns : ℕ) (m : Mark) → IsHalfway h start now squares t turns
    → Read (formed item_form) now after (Ok (Node m)) → (line : ℕ) → line ≡ after.lines.line → (fault : CheckFault) → Some fault ≡ node_fault h squares m line
    → (result : Result Tally CheckError) → IsErrAnd result (λ x. x ≡ Fault fault) → MarksRead h start after result
halfway_fault h start now after squares t turns m half read line here fault some result is =
    marks_stop h start after (Fault fault) result is
    (past_fault _ _ start after (item_read h start now after squares t turns (Node m) half read) fault
    (λ more rest. node_fails h squares t m fault (coming_in more answer_limit after.lines rest) (some ∙ ap (node_fault h squares m) here)))

-- the line "end" with a fault
pub halfway_last_fault : (h : Head) (start now after : Stream) (squares : List Square) (t : Tally) (turns : ℕ) → IsHalfway h start now squares t turns
    → Read (formed item_form) now after (Ok End) → (line : ℕ) → line ≡ after.lines.line → (fault : CheckFault) → Some fault ≡ last_fault h squares t line
    → (result : Result Tally CheckError) → IsErrAnd result (λ x. x ≡ Fault fault) → MarksRead h start after result
halfway_last_fault h start now after squares t turns half read line here fault some result is =
    marks_stop h start after (Fault fault) result is
    (past_fault _ _ start after (item_read h start now after squares t turns End half read) fault
    (λ more rest. end_fails h squares t fault (coming_in more answer_limit after.lines rest) (some ∙ ap (last_fault h squares t) here)))

-- the line "end" without a fault
pub halfway_ends : (h : Head) (start now after : Stream) (squares : List Square) (t : Tally) (turns : ℕ) → IsHalfway h start now squares t turns
    → Read (formed item_form) now after (Ok End) → (line : ℕ) → line ≡ after.lines.line → None ≡ last_fault h squares t line → IsPast (after_root h) (at_last h t) start after
halfway_ends h start now after squares t turns half read line here none =
    past_as _ _ _ start after (item_read h start now after squares t turns End half read)
    (λ more rest. end_passes h squares t (coming_in more answer_limit after.lines rest) (none ∙ ap (last_fault h squares t) here))

-- a line that couldn't be read
pub halfway_fails : (h : Head) (start now after : Stream) (squares : List Square) (t : Tally) (turns : ℕ) (e : AnswerError) → IsHalfway h start now squares t turns
    → Read (formed item_form) now after (Err e) → (result : Result Tally CheckError) → IsErrAnd result (λ x. x ≡ error_of e) → MarksRead h start after result
halfway_fails h start now after squares t turns e half read result is =
    marks_stop h start after (error_of e) result is
    (past_stopped (after_root h) (items_at h squares t) start now after half.past (error_of e)
    (part_error (items_at h squares t) (formed item_form) (λ n. item_at h squares t n.0 n.1) (items_begin h squares t) now after e read.got read.consumes read.needed read.reads read.counts))

-- no more turns are left, and no more lines
pub halfway_over : (h : Head) (start now : Stream) (squares : List Square) (t : Tally) (turns : ℕ) → IsHalfway h start now squares t turns → 2 ^ 30 < turns → ⊥
halfway_over h start now squares t turns half over = omega (arith, over, half.few false [])

-- ---- counts
-- each count is at most n
pub record IsWithin (t : Tally) (n : ℕ) : Type 0 where
  pub nodes : t.nodes ≤ n
  pub splits : t.splits ≤ n
  pub leaves : t.leaves ≤ n
  pub open_leaves : t.open_leaves ≤ n
  pub floor_leaves : t.floor_leaves ≤ n

-- nothing counts nothing
pub none-within : (t : Tally) → t ≡ tally_of [] → IsWithin t 0
unfolding tally_of
none-within t e = rw e (record { nodes = omega arith; splits = omega arith; leaves = omega arith; open_leaves = omega arith; floor_leaves = omega arith })

-- one mark counts one at most
pub more-within : (t t' : Tally) (m : Mark) (n : ℕ) → t' ≡ tally_sum t (tally_of (m ∷ [])) → IsWithin t n → IsWithin t' (n + 1)
unfolding tally_of
more-within t t' m n e h =
    rw e
    (record {
      nodes = omega (arith, h.nodes);
      splits = omega (arith, h.splits, count_by-le-length is_split (m ∷ []));
      leaves = omega (arith, h.leaves, count_by-le-length is_leaf (m ∷ []));
      open_leaves = omega (arith, h.open_leaves, count_by-le-length is_open (m ∷ []));
      floor_leaves = omega (arith, h.floor_leaves, count_by-le-length is_floor (m ∷ []));
    })
