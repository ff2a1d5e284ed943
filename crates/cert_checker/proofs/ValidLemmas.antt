-- A text is accepted exactly where it is that of a valid answer.
use Rattle.std.proofs.Common.{◌≡◌, ℕ, List, [], ◌∷◌, false, Option, Result, Ok, Err, refl, sym, ap, ◌∙◌, subst, zero-add}
use Rattle.siting_definitions.specs.Sites.{root_of}
use Rattle.siting_definitions.specs.Marks.{Tally, tally_of}
use Rattle.siting_definitions.specs.Answer.{Head, Answer, IsValid, EndFits, upper_cost}
use Rattle.siting_definitions.specs.AnswerText.{answer_text}
use Rattle.line_stream.specs.Coming.{Coming}
use Rattle.certificate.specs.declared.reader.AnswerError.{AnswerError}
use Rattle.certificate.specs.HeadReading.{answer_limit, coming_of, head_reading}
use Rattle.answer_model.specs.Tally.{tally_sum}
use Rattle.line_stream.proofs.InputLemmas.{are_feedless-input_of}
use Rattle.certificate.proofs.HeadLemmas.{read_head}
use Rattle.certificate.proofs.AnswerTextLemmas.{text_is, text_comes}
use Rattle.certificate.proofs.LengthLemmas.{valid-length}
use Rattle.cert_checker.specs.declared.faults.CheckFault.{CheckFault}
use Rattle.cert_checker.specs.declared.faults.CheckError.{CheckError}
use Rattle.cert_checker.specs.declared.checking.Accepted.{Accepted}
use Rattle.cert_checker.specs.Faults.{head_fault_of}
use Rattle.cert_checker.specs.Checking.{unless_fault, read_ok, accepted_of, items_of, after_head, checking, start_of}
use Rattle.cert_checker.specs.CheckReading.{after_root}
use Rattle.cert_checker.proofs.FaultLemmas.{head-none}
use Rattle.cert_checker.proofs.TreeLemmas.{reads-tree, tree-reads}
use Rattle.cert_checker.proofs.ItemLemmas.{mark_lines, unless-parts, accepted-lines, lines-accepted}

-- ---- the tally begins with nothing
nothing-joined : (t : Tally) → tally_sum (tally_of []) t ≡ t
unfolding tally_of
nothing-joined t = simp zero-add refl

-- ---- from texts to answers
-- the head of an input that is accepted, and what comes after it
record IsRead (r : Result (Head × Coming) AnswerError) (more : Head × Coming → Result Accepted CheckError) (x : Accepted) : Type 0 where
  pub head : Head
  pub rest : Coming
  pub is : r ≡ Ok (head, rest)
  pub said : more (head, rest) ≡ Ok x

read_parts : (r : Result (Head × Coming) AnswerError) (more : Head × Coming → Result Accepted CheckError) (x : Accepted) → read_ok r more ≡ Ok x → IsRead r more x
read_parts (Ok v) more x e = record { head = v.0; rest = v.1; is = refl; said = e }
read_parts (Err error) more x e = absurd (cc)

-- the valid answer of which a text is the text, and what is said of it
pub record IsAccepted (bytes : List ℕ) (x : Accepted) : Type 0 where
  pub answer : Answer
  pub valid : IsValid answer
  pub text : bytes ≡ answer_text answer
  pub same : x ≡ accepted_of answer.head (tally_of answer.marks)

from_head : (bytes : List ℕ) (x : Accepted) (h : Head) (rest : Coming) → head_reading (coming_of bytes) ≡ Ok (h, rest) → after_head h rest ≡ Ok x → IsAccepted bytes x
from_head bytes x h rest is said =
    let parts = unless-parts (head_fault_of h) (after_root h rest) x said in
    let items = accepted-lines h (root_of h.instance ∷ []) (tally_of []) rest rest.input.lines x parts.1 in
    let head = read_head h (coming_of bytes) rest (are_feedless-input_of answer_limit bytes) is in
    let counted = nothing-joined (tally_of items.marks) in
    record {
      answer = record { head = h; marks = items.marks };
      valid = record {
        ranges = head.0;
        mark_ranges = items.ranges;
        head = (head-none h).0 parts.0;
        tree = reads-tree h.instance h.gap (upper_cost h.best) (root_of h.instance) items.marks items.reads;
        end_fits = subst (EndFits h) counted items.end_fits;
      };
      text = text_is bytes h items.marks rest is items.lines_are items.no_partial items.stops;
      same = items.same ∙ ap (accepted_of h) counted;
    }

-- a text that is accepted is that of a valid answer
pub accepted-valid : (bytes : List ℕ) (x : Accepted) → checking bytes ≡ Ok x → (a : Answer) × IsValid a × (bytes ≡ answer_text a) × (x ≡ accepted_of a.head (tally_of a.marks))
unfolding checking
accepted-valid bytes x e =
    let read = read_parts (head_reading (coming_of bytes)) (λ h. after_head h.0 h.1) x e in
    let is = from_head bytes x read.head read.rest read.is read.said in
    (is.answer, is.valid, is.text, is.same)

-- ---- from answers to texts
after_head-valid : (a : Answer) (rest : Coming) → IsValid a → rest.input.lines ≡ mark_lines a.marks → rest.input.partial ≡ [] → rest.input.goes_on ≡ false → after_head a.head rest ≡ Ok (accepted_of a.head (tally_of a.marks))
after_head-valid a rest valid lines partial stops =
    let h = a.head in
    let counted = nothing-joined (tally_of a.marks) in
    let reads = tree-reads h.instance h.gap (upper_cost h.best) (root_of h.instance) a.marks valid.tree.0 valid.tree.1 in
    let fits = subst (EndFits h) (sym counted) valid.end_fits in
    ap (λ (o : Option CheckFault). unless_fault o (after_root h rest)) ((head-none h).1 valid.head)
    ∙ (ap (λ ls. items_of h (start_of h) rest ls) lines
    ∙ (lines-accepted h (root_of h.instance ∷ []) (tally_of []) rest a.marks reads valid.mark_ranges fits partial stops
    ∙ ap (λ (t : Tally). Ok (accepted_of h t)) counted))

-- the text of a valid answer is accepted
pub valid-accepted : (a : Answer) → IsValid a → checking (answer_text a) ≡ Ok (accepted_of a.head (tally_of a.marks))
unfolding checking
valid-accepted a valid =
    let comes = text_comes a valid.ranges valid.mark_ranges (valid-length a valid) in
    ap (λ (r : Result (Head × Coming) AnswerError). read_ok r (λ h. after_head h.0 h.1)) comes.1 ∙ after_head-valid a comes.0 valid comes.2 comes.3 comes.4
