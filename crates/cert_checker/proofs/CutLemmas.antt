-- A check of node lines that are cut in two: the first part, and then the second from where the first leaves the check.
use Rattle.std.proofs.Common.{◌≡◌, ℕ, ◌+◌, List, [], ◌∷◌, ◌++◌, map, length, Option, Result, Ok, Err, refl, sym, ap, ◌∙◌, add-zero, arith}
use Rattle.siting_definitions.specs.declared.Mark.{Mark}
use Rattle.siting_definitions.specs.Marks.{tally_of}
use Rattle.siting_definitions.specs.Answer.{Head}
use Rattle.instance_text.specs.Reading.{and_then}
use Rattle.line_stream.specs.Coming.{Coming}
use Rattle.certificate.specs.declared.reader.Item.{Item}
use Rattle.certificate.specs.Forms.{item_form}
use Rattle.answer_model.specs.Tally.{tally_sum}
use Rattle.cert_checker.specs.declared.faults.CheckError.{CheckError}
use Rattle.cert_checker.specs.declared.checking.Accepted.{Accepted}
use Rattle.cert_checker.specs.Checking.{Progress, at_item, items_of, node_fault, node_item, progress_after, take_mark, take_marks}
use Rattle.cert_checker.proofs.StepLemmas.{then-unless}
use Rattle.cert_checker.proofs.ItemLemmas.{joined-more, joined-nothing, unless-parts}

-- ---- one step after another
then-then : {T U V E : Type 0} (r : Result T E) (f : T → Result V E) (g : T → Result U E) (k : U → Result V E) → ((q : T) → f q ≡ and_then (g q) k) → and_then r f ≡ and_then (and_then r g) k
then-then (Ok q) f g k each = each q
then-then (Err e) f g k each = refl

then-same : {T U E : Type 0} (r : Result T E) (f g : T → Result U E) → ((q : T) → f q ≡ g q) → and_then r f ≡ and_then r g
then-same (Ok q) f g each = each q
then-same (Err e) f g each = refl

-- ---- marks
-- node lines that are cut in two
pub take_marks-append : (h : Head) (line : ℕ) (ms ns : List Mark) (p : Progress) → take_marks h line (ms ++ ns) p ≡ and_then (take_marks h line ms p) (take_marks h (line + length ms) ns)
take_marks-append h line [] ns p = ap (λ k. take_marks h k ns p) (sym (add-zero line))
take_marks-append h line (m ∷ ms) ns p =
    let next : line + 1 + length ms ≡ line + length (m ∷ ms) = omega arith in
    then-then (take_mark h line m p) (take_marks h (line + 1) (ms ++ ns)) (take_marks h (line + 1) ms) (take_marks h (line + length (m ∷ ms)) ns)
    (λ q. take_marks-append h (line + 1) ms ns q ∙ ap (λ k. and_then (take_marks h (line + 1) ms q) (take_marks h k ns)) next)

-- where there is no fault, the tally is that of the marks
pub take_marks-tally : (h : Head) (line : ℕ) (ms : List Mark) (p q : Progress) → take_marks h line ms p ≡ Ok q → q.tally ≡ tally_sum p.tally (tally_of ms)
take_marks-tally h line [] p q e =
    let same : p ≡ q = cc in
    sym (ap (λ (k : Progress). k.tally) same) ∙ sym (joined-nothing p.tally)
take_marks-tally h line (m ∷ ms) p q e =
    let more = take_marks h (line + 1) ms in
    let fault = node_fault h p.squares m line in
    let parts = unless-parts fault (more (progress_after p m)) q (sym (then-unless fault (progress_after p m) more) ∙ e) in
    take_marks-tally h (line + 1) ms (progress_after p m) q parts.1 ∙ joined-more p.tally m ms

-- ---- lines
-- the lines of an input are those that are told, and not those that it has
from_lines : (h : Head) (p : Progress) (r : Coming) (lines rest : List (List ℕ)) → items_of h p (record { input = record r.input { lines = lines }; line = r.line }) rest ≡ items_of h p r rest
from_lines h p r lines [] = refl
from_lines h p r lines (line ∷ rest) = refl

abbrev rest_of : Head → Coming → ℕ → List (List ℕ) → Progress → Result Accepted CheckError
rest_of h r line rest q = items_of h q (record r { line = line }) rest

-- where node lines come first, the rest begins where they leave the check
pub items_of-cut : (h : Head) (ms : List Mark) (p : Progress) (r : Coming) (front rest : List (List ℕ)) → map item_form front ≡ map node_item ms → items_of h p r (front ++ rest) ≡ and_then (take_marks h (r.line + 1) ms p) (λ q. items_of h q (record r { line = r.line + length ms }) rest)
items_of-cut h [] p r [] rest e = ap (λ n. rest_of h r n rest p) (sym (add-zero r.line))
items_of-cut h [] p r (f ∷ front) rest e = absurd (cc)
items_of-cut h (m ∷ ms) p r [] rest e = absurd (cc)
items_of-cut h (m ∷ ms) p r (f ∷ front) rest e =
    let here : item_form f ≡ node_item m = cc in
    let later : map item_form front ≡ map node_item ms = cc in
    let past : Coming = record { input = record r.input { lines = front ++ rest }; line = r.line + 1 } in
    let more : Progress → Result Accepted CheckError = λ next. items_of h next past (front ++ rest) in
    let next : r.line + 1 + length ms ≡ r.line + length (m ∷ ms) = omega arith in
    ap (λ (o : Option Item). at_item h p past more o) here
    ∙ then-then (take_mark h (r.line + 1) m p) more (take_marks h (r.line + 1 + 1) ms) (rest_of h r (r.line + length (m ∷ ms)) rest)
    (λ q. items_of-cut h ms q past front rest later
    ∙ then-same (take_marks h (r.line + 1 + 1) ms q) (rest_of h past (r.line + 1 + length ms) rest) (rest_of h r (r.line + length (m ∷ ms)) rest)
    (λ k. ap (λ n. rest_of h past n rest k) next ∙ from_lines h k (record r { line = r.line + length (m ∷ ms) }) (front ++ rest) rest))
