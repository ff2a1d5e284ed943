-- Lines of nodes, cut in two and one after another.
use Rattle.std.proofs.Common.{◌≡◌, ℕ, ◌+◌, ◌<◌, ◌≤◌, List, [], ◌∷◌, ◌++◌, map, length, get_or, take, drop, Option, None, Some, Result, Ok, Err, refl, sym, ap, ◌∙◌, subst, min, add-zero, arith}
use Rattle.std.specs.Prelude.{IfOk}
use Rattle.std.specs.Result.{result_err}
use Rattle.std.proofs.lemmas.List.{take_more, take-append-drop, map-append, length-map, length-take}
use Rattle.siting_definitions.specs.Marks.{Tally, tally_of}
use Rattle.siting_definitions.specs.Answer.{Head}
use Rattle.discard_log.specs.declared.node.Node.{Node}
use Rattle.discard_log.specs.Nodes.{mark_of}
use Rattle.answer_model.specs.Tally.{AreSmall, tally_sum}
use Rattle.answer_model.proofs.TallyLemmas.{tally_of-append, tally_of-small}
use Rattle.cert_checker.specs.declared.faults.CheckFault.{CheckFault}
use Rattle.cert_checker.specs.Faults.{or_else, mark_fault_of}
use Rattle.pair_check.specs.Lines.{AreChecked, lines_fault}

or_else-assoc : (a b c : Option CheckFault) → or_else a (or_else b c) ≡ or_else (or_else a b) c
or_else-assoc None b c = refl
or_else-assoc (Some fault) b c = refl

or_else-none : (a : Option CheckFault) → or_else a None ≡ a
or_else-none None = refl
or_else-none (Some fault) = refl

-- lines that are cut in two
pub lines_fault-append : (h : Head) (above : ℕ) (ns ms : List Node) → lines_fault h above (ns ++ ms) ≡ or_else (lines_fault h above ns) (lines_fault h (above + length ns) ms)
lines_fault-append h above [] ms = ap (λ k. lines_fault h k ms) (sym (add-zero above))
lines_fault-append h above (n ∷ ns) ms =
    let next : above + 1 + length ns ≡ above + length (n ∷ ns) = omega arith in
    let first = mark_fault_of h n.square n.mark (above + 1) in
    ap (or_else first) (lines_fault-append h (above + 1) ns ms ∙ ap (λ k. or_else (lines_fault h (above + 1) ns) (lines_fault h k ms)) next)
    ∙ or_else-assoc first (lines_fault h (above + 1) ns) (lines_fault h (above + length (n ∷ ns)) ms)

-- one line more
pub lines_fault-more : (h : Head) (above : ℕ) (ns : List Node) (n : Node) → lines_fault h above (ns ++ n ∷ []) ≡ or_else (lines_fault h above ns) (mark_fault_of h n.square n.mark (above + length ns + 1))
lines_fault-more h above ns n = lines_fault-append h above ns (n ∷ []) ∙ ap (or_else (lines_fault h above ns)) (or_else-none (mark_fault_of h n.square n.mark (above + length ns + 1)))

-- the tally of lines that are cut in two
pub tally-append : (ns ms : List Node) → tally_of (map mark_of (ns ++ ms)) ≡ tally_sum (tally_of (map mark_of ns)) (tally_of (map mark_of ms))
tally-append ns ms = ap tally_of (map-append mark_of ns ms) ∙ tally_of-append (map mark_of ns) (map mark_of ms)

-- few lines have small counts
pub tally-small : (ns : List Node) → length ns ≤ 65536 → AreSmall (tally_of (map mark_of ns))
tally-small ns few = let count : length (map mark_of ns) ≡ length ns = length-map ns mark_of in tally_of-small (map mark_of ns) (omega arith)

pub checked-small : (h : Head) (above : ℕ) (ns : List Node) (result : Result Tally CheckFault) → length ns ≤ 65536 → AreChecked h above ns result → IfOk result (λ t. AreSmall t)
checked-small h above ns (Ok t) few is = subst AreSmall (sym is.tally) (tally-small ns few)
checked-small h above ns (Err fault) few is = tt

-- ---- one line after another
-- the lines so far have no fault, and their marks are counted
pub record AreCounted (h : Head) (above : ℕ) (ns : List Node) (t : Tally) : Type 0 where
  pub fault : lines_fault h above ns ≡ None
  pub tally : t ≡ tally_of (map mark_of ns)

-- the first i lines, and the next
next_lines : (ns : List Node) (i : ℕ) (n : Node) → i < length ns → n ≡ get_or ns i n → take (i + 1) ns ≡ take i ns ++ n ∷ []
next_lines ns i n h at = take_more ns i n h ∙ ap (λ (k : Node). take i ns ++ k ∷ []) (sym at)

-- the fault of the first i lines and the next, where those have none
next_fault : (h : Head) (above : ℕ) (ns : List Node) (i : ℕ) (n : Node) (t : Tally) → i < length ns → n ≡ get_or ns i n → AreCounted h above (take i ns) t
    → lines_fault h above (take (i + 1) ns) ≡ mark_fault_of h n.square n.mark (above + i + 1)
next_fault h above ns i n t within at before =
    let long : length (take i ns) ≡ i = length-take i ns ∙ omega arith in
    ap (lines_fault h above) (next_lines ns i n within at)
    ∙ lines_fault-more h above (take i ns) n
    ∙ ap (λ (f : Option CheckFault). or_else f (mark_fault_of h n.square n.mark (above + length (take i ns) + 1))) before.fault
    ∙ ap (λ k. mark_fault_of h n.square n.mark (above + k + 1)) long

pub counted-more : (h : Head) (above : ℕ) (ns : List Node) (i : ℕ) (n : Node) (t s : Tally) → i < length ns → n ≡ get_or ns i n → AreCounted h above (take i ns) t
    → None ≡ mark_fault_of h n.square n.mark (above + i + 1) → s ≡ tally_sum t (tally_of (n.mark ∷ [])) → AreCounted h above (take (i + 1) ns) s
counted-more h above ns i n t s within at before none sum = record {
  fault = next_fault h above ns i n t within at before ∙ sym none;
  tally = sum ∙ ap (λ (k : Tally). tally_sum k (tally_of (n.mark ∷ []))) before.tally ∙ sym (tally-append (take i ns) (n ∷ [])) ∙ ap (λ (ms : List Node). tally_of (map mark_of ms)) (sym (next_lines ns i n within at));
}

-- lines with a fault so far have it
fault_stays : (h : Head) (above : ℕ) (front back : List Node) (fault : CheckFault) → lines_fault h above front ≡ Some fault → lines_fault h above (front ++ back) ≡ Some fault
fault_stays h above front back fault is = lines_fault-append h above front back ∙ ap (λ (f : Option CheckFault). or_else f (lines_fault h (above + length front) back)) is

-- the next line has a fault, and those before have none: it is the first
pub fault-found : (h : Head) (above : ℕ) (ns : List Node) (i : ℕ) (n : Node) (t : Tally) (fault : CheckFault) (result : Result Tally CheckFault) → i < length ns → n ≡ get_or ns i n → AreCounted h above (take i ns) t
    → Some fault ≡ mark_fault_of h n.square n.mark (above + i + 1) → result ≡ Err fault → AreChecked h above ns result
fault-found h above ns i n t fault (Ok u) within at before some is = absurd (cc)
fault-found h above ns i n t fault (Err found) within at before some is =
    let here : lines_fault h above (take (i + 1) ns) ≡ Some fault = next_fault h above ns i n t within at before ∙ sym some in
    let all : lines_fault h above ns ≡ Some fault
    = ap (lines_fault h above) (sym (take-append-drop (i + 1) ns)) ∙ fault_stays h above (take (i + 1) ns) (drop (i + 1) ns) fault here in
    let same : found ≡ fault = cc in
    record { fault = ap (λ (f : CheckFault). Some f) same ∙ sym all; tally = tt }

-- few lines so far have small counts
pub counted-small : (h : Head) (above : ℕ) (ns : List Node) (i : ℕ) (t : Tally) → length ns ≤ 65536 → AreCounted h above (take i ns) t → AreSmall t
counted-small h above ns i t few here =
    let count : length (take i ns) ≡ min i (length ns) = length-take i ns in
    subst AreSmall (sym here.tally) (tally-small (take i ns) (omega arith))

-- ---- two parts
-- what two parts say, one after the other
pub two-parts : (h : Head) (above : ℕ) (ns ms : List Node) (one other result : Result Tally CheckFault) → AreChecked h above ns one → AreChecked h (above + length ns) ms other
    → result_err result ≡ or_else (result_err one) (result_err other) → IfOk result (λ t. IfOk one (λ a. IfOk other (λ b. t ≡ tally_sum a b))) → AreChecked h above (ns ++ ms) result
two-parts h above ns ms (Err fault) other (Err found) first second is tally = record { fault = is ∙ ap (λ (f : Option CheckFault). or_else f (result_err other)) first.fault ∙ ap (or_else (lines_fault h above ns)) second.fault ∙ sym (lines_fault-append h above ns ms); tally = tt }
two-parts h above ns ms (Ok a) (Err fault) (Err found) first second is tally = record { fault = is ∙ ap (λ (f : Option CheckFault). or_else f (Some fault)) first.fault ∙ ap (or_else (lines_fault h above ns)) second.fault ∙ sym (lines_fault-append h above ns ms); tally = tt }
two-parts h above ns ms (Ok a) (Ok b) (Ok t) first second is tally = record {
  fault = is ∙ ap (λ (f : Option CheckFault). or_else f None) first.fault ∙ ap (or_else (lines_fault h above ns)) second.fault ∙ sym (lines_fault-append h above ns ms);
  tally = tally ∙ ap (λ (k : Tally). tally_sum k b) first.tally ∙ ap (tally_sum (tally_of (map mark_of ns))) second.tally ∙ sym (tally-append ns ms);
}
two-parts h above ns ms (Err fault) other (Ok t) first second is tally = absurd (cc)
two-parts h above ns ms (Ok a) (Err fault) (Ok t) first second is tally = absurd (cc)
two-parts h above ns ms (Ok a) (Ok b) (Err found) first second is tally = absurd (cc)
