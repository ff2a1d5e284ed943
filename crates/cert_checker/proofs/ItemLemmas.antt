-- The lines after the head, as a whole: there is no fault exactly where they are those of marks that fit, with "end" after them.
use Rattle.std.proofs.Common.{◌≡◌, ℕ, ◌+◌, Bool, true, false, List, [], ◌∷◌, ◌++◌, map, codes, Option, None, Some, Result, Ok, Err, refl, sym, ap, ◌∙◌, subst, add_assoc, add-zero}
use Rattle.std.specs.Prelude.{All}
use Rattle.std.proofs.lemmas.List.Elements.{All-nil, All-cons, All-head, All-tail}
use Rattle.siting_definitions.specs.declared.Mark.{Mark}
use Rattle.siting_definitions.specs.Square.{Square}
use Rattle.siting_definitions.specs.Marks.{Tally, tally_of, is_split, MarkFits}
use Rattle.dyadic_square.specs.Walk.{coming_after}
use Rattle.siting_definitions.specs.Answer.{Head, upper_cost, IsMark, EndFits}
use Rattle.siting_definitions.specs.AnswerText.{mark_line}
use Rattle.text_lines.specs.Words.{line_bytes as line_of}
use Rattle.line_stream.specs.Coming.{Coming}
use Rattle.certificate.specs.declared.reader.AnswerError.{AnswerError}
use Rattle.certificate.specs.declared.reader.Item.{Item}
use Rattle.certificate.specs.declared.reader.Item.TheVariants.{Node, End}
use Rattle.certificate.specs.Forms.{item_form}
use Rattle.certificate.specs.HeadReading.{end_of}
use Rattle.instance_text.specs.Reading.{and_then}
use Rattle.siting_definitions.proofs.MarkLemmas.{lesser-assoc, lesser-none}
use Rattle.answer_model.specs.Tally.{tally_sum}
use Rattle.certificate.proofs.MarkForms.{read_node, node_back, read_end, end_back}
use Rattle.answer_model.proofs.TallyLemmas.{tally_of-append}
use Rattle.cert_checker.specs.declared.faults.CheckFault.{CheckFault}
use Rattle.cert_checker.specs.declared.faults.CheckError.{CheckError}
use Rattle.cert_checker.specs.declared.checking.Accepted.{Accepted}
use Rattle.cert_checker.specs.Faults.{mark_fault_of, end_fault_of}
use Rattle.cert_checker.specs.Checking.{Progress, unless_fault, read_ok, accepted_of, at_end, at_item, items_of, node_fault, take_mark}
use Rattle.cert_checker.specs.Walking.{squares_after}
use Rattle.cert_checker.proofs.FaultLemmas.{marked_square, mark-none, end-none}
use Rattle.cert_checker.proofs.StepLemmas.{progress, take_mark-then}
use Rattle.cert_checker.proofs.TreeLemmas.{Reads}

-- ---- tallies
-- a tally with nothing after it
pub joined-nothing : (t : Tally) → tally_sum t (tally_of []) ≡ t
unfolding tally_of
joined-nothing t = simp add-zero (rw (lesser-none t.least) refl)

pub joined-assoc : (a b c : Tally) → tally_sum (tally_sum a b) c ≡ tally_sum a (tally_sum b c)
joined-assoc a b c =
    rw (add_assoc a.nodes b.nodes c.nodes, add_assoc a.splits b.splits c.splits, add_assoc a.leaves b.leaves c.leaves, add_assoc a.open_leaves b.open_leaves c.open_leaves, add_assoc a.floor_leaves b.floor_leaves c.floor_leaves, lesser-assoc a.least b.least c.least) refl

-- one mark, and then the others
pub joined-more : (t : Tally) (m : Mark) (ms : List Mark) → tally_sum (tally_sum t (tally_of (m ∷ []))) (tally_of ms) ≡ tally_sum t (tally_of (m ∷ ms))
joined-more t m ms = joined-assoc t (tally_of (m ∷ [])) (tally_of ms) ∙ ap (tally_sum t) (sym (tally_of-append (m ∷ []) ms))

-- the lines of marks, with "end" after them
abbrev pub mark_lines : List Mark → List (List ℕ)
mark_lines ms = map line_of (map mark_line ms) ++ codes "end" ∷ []

-- ---- nothing comes after "end"
abbrev IsEnd : List (List ℕ) → List ℕ → Bool → Type 0
IsEnd lines partial goes_on = (lines ≡ []) × ((partial ≡ []) × (goes_on ≡ false))

end_of-ok : (lines : List (List ℕ)) (partial : List ℕ) (goes_on : Bool) (line : ℕ) → end_of (record { input = record { lines = lines; partial = partial; goes_on = goes_on }; line = line }) ≡ Ok tt → IsEnd lines partial goes_on
end_of-ok [] [] true line e = absurd (cc)
end_of-ok [] [] false line e = (refl, (refl, refl))
end_of-ok [] (b ∷ bs) goes_on line e = absurd (cc)
end_of-ok (l ∷ lines) partial goes_on line e = absurd (cc)

read_ok-parts : {T : Type 0} (r : Result T AnswerError) (x y : Accepted) → read_ok r (λ _. Ok x) ≡ Ok y → ((v : T) × (r ≡ Ok v)) × (y ≡ x)
read_ok-parts (Ok v) x y e = ((v, refl), (let k : x ≡ y = cc in sym k))
read_ok-parts (Err error) x y e = absurd (cc)

-- where something is said there was no fault before it
pub unless-parts : {T : Type 0} (o : Option CheckFault) (r : Result T CheckError) (x : T) → unless_fault o r ≡ Ok x → (o ≡ None) × (r ≡ Ok x)
unless-parts None r x e = (refl, e)
unless-parts (Some fault) r x e = absurd (cc)

-- ---- from lines to marks
-- the lines are those of marks that fit, and what they say is that of the marks
pub record AreAccepted (h : Head) (squares : List Square) (t : Tally) (partial : List ℕ) (goes_on : Bool) (lines : List (List ℕ)) (x : Accepted) : Type 0 where
  pub marks : List Mark
  pub lines_are : lines ≡ mark_lines marks
  pub ranges : All IsMark marks
  pub reads : Reads h.instance h.gap (upper_cost h.best) squares marks
  pub end_fits : EndFits h (tally_sum t (tally_of marks))
  pub no_partial : partial ≡ []
  pub stops : goes_on ≡ false
  pub same : x ≡ accepted_of h (tally_sum t (tally_of marks))

ends : (h : Head) (squares : List Square) (t : Tally) (r : Coming) (line : List ℕ) (x : Accepted) → line ≡ codes "end" → at_end h (progress squares t) r ≡ Ok x → AreAccepted h squares t r.input.partial r.input.goes_on (line ∷ r.input.lines) x
ends h (s ∷ squares) t r line x is e = absurd (cc)
ends h [] t r line x is e =
    let parts = unless-parts (end_fault_of h t r.line) (read_ok (end_of r) (λ _. Ok (accepted_of h t))) x e in
    let read = read_ok-parts (end_of r) (accepted_of h t) x parts.1 in
    let at = end_of-ok r.input.lines r.input.partial r.input.goes_on r.line read.0.1 in
    record {
      marks = [];
      lines_are = ap (λ l. l ∷ r.input.lines) is ∙ ap (λ ls. codes "end" ∷ ls) at.0;
      ranges = All-nil IsMark;
      reads = tt;
      end_fits = subst (EndFits h) (sym (joined-nothing t)) ((end-none h t r.line).0 parts.0);
      no_partial = at.1.0;
      stops = at.1.1;
      same = read.1 ∙ ap (accepted_of h) (sym (joined-nothing t));
    }

-- what comes after one line
abbrev past : Coming → List (List ℕ) → Coming
past r lines = record { input = record r.input { lines = lines }; line = r.line + 1 }

-- what the lines that are left say
abbrev Later : Head → Coming → List (List ℕ) → Accepted → Type 0
Later h r lines x = (squares : List Square) (t : Tally) → items_of h (progress squares t) (past r lines) lines ≡ Ok x → AreAccepted h squares t r.input.partial r.input.goes_on lines x

more_items : Head → Coming → List (List ℕ) → Progress → Result Accepted CheckError
more_items h r lines p = items_of h p (past r lines) lines

one_mark : (h : Head) (squares : List Square) (t : Tally) (r : Coming) (line : List ℕ) (lines : List (List ℕ)) (m : Mark) (x : Accepted) → IsMark m × (line ≡ line_of (mark_line m)) → Later h r lines x → unless_fault (node_fault h squares m (r.line + 1)) (more_items h r lines (progress (squares_after squares (is_split m)) (tally_sum t (tally_of (m ∷ []))))) ≡ Ok x → AreAccepted h squares t r.input.partial r.input.goes_on (line ∷ lines) x
unfolding more_items
one_mark h [] t r line lines m x is later e = absurd (cc)
one_mark h (s ∷ squares) t r line lines m x is later e =
    let parts = unless-parts (mark_fault_of h s m (r.line + 1)) (more_items h r lines (progress (coming_after s (is_split m) squares) (tally_sum t (tally_of (m ∷ []))))) x e in
    let rest = later (coming_after s (is_split m) squares) (tally_sum t (tally_of (m ∷ []))) parts.1 in
    record {
      marks = m ∷ rest.marks;
      lines_are = ap (λ l. l ∷ lines) is.1 ∙ ap (λ ls. line_of (mark_line m) ∷ ls) rest.lines_are;
      ranges = All-cons IsMark m rest.marks is.0 rest.ranges;
      reads = ((mark-none h s m (r.line + 1)).0 parts.0, rest.reads);
      end_fits = subst (EndFits h) (joined-more t m rest.marks) rest.end_fits;
      no_partial = rest.no_partial;
      stops = rest.stops;
      same = rest.same ∙ ap (accepted_of h) (joined-more t m rest.marks);
    }

one_item : (h : Head) (squares : List Square) (t : Tally) (r : Coming) (line : List ℕ) (lines : List (List ℕ)) (x : Accepted) → Later h r lines x → (o : Option Item) → item_form line ≡ o → at_item h (progress squares t) (past r lines) (more_items h r lines) o ≡ Ok x → AreAccepted h squares t r.input.partial r.input.goes_on (line ∷ lines) x
one_item h squares t r line lines x later None form e = absurd (cc)
one_item h squares t r line lines x later (Some (Node m)) form e =
    one_mark h squares t r line lines m x (read_node line m form) later (sym (take_mark-then h (progress squares t) (r.line + 1) m (more_items h r lines)) ∙ e)
one_item h squares t r line lines x later (Some End) form e = ends h squares t (past r lines) line x (read_end line form) e

-- lines without a fault are those of marks that fit
pub accepted-lines : (h : Head) (squares : List Square) (t : Tally) (r : Coming) (lines : List (List ℕ)) (x : Accepted) → items_of h (progress squares t) r lines ≡ Ok x → AreAccepted h squares t r.input.partial r.input.goes_on lines x
unfolding more_items
accepted-lines h squares t r [] x e = absurd (cc)
accepted-lines h squares t r (line ∷ lines) x e =
    one_item h squares t r line lines x (λ later tally k. accepted-lines h later tally (past r lines) lines x k) (item_form line) refl e

-- ---- from marks to lines
mark_accepted : (h : Head) (s : Square) (squares : List Square) (t : Tally) (r : Coming) (m : Mark) (more : Progress → Result Accepted CheckError) → MarkFits h.instance h.gap (upper_cost h.best) (marked_square s m) m → and_then (take_mark h r.line m (progress (s ∷ squares) t)) more ≡ more (progress (coming_after s (is_split m) squares) (tally_sum t (tally_of (m ∷ []))))
mark_accepted h s squares t r m more fits =
    take_mark-then h (progress (s ∷ squares) t) r.line m more
    ∙ ap (λ (o : Option CheckFault). unless_fault o (more (progress (coming_after s (is_split m) squares) (tally_sum t (tally_of (m ∷ [])))))) ((mark-none h s m r.line).1 fits)

end_accepted : (h : Head) (t : Tally) (partial : List ℕ) (goes_on : Bool) (line : ℕ) → EndFits h t → partial ≡ [] → goes_on ≡ false → at_end h (progress [] t) (record { input = record { lines = []; partial = partial; goes_on = goes_on }; line = line }) ≡ Ok (accepted_of h t)
end_accepted h t partial goes_on line fits no_partial stops =
    ap (λ (o : Option CheckFault). unless_fault o (read_ok (end_of (record { input = record { lines = []; partial = partial; goes_on = goes_on }; line = line })) (λ _. Ok (accepted_of h t)))) ((end-none h t line).1 fits)
    ∙ rw (no_partial, stops) refl

-- lines of marks that fit have no fault
pub lines-accepted : (h : Head) (squares : List Square) (t : Tally) (r : Coming) (ms : List Mark) → Reads h.instance h.gap (upper_cost h.best) squares ms → All IsMark ms → EndFits h (tally_sum t (tally_of ms)) → r.input.partial ≡ [] → r.input.goes_on ≡ false → items_of h (progress squares t) r (mark_lines ms) ≡ Ok (accepted_of h (tally_sum t (tally_of ms)))
lines-accepted h [] t r [] reads ranges fits no_partial stops =
    let fits_t = subst (EndFits h) (joined-nothing t) fits in
    ap (λ (o : Option Item). at_item h (progress [] t) (past r []) (λ next. items_of h next (past r []) []) o) (end_back (codes "end") refl)
    ∙ (end_accepted h t r.input.partial r.input.goes_on (r.line + 1) fits_t no_partial stops ∙ ap (λ (k : Tally). Ok (accepted_of h k)) (sym (joined-nothing t)))
lines-accepted h (s ∷ squares) t r [] reads ranges fits no_partial stops = absurd reads
lines-accepted h [] t r (m ∷ ms) reads ranges fits no_partial stops = absurd reads
lines-accepted h (s ∷ squares) t r (m ∷ ms) reads ranges fits no_partial stops =
    let lines = mark_lines ms in
    let next = tally_sum t (tally_of (m ∷ [])) in
    let form = node_back m (All-head IsMark m ms ranges) in
    let fits_more = subst (EndFits h) (sym (joined-more t m ms)) fits in
    ap (λ (o : Option Item). at_item h (progress (s ∷ squares) t) (past r lines) (λ next. items_of h next (past r lines) lines) o) form
    ∙ (mark_accepted h s squares t (past r lines) m (λ next. items_of h next (past r lines) lines) reads.0
    ∙ (lines-accepted h (coming_after s (is_split m) squares) next (past r lines) ms reads.1 (All-tail IsMark m ms ranges) fits_more no_partial stops
    ∙ ap (λ (k : Tally). Ok (accepted_of h k)) (joined-more t m ms)))
