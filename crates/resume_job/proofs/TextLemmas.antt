-- The nodes of a valid answer, read from its text.
use Rattle.std.proofs.Common.{◌≡◌, ℕ, ◌+◌, ◌<◌, ◌≤◌, List, [], ◌∷◌, ◌++◌, map, length, codes, Option, Some, IfSome, Result, Ok, Err, refl, sym, ap, ◌∙◌, subst, arith}
use Rattle.std.specs.Prelude.{All, slice_get}
use Rattle.std.proofs.lemmas.List.{append_assoc, append-nil}
use Rattle.std.proofs.lemmas.List.Elements.{All-head, All-tail}
use Rattle.port_io.specs.Faults.{Rose}
use Rattle.siting_definitions.specs.declared.Mark.{Mark}
use Rattle.siting_definitions.specs.Square.{Square}
use Rattle.siting_definitions.specs.Sites.{root_of}
use Rattle.siting_definitions.specs.Marks.{is_split, tally_of}
use Rattle.siting_definitions.specs.Answer.{Head, Answer, IsMark, IsValid}
use Rattle.siting_definitions.specs.AnswerText.{answer_text, mark_line}
use Rattle.text_lines.specs.Words.{line_bytes}
use Rattle.dyadic_square.specs.Walk.{Walks, coming_after}
use Rattle.dyadic_square.proofs.Walks.{walk-preorder}
use Rattle.discard_log.specs.declared.node.Node.{Node}
use Rattle.discard_log.specs.Nodes.{mark_of, tree_square}
use Rattle.answer_model.specs.Nodes.{nodes_in_order, nodes_of}
use Rattle.answer_model.proofs.NodesLemmas.{valid-nodes}
use Rattle.line_stream.specs.Coming.{Coming}
use Rattle.certificate.specs.declared.reader.AnswerError.{AnswerError}
use Rattle.certificate.specs.declared.reader.Item.{Item}
use Rattle.certificate.specs.declared.reader.Item.TheVariants.{Node as NodeItem}
use Rattle.certificate.specs.Forms.{item_form}
use Rattle.certificate.specs.HeadReading.{coming_of, head_reading, or_form, formed}
use Rattle.certificate.specs.ReaderView.{ReadsTo}
use Rattle.certificate.proofs.MarkForms.{node_back}
use Rattle.certificate.proofs.AnswerTextLemmas.{text_comes}
use Rattle.certificate.proofs.LengthLemmas.{valid-length}
use Rattle.search_answer.specs.Ending.{answer_of}
use Rattle.cert_checker.specs.declared.faults.CheckError.{CheckError}
use Rattle.cert_checker.specs.declared.faults.CheckError.TheVariants.{Fault, ReadFault, TooLong, NoMemory}
use Rattle.cert_checker.specs.declared.checking.Accepted.{Accepted}
use Rattle.cert_checker.specs.Checking.{checking}
use Rattle.cert_checker.specs.Walking.{CanStep, squares_after}
use Rattle.cert_checker.specs.Steps.{RejectsAs}
use Rattle.cert_checker.proofs.ValidLemmas.{accepted-valid}
use Rattle.cert_checker.proofs.LimitLemmas.{checking-not_long}
use Rattle.resume_job.specs.Loading.{AreOfValid}
use Rattle.resume_job.specs.Steps.{IsNext, IsTextWithMarks, RejectsText}

-- ---- the check
-- a count that stands still didn't rise
still : Rose 0 0 → ⊥
still rose = absurd (omega (arith, rose (λ e. omega (arith, e))))

-- the errors of a check of bytes that are no more than may be loaded, by a source that never fails
pub rejects_text : (bytes : List ℕ) (error : CheckError) → length bytes ≤ 100000000 → RejectsAs (checking bytes) error → (◌≡◌ {A = Result Accepted CheckError} (Err error) (Err ReadFault) → Rose 0 0) → RejectsText bytes error
rejects_text bytes (Fault fault) within rejects blames = rejects
rejects_text bytes ReadFault within rejects blames = absurd (still (blames refl))
rejects_text bytes TooLong within rejects blames = absurd (checking-not_long bytes (omega arith) rejects)
rejects_text bytes NoMemory within rejects blames = tt

-- bytes that are accepted are the text of a valid answer, with as many marks as it is said to have nodes
pub accepted_text : (bytes : List ℕ) (x : Accepted) → checking bytes ≡ Ok x → IsTextWithMarks bytes x.nodes
unfolding tally_of
accepted_text bytes x said =
    let is = accepted-valid bytes x said in
    record { answer = is.0; valid = is.1; text = is.2; marks = ap (λ (k : Accepted). k.nodes) is.3 }

-- ---- the next node
-- the walk can step
pub can_step : (squares : List Square) (now : Option Coming) (m : Mark) → (next : IsNext squares now) → m ≡ next.mark → CanStep squares (is_split m)
can_step squares now m next same = rw (next.squares_are, same) next.level

-- the node, and the squares after it
pub node_is : (squares : List Square) (now : Option Coming) (s : Square) (m : Mark) → Some s ≡ slice_get squares 0 → (next : IsNext squares now) → m ≡ next.mark → ◌≡◌ {A = Node} (record { square = s; mark = m }) (record { square = next.square; mark = next.mark })
node_is squares now s m is next same =
    let first : Some s ≡ Some next.square = is ∙ ap (λ (ls : List Square). slice_get ls 0) next.squares_are in
    cc

pub walk_is : (squares after : List Square) (now : Option Coming) (m : Mark) → after ≡ squares_after squares (is_split m) → (next : IsNext squares now) → m ≡ next.mark → after ≡ coming_after next.square (is_split next.mark) next.later
walk_is squares after now m stepped next same =
    stepped ∙ ap (λ (k : Mark). squares_after squares (is_split k)) same ∙ ap (λ (ls : List Square). squares_after ls (is_split next.mark)) next.squares_are

-- the line of a node is read
node_line : (r : Coming) (line : List ℕ) (lines : List (List ℕ)) (m : Mark) → r.input.lines ≡ line ∷ lines → item_form line ≡ Some (NodeItem m) → formed item_form r ≡ Ok (NodeItem m, record { input = record r.input { lines = lines }; line = r.line + 1 })
node_line r line lines m comes form =
    ap (λ (ls : List (List ℕ)). and_then_form ls) comes ∙ ap (λ (o : Option Item). or_form o (record { input = record r.input { lines = lines }; line = r.line + 1 })) form
  where
    and_then_form : List (List ℕ) → Result (Item × Coming) AnswerError
    and_then_form ls = formed item_form (record { input = record r.input { lines = ls }; line = r.line })

-- ---- halfway
-- the lines of these marks, and the last one
abbrev mark_lines : List Mark → List (List ℕ)
mark_lines ms = map line_bytes (map mark_line ms) ++ codes "end" ∷ []

-- So many nodes of the answer were read; the lines of the marks that are left are to come, with the squares that they will have.
pub record IsHalfway (a : Answer) (count : ℕ) (squares : List Square) (now : Option Coming) (ns : List Node) : Type 0 where
  pub left : List Mark
  pub rest : Coming
  pub told : now ≡ Some rest
  pub lines : rest.input.lines ≡ mark_lines left
  pub all : count + length left ≡ length a.marks
  pub ranges : All IsMark left
  pub walks : Walks squares (map tree_square (nodes_in_order squares left))
  pub marks : map mark_of (nodes_in_order squares left) ≡ left
  pub nodes : ns ++ nodes_in_order squares left ≡ nodes_of a

-- nothing was read of what comes after the head
halfway_at : (a : Answer) (h : Head) (now : Option Coming) (rest : Coming) → IsValid a → head_reading (coming_of (answer_text a)) ≡ Ok (h, rest) → now ≡ Some rest → (h ≡ a.head) × IsHalfway a 0 (root_of h.instance ∷ []) now []
halfway_at a h now rest valid reads told =
    let comes = text_comes a valid.ranges valid.mark_ranges (omega (arith, valid-length a valid)) in
    let both : (h ≡ a.head) × (rest ≡ comes.0) = same_parts h a.head rest comes.0 (sym reads ∙ comes.1) in
    let tree = valid-nodes a valid in
    let root : Square = root_of a.head.instance in
    let halfway : IsHalfway a 0 (root ∷ []) now [] =
    record {
      left = a.marks;
      rest = rest;
      told = told;
      lines = ap (λ (r : Coming). r.input.lines) both.1 ∙ comes.2;
      all = omega arith;
      ranges = valid.mark_ranges;
      walks = subst (Walks (root ∷ [])) (sym tree.2) (walk-preorder tree.0 root tree.1.0);
      marks = tree.3;
      nodes = refl;
    } in
    (both.0, subst (λ (k : Head). IsHalfway a 0 (root_of k.instance ∷ []) now []) (sym both.0) halfway)
  where
    same_parts : (h k : Head) (r s : Coming) → ◌≡◌ {A = Result (Head × Coming) AnswerError} (Ok (h, r)) (Ok (k, s)) → (h ≡ k) × (r ≡ s)
    same_parts h k r s e =
        let pair : (h, r) ≡ (k, s) = cc in
        (ap (λ (p : Head × Coming). p.0) pair, ap (λ (p : Head × Coming). p.1) pair)

-- the head was read
halfway_begins : (bytes : List ℕ) (count : ℕ) (of : IsTextWithMarks bytes count) (h : Head) (root : Square) (squares : List Square) (now : Option Coming) (ns : List Node)
    → ReadsTo (head_reading (coming_of bytes)) now (Ok h) → root ≡ root_of h.instance → squares ≡ root ∷ [] → ns ≡ []
    → (h ≡ of.answer.head) × IsHalfway of.answer 0 squares now ns
halfway_begins bytes count of h root squares now ns reads root_is squares_are none =
    let text = subst (λ (bs : List ℕ). head_reading (coming_of bs) ≡ Ok (h, reads.0)) of.text reads.1 in
    let halfway = halfway_at of.answer h now reads.0 of.valid text reads.2 in
    rw (squares_are, root_is, none) halfway

-- ---- from one node to the next
-- a mark is left, so a square is to come
next_at : (a : Answer) (count : ℕ) (squares : List Square) (now : Option Coming) (ns : List Node) (rest : Coming) (m : Mark) (ms : List Mark)
    → now ≡ Some rest → rest.input.lines ≡ mark_lines (m ∷ ms) → All IsMark (m ∷ ms) → Walks squares (map tree_square (nodes_in_order squares (m ∷ ms))) → map mark_of (nodes_in_order squares (m ∷ ms)) ≡ m ∷ ms → IsNext squares now
next_at a count [] now ns rest m ms told lines ranges walks marks = absurd (cc)
next_at a count (s ∷ squares) now ns rest m ms told lines ranges walks marks =
    record {
      square = s;
      later = squares;
      mark = m;
      here = rest;
      rest = record { input = record rest.input { lines = mark_lines ms }; line = rest.line + 1 };
      squares_are = refl;
      now_is = told;
      reads = node_line rest (line_bytes (mark_line m)) (mark_lines ms) m lines (node_back m (All-head IsMark m ms ranges));
      level = walks.1;
    }

-- the node that comes next
halfway_next : (a : Answer) (count : ℕ) (squares : List Square) (now : Option Coming) (ns : List Node) → count < length a.marks → IsHalfway a count squares now ns → IsNext squares now
halfway_next a count squares now ns within h = by_left h.left refl
  where
    by_left : (ms : List Mark) → h.left ≡ ms → IsNext squares now
    by_left [] e = absurd (omega (arith, h.all, ap length e, within))
    by_left (m ∷ ms) e =
        next_at a count squares now ns h.rest m ms h.told (h.lines ∙ ap mark_lines e) (subst (All IsMark) e h.ranges)
        (subst (λ (ks : List Mark). Walks squares (map tree_square (nodes_in_order squares ks))) e h.walks)
        (subst (λ (ks : List Mark). map mark_of (nodes_in_order squares ks) ≡ ks) e h.marks)

-- it was read
more_at : (a : Answer) (count : ℕ) (squares after : List Square) (now then_ : Option Coming) (ns : List Node) (n : Node) (rest : Coming) (m : Mark) (ms : List Mark)
    → now ≡ Some rest → rest.input.lines ≡ mark_lines (m ∷ ms) → count + length (m ∷ ms) ≡ length a.marks → All IsMark (m ∷ ms) → Walks squares (map tree_square (nodes_in_order squares (m ∷ ms))) → map mark_of (nodes_in_order squares (m ∷ ms)) ≡ m ∷ ms → ns ++ nodes_in_order squares (m ∷ ms) ≡ nodes_of a
    → ((next : IsNext squares now) → n ≡ record { square = next.square; mark = next.mark }) → ((next : IsNext squares now) → after ≡ coming_after next.square (is_split next.mark) next.later) → ((next : IsNext squares now) → then_ ≡ Some next.rest)
    → IsHalfway a (count + 1) after then_ (ns ++ n ∷ [])
unfolding next_at
more_at a count [] after now then_ ns n rest m ms told lines all ranges walks marks nodes node_is after_is then_is = absurd (cc)
more_at a count (s ∷ squares) after now then_ ns n rest m ms told lines all ranges walks marks nodes node_is after_is then_is =
    let next = next_at a count (s ∷ squares) now ns rest m ms told lines ranges walks marks in
    let coming = coming_after s (is_split m) squares in
    let node : Node = record { square = s; mark = m } in
    let halfway : IsHalfway a (count + 1) coming then_ (ns ++ node ∷ []) =
    record {
      left = ms;
      rest = next.rest;
      told = then_is next;
      lines = refl;
      all = omega (arith, all);
      ranges = All-tail IsMark m ms ranges;
      walks = walks.2;
      marks = tail_same marks;
      nodes = append_assoc ns (node ∷ []) (nodes_in_order coming ms) ∙ nodes;
    } in
    rw (after_is next, node_is next) halfway
  where
    tail_same : {k : Mark} {ks ls : List Mark} → k ∷ ks ≡ k ∷ ls → ks ≡ ls
    tail_same e = cc

halfway_more : (a : Answer) (count : ℕ) (squares after : List Square) (now then_ : Option Coming) (ns ms : List Node) (n : Node) → count < length a.marks → IsHalfway a count squares now ns
    → ((next : IsNext squares now) → n ≡ record { square = next.square; mark = next.mark }) → ((next : IsNext squares now) → after ≡ coming_after next.square (is_split next.mark) next.later) → ((next : IsNext squares now) → then_ ≡ Some next.rest)
    → ms ≡ ns ++ n ∷ [] → IsHalfway a (count + 1) after then_ ms
halfway_more a count squares after now then_ ns ms n within h node_is after_is then_is pushed = rw pushed (by_left h.left refl)
  where
    by_left : (ks : List Mark) → h.left ≡ ks → IsHalfway a (count + 1) after then_ (ns ++ n ∷ [])
    by_left [] e = absurd (omega (arith, h.all, ap length e, within))
    by_left (k ∷ ks) e =
        more_at a count squares after now then_ ns n h.rest k ks h.told (h.lines ∙ ap mark_lines e) (ap (λ (ls : List Mark). count + length ls) (sym e) ∙ h.all) (subst (All IsMark) e h.ranges)
        (subst (λ (ls : List Mark). Walks squares (map tree_square (nodes_in_order squares ls))) e h.walks)
        (subst (λ (ls : List Mark). map mark_of (nodes_in_order squares ls) ≡ ls) e h.marks)
        (ap (λ (ls : List Mark). ns ++ nodes_in_order squares ls) (sym e) ∙ h.nodes)
        node_is after_is then_is

-- ---- the end of the nodes
nothing_left : (squares : List Square) → nodes_in_order squares [] ≡ []
nothing_left [] = refl
nothing_left (s ∷ squares) = refl

-- all nodes were read
halfway_end : (a : Answer) (count : ℕ) (squares : List Square) (now : Option Coming) (ns : List Node) → length a.marks ≤ count → IsHalfway a count squares now ns → ns ≡ nodes_of a
halfway_end a count squares now ns all h = by_left h.left refl
  where
    by_left : (ms : List Mark) → h.left ≡ ms → ns ≡ nodes_of a
    by_left [] e =
        sym (append-nil ns) ∙ ap (λ (ls : List Node). ns ++ ls) (sym (nothing_left squares)) ∙ ap (λ (ls : List Mark). ns ++ nodes_in_order squares ls) (sym e) ∙ h.nodes
    by_left (m ∷ ms) e = absurd (omega (arith, h.all, ap length e, all))

same_answer : (a : Answer) (h : Head) (ns : List Node) → IsValid a → h ≡ a.head → ns ≡ nodes_of a → answer_of h ns ≡ a
same_answer a h ns valid head nodes =
    let marks : map mark_of ns ≡ a.marks = ap (map mark_of) nodes ∙ (valid-nodes a valid).3 in
    ap (λ (k : Head). record { head = k; marks = map mark_of ns }) head ∙ ap (λ (ms : List Mark). record { head = a.head; marks = ms }) marks

-- the head and the nodes of a valid answer
parts_valid : (a : Answer) (h : Head) (ns : List Node) → IsValid a → h ≡ a.head → ns ≡ nodes_of a → AreOfValid h ns
parts_valid a h ns valid head nodes =
    let same = same_answer a h ns valid head nodes in
    record { valid = subst IsValid (sym same) valid; nodes = nodes ∙ ap nodes_of (sym same) }

parts_text : (bytes : List ℕ) (a : Answer) (h : Head) (ns : List Node) → bytes ≡ answer_text a → IsValid a → h ≡ a.head → ns ≡ nodes_of a → bytes ≡ answer_text (answer_of h ns)
parts_text bytes a h ns text valid head nodes = text ∙ ap answer_text (sym (same_answer a h ns valid head nodes))

-- ---- the whole text
-- of the text of a valid answer the head and so many nodes were read
pub record IsUnderway (bytes : List ℕ) (count : ℕ) (h : Head) (done : ℕ) (squares : List Square) (now : Option Coming) (ns : List Node) : Type 0 where
  pub of : IsTextWithMarks bytes count
  pub head : h ≡ of.answer.head
  pub halfway : IsHalfway of.answer done squares now ns

pub underway_begins : (bytes : List ℕ) (count : ℕ) (h : Head) (root : Square) (squares : List Square) (before now : Option Coming) (ns : List Node)
    → IsTextWithMarks bytes count → before ≡ Some (coming_of bytes) → IfSome before (λ r. ReadsTo (head_reading r) now (Ok h)) → root ≡ root_of h.instance → squares ≡ root ∷ [] → ns ≡ []
    → IsUnderway bytes count h 0 squares now ns
underway_begins bytes count h root squares before now ns of at reads root_is squares_are none =
    let begun = halfway_begins bytes count of h root squares now ns (subst (λ o. IfSome o (λ r. ReadsTo (head_reading r) now (Ok h))) at reads) root_is squares_are none in
    record { of = of; head = begun.0; halfway = begun.1 }

pub underway_next : (bytes : List ℕ) (count : ℕ) (h : Head) (done : ℕ) (squares : List Square) (now : Option Coming) (ns : List Node) → done < count → IsUnderway bytes count h done squares now ns → IsNext squares now
underway_next bytes count h done squares now ns within u = halfway_next u.of.answer done squares now ns (omega (arith, within, u.of.marks)) u.halfway

pub underway_more : (bytes : List ℕ) (count : ℕ) (h : Head) (done : ℕ) (squares after : List Square) (now then_ : Option Coming) (ns ms : List Node) (n : Node) → done < count → IsUnderway bytes count h done squares now ns
    → ((next : IsNext squares now) → n ≡ record { square = next.square; mark = next.mark }) → ((next : IsNext squares now) → after ≡ coming_after next.square (is_split next.mark) next.later) → ((next : IsNext squares now) → then_ ≡ Some next.rest)
    → ms ≡ ns ++ n ∷ [] → IsUnderway bytes count h (done + 1) after then_ ms
underway_more bytes count h done squares after now then_ ns ms n within u node_is after_is then_is pushed =
    record { of = u.of; head = u.head; halfway = halfway_more u.of.answer done squares after now then_ ns ms n (omega (arith, within, u.of.marks)) u.halfway node_is after_is then_is pushed }

pub underway_valid : (bytes : List ℕ) (count : ℕ) (h : Head) (done : ℕ) (squares : List Square) (now : Option Coming) (ns : List Node) → count ≤ done → IsUnderway bytes count h done squares now ns → AreOfValid h ns
underway_valid bytes count h done squares now ns all u =
    parts_valid u.of.answer h ns u.of.valid u.head (halfway_end u.of.answer done squares now ns (omega (arith, all, u.of.marks)) u.halfway)

pub underway_text : (bytes : List ℕ) (count : ℕ) (h : Head) (done : ℕ) (squares : List Square) (now : Option Coming) (ns : List Node) → count ≤ done → IsUnderway bytes count h done squares now ns → bytes ≡ answer_text (answer_of h ns)
underway_text bytes count h done squares now ns all u =
    parts_text bytes u.of.answer h ns u.of.text u.of.valid u.head (halfway_end u.of.answer done squares now ns (omega (arith, all, u.of.marks)) u.halfway)
