-- A batch, line by line.
use Rattle.std.proofs.Common.{◌≡◌, ℕ, ◌+◌, ◌-◌, ◌<◌, ◌≤◌, ◌^◌, Bool, false, true, List, [], ◌∷◌, ◌++◌, map, length, Option, None, Some, Result, Ok, Err, refl, sym, ap, ◌∙◌, inl, inr, subst, arith, append_assoc}
use Rattle.std.specs.Prelude.{MatchOption, slice_get, ⊤}
use Rattle.std.specs.Io.KnownBytes.{Consumes}
use Rattle.std.proofs.lemmas.List.{length-append}
use Rattle.port_io.proofs.SourceLemmas.{Consumes-then}
use Rattle.siting_definitions.specs.declared.Mark.{Mark}
use Rattle.siting_definitions.specs.Square.{Square}
use Rattle.siting_definitions.specs.Sites.{root_of}
use Rattle.siting_definitions.specs.Marks.{Tally, is_split, tally_of}
use Rattle.siting_definitions.specs.Answer.{Head}
use Rattle.line_stream.specs.Coming.{Coming}
use Rattle.line_stream.specs.Stream.{Stream, AreTaken, IsCalm, IsNeeded, coming_in}
use Rattle.line_stream.proofs.LineLemmas.{Consumes-none, calm-none, calm-then, needed-kept, needed-last}
use Rattle.certificate.specs.declared.reader.AnswerError.{AnswerError}
use Rattle.certificate.specs.declared.reader.Item.{Item}
use Rattle.certificate.specs.declared.reader.Item.TheVariants.{Node as NodeItem, End}
use Rattle.certificate.specs.Forms.{item_form}
use Rattle.certificate.specs.HeadReading.{answer_limit, formed}
use Rattle.certificate.specs.declared.reader.AnswerError.TheVariants.{Form, Instance as BadInstance, TooLong as TextTooLong, ReadFault as TextReadFault, NoMemory as TextNoMemory}
use Rattle.certificate.specs.AnswerReading.{TextBlamesAs, Read}
use Rattle.discard_log.specs.declared.node.Node.{Node}
use Rattle.discard_log.specs.Nodes.{mark_of}
use Rattle.answer_model.specs.Tally.{AreSmall, tally_sum}
use Rattle.cert_checker.specs.declared.faults.CheckFault.{CheckFault}
use Rattle.cert_checker.specs.declared.faults.CheckError.{CheckError}
use Rattle.cert_checker.specs.declared.faults.CheckError.TheVariants.{Fault, NoMemory, ReadFault, TooLong}
use Rattle.cert_checker.specs.declared.checking.Accepted.{Accepted}
use Rattle.cert_checker.specs.Faults.{mark_fault_of, or_else}
use Rattle.cert_checker.specs.Checking.{Progress, at_item, error_of, unless_fault, items_of, progress_after, read_ok}
use Rattle.cert_checker.specs.Walking.{CanStep, squares_after}
use Rattle.cert_checker.specs.CheckReading.{IsPast, after_root, at_last}
use Rattle.cert_checker.proofs.FaultLemmas.{can_step}
use Rattle.cert_checker.proofs.ReadLemmas.{part_error, past_stopped}
use Rattle.cert_checker.proofs.StepLemmas.{IsWithin, fewer, formed-next, few_lines, item_at, items_at, items_begin, take_mark-then}
use Rattle.cert_checker.proofs.ItemLemmas.{joined-assoc, joined-nothing}
use Rattle.pair_check.specs.declared.batch.Batch.{Batch}
use Rattle.pair_check.specs.Batches.{Closes, Grows, TakesItem, batch_says, batch_says_with, progress_past, says, says_with, tally_with}
use Rattle.pair_check.specs.BatchReading.{IsStoppedAt}
use Rattle.pair_check.specs.Lines.{lines_fault}
use Rattle.pair_check.proofs.LineLemmas.{lines_fault-more, tally-append}
use Rattle.pair_check.proofs.AheadLemmas.{IsBatchRead, ahead_read, batch_begins, batch_more}
use Rattle.pair_check.proofs.ReadingLemmas.{of_stopped}

-- ---- faults
unless_or : {T : Type 0} (a b : Option CheckFault) (r : Result T CheckError) → unless_fault a (unless_fault b r) ≡ unless_fault (or_else a b) r
unless_or None b r = refl
unless_or (Some fault) b r = refl

-- where there is a fault, it is no matter what comes after it
same_unless : {T : Type 0} (a b : Option CheckFault) (x y : Result T CheckError) → (b ≡ None → x ≡ y) → unless_fault (or_else a b) x ≡ unless_fault (or_else a b) y
same_unless None None x y same = same refl
same_unless None (Some fault) x y same = refl
same_unless (Some fault) b x y same = refl

-- ---- tallies
-- one line more is counted
pub tally-more : (t : Tally) (ns : List Node) (n : Node) → tally_sum t (tally_of (map mark_of (ns ++ n ∷ []))) ≡ tally_sum (tally_sum t (tally_of (map mark_of ns))) (tally_of (n.mark ∷ []))
tally-more t ns n = ap (tally_sum t) (tally-append ns (n ∷ [])) ∙ sym (joined-assoc t (tally_of (map mark_of ns)) (tally_of (n.mark ∷ [])))

-- a tally of few marks is small
pub within-small : (t : Tally) (n : ℕ) → IsWithin t n → n < 2 ^ 40 → AreSmall t
within-small t n h few = record { nodes = omega (arith, h.nodes); splits = omega (arith, h.splits); leaves = omega (arith, h.leaves); open_leaves = omega (arith, h.open_leaves); floor_leaves = omega (arith, h.floor_leaves) }

-- ---- one line
-- a line whose square is to come is one more of the batch
pub node_taken : (h : Head) (above : ℕ) (ns later : List Node) (squares rest : List Square) (s : Square) (t : Tally) (m : Mark) (line : ℕ) → slice_get squares 0 ≡ Some s → line ≡ above + length ns + 1
    → later ≡ ns ++ record { square = s; mark = m } ∷ [] → (CanStep squares (is_split m) → rest ≡ squares_after squares (is_split m))
    → (r : Coming) → r.line ≡ line → says_with h above ns squares t (NodeItem m) r ≡ says h above later rest t r
node_taken h above ns later [] rest s t m line first at new steps r here = absurd (cc)
node_taken h above ns later (q ∷ squares) rest s t m line first at new steps r here =
    let n : Node = record { square = s; mark = m } in
    let p = progress_past ns (q ∷ squares) t in
    let more : Progress → Result Accepted CheckError = λ k. items_of h k r r.input.lines in
    let before = lines_fault h above ns in
    let fault = mark_fault_of h q m r.line in
    let same : s ≡ q = cc in
    let there : above + length ns + 1 ≡ r.line = omega (arith, at, here) in
    let all : lines_fault h above later ≡ or_else before fault
    = ap (lines_fault h above) new ∙ lines_fault-more h above ns n ∙ ap (λ k. or_else before (mark_fault_of h s m k)) there ∙ ap (λ (z : Square). or_else before (mark_fault_of h z m r.line)) same in
    let tallied : tally_sum p.tally (tally_of (m ∷ [])) ≡ (progress_past later rest t).tally
    = sym (tally-more t ns n) ∙ ap (λ (l : List Node). tally_sum t (tally_of (map mark_of l))) (sym new) in
    ap (unless_fault before) (take_mark-then h p r.line m more)
    ∙ unless_or before fault (more (progress_after p m))
    ∙ same_unless before fault (more (progress_after p m)) (more (progress_past later rest t))
    (λ none.
    let can = can_step h (q ∷ squares) q m r.line refl none in
    ap (λ (l : List Square). more (record { squares = l; tally = tally_sum p.tally (tally_of (m ∷ [])) })) (sym (steps can))
    ∙ ap (λ (k : Tally). more (record { squares = rest; tally = k })) tallied)
    ∙ ap (λ (o : Option CheckFault). unless_fault o (more (progress_past later rest t))) (sym all)

-- a batch that was checked says the same without its lines, or its fault
pub settled : (h : Head) (above after line : ℕ) (ns later : List Node) (squares rest : List Square) (t u : Tally) (before : Coming → Result Accepted CheckError) (o : Option CheckFault)
    → o ≡ lines_fault h above ns → (o ≡ None → u ≡ tally_sum t (tally_of (map mark_of ns))) → (o ≡ None → later ≡ []) → rest ≡ squares
    → ((r : Coming) → r.line ≡ line → before r ≡ says h above ns squares t r) → TakesItem line before (says h after later rest u) o
settled h above after line ns later squares rest t u before (Some fault) is tallied empty same mid =
    λ r here. mid r here ∙ ap (λ (k : Option CheckFault). unless_fault k (items_of h (progress_past ns squares t) r r.input.lines)) (sym is)
settled h above after line ns later squares rest t u before None is tallied empty same mid =
    λ r here.
    let more : Progress → Result Accepted CheckError = λ k. items_of h k r r.input.lines in
    mid r here
    ∙ ap (λ (k : Option CheckFault). unless_fault k (more (progress_past ns squares t))) (sym is)
    ∙ ap (λ (k : Tally). more (record { squares = squares; tally = k })) (sym (tallied refl) ∙ sym (joined-nothing u))
    ∙ ap (λ (l : List Square). says h after [] l u r) (sym same)
    ∙ ap (λ (l : List Node). says h after l rest u r) (sym (empty refl))

-- ---- a batch
-- a batch with one line more says the same
pub line_added : (h : Head) (b k : Batch) (s : Square) (m : Mark) (line : ℕ) → slice_get b.walk 0 ≡ Some s → line ≡ b.above + length b.nodes.items + 1
    → k.nodes.items ≡ b.nodes.items ++ record { square = s; mark = m } ∷ [] → k.above ≡ b.above → k.tally ≡ b.tally → (CanStep b.walk (is_split m) → k.walk ≡ squares_after b.walk (is_split m))
    → (r : Coming) → r.line ≡ line → batch_says_with h b (NodeItem m) r ≡ batch_says h k r
line_added h b k s m line first at new above tally steps r here =
    node_taken h b.above b.nodes.items k.nodes.items b.walk k.walk s b.tally m line first at new steps r here
    ∙ ap (λ n. says h n k.nodes.items k.walk b.tally r) (sym above)
    ∙ ap (λ (t : Tally). says h k.above k.nodes.items k.walk t r) (sym tally)

-- and counts its mark too
pub tally-added : (b k : Batch) (s : Square) (m : Mark) → k.nodes.items ≡ b.nodes.items ++ record { square = s; mark = m } ∷ [] → k.tally ≡ b.tally → tally_with k ≡ tally_sum (tally_with b) (tally_of (m ∷ []))
tally-added b k s m new tally =
    let n : Node = record { square = s; mark = m } in
    ap (λ (t : Tally). tally_sum t (tally_of (map mark_of k.nodes.items))) tally
    ∙ ap (λ (l : List Node). tally_sum b.tally (tally_of (map mark_of l))) new
    ∙ tally-more b.tally b.nodes.items n

-- a batch without lines has the tally of those above it
pub tally-empty : (b : Batch) (t : Tally) → b.nodes.items ≡ [] → b.tally ≡ t → tally_with b ≡ t
tally-empty b t empty tally = ap (λ (l : List Node). tally_sum b.tally (tally_of (map mark_of l))) empty ∙ joined-nothing b.tally ∙ tally

-- ---- the loop
-- what was wanted of the answer is what a batch says, and no more lines come than there are turns left
pub record IsHalfway (h : Head) (start now : Stream) (above : ℕ) (ns : List Node) (squares : List Square) (t : Tally) (turns : ℕ) : Type 0 where
  pub got : List ℕ
  pub consumes : Consumes start.left now.left got
  pub same : (more : Bool) (rest : List ℕ) → after_root h (coming_in more answer_limit start.lines (got ++ rest)) ≡ says h above ns squares t (coming_in more answer_limit now.lines rest)
  pub count : AreTaken start.lines now.lines got
  pub calm : IsCalm start now
  pub needed : lines_fault h above ns ≡ None → IsNeeded answer_limit (after_root h) TooLong start.lines got
  pub ahead : IsBatchRead (after_root h) start now got (length ns)
  pub few : (more : Bool) (rest : List ℕ) → length (coming_in more answer_limit now.lines rest).input.lines + turns ≤ 2 ^ 30

-- before the first line
pub halfway_begins : (h : Head) (start : Stream) (above : ℕ) (ns : List Node) (squares : List Square) (t : Tally) → ns ≡ [] → squares ≡ root_of h.instance ∷ [] → t ≡ tally_of [] → IsHalfway h start start above ns squares t 0
halfway_begins h start above ns squares t en es et = record {
  got = [];
  consumes = Consumes-none start.left;
  same = λ more rest.
      let r = coming_in more answer_limit start.lines rest in
      ap (λ (k : Tally). items_at h (root_of h.instance ∷ []) k r) (sym (ap (λ (k : Tally). tally_sum k (tally_of [])) et ∙ joined-nothing (tally_of [])))
      ∙ ap (λ (l : List Square). says h above [] l t r) (sym es)
      ∙ ap (λ (l : List Node). says h above l squares t r) (sym en);
  count = omega arith;
  calm = calm-none start;
  needed = λ _. inl refl;
  ahead = subst (IsBatchRead (after_root h) start start []) (sym (ap length en)) (batch_begins (after_root h) start start [] (inl refl));
  few = λ more rest. omega (arith, few_lines (answer_limit - start.lines.read) (start.lines.ahead ++ rest));
}

-- the number of a line is one more than that of the line before
pub next_line : (now after : Stream) (item : Item) → Read (formed item_form) now after (Ok item) → after.lines.line ≡ now.lines.line + 1
next_line now after item read = ap (λ (r : Coming). r.line) (formed-next item_form (coming_in false answer_limit now.lines (read.got ++ [])) item (coming_in false answer_limit after.lines []) (read.reads false [])).rest

-- what isn't a fault
abbrev IsNoFault : Result Accepted CheckError → Type 0
IsNoFault (Ok accepted) = ⊤
IsNoFault (Err (Fault fault)) = ⊥
IsNoFault (Err TooLong) = ⊤
IsNoFault (Err ReadFault) = ⊤
IsNoFault (Err NoMemory) = ⊤

-- where something else is said than a fault, there is none
is_clear : (o : Option CheckFault) (x y : Result Accepted CheckError) → unless_fault o x ≡ y → IsNoFault y → o ≡ None
is_clear None x y says other = refl
is_clear (Some fault) x y says other = absurd (subst IsNoFault (sym says) other)

-- what comes after this line where no more was read yet, or where the input ends
abbrev bare : Bool → ℕ → Coming
bare goes_on line = record { input = record { lines = []; partial = []; goes_on = goes_on }; line = line }

module _ (h : Head) (start now after : Stream) (above : ℕ) (ns : List Node) (squares : List Square) (t : Tally) (turns : ℕ) (half : IsHalfway h start now above ns squares t turns) where
  -- an item was read
  item_says : (item : Item) (read : Read (formed item_form) now after (Ok item)) (more : Bool) (rest : List ℕ)
      → after_root h (coming_in more answer_limit start.lines ((half.got ++ read.got) ++ rest)) ≡ says_with h above ns squares t item (coming_in more answer_limit after.lines rest)
  item_says item read more rest =
      let k = (progress_past ns squares t).tally in
      ap (λ l. after_root h (coming_in more answer_limit start.lines l)) (append_assoc half.got read.got rest)
      ∙ half.same more (read.got ++ rest)
      ∙ ap (unless_fault (lines_fault h above ns))
      (items_begin h squares k (coming_in more answer_limit now.lines (read.got ++ rest))
      ∙ ap (λ x. read_ok x (λ n. item_at h squares k n.0 n.1)) (read.reads more rest))

  -- where no line of the batch has a fault, all that was read was needed
  needed_more : lines_fault h above ns ≡ None → (got : List ℕ) → IsNeeded answer_limit (formed item_form) TextTooLong now.lines got → IsNeeded answer_limit (after_root h) TooLong start.lines (half.got ++ got)
  needed_more clear got (inl none) = needed-kept answer_limit (after_root h) TooLong start.lines half.got got none (half.needed clear)
  needed_more clear got (inr last) =
      let k = (progress_past ns squares t).tally in
      needed-last answer_limit (after_root h) TooLong (formed item_form) TextTooLong start.lines now.lines half.got got half.count
      (λ front is.
      let r = coming_in true answer_limit now.lines front in
      half.same true front
      ∙ ap (λ (o : Option CheckFault). unless_fault o (items_at h squares k r)) clear
      ∙ items_begin h squares k r
      ∙ ap (λ x. read_ok x (λ n. item_at h squares k n.0 n.1)) is)
      last

  -- where what was taken has no fault, no line before has one
  clear_before : (item : Item) (line above' : ℕ) (ns' : List Node) (squares' : List Square) (t' : Tally) → TakesItem line (says_with h above ns squares t item) (says h above' ns' squares' t') None
      → lines_fault h above' ns' ≡ None → lines_fault h above ns ≡ None
  clear_before item line above' ns' squares' t' takes clear =
      let r = bare true line in
      is_clear (lines_fault h above ns) (at_item h (progress_past ns squares t) r (λ next. items_of h next r r.input.lines) (Some item)) (Err TooLong)
      (takes r refl ∙ ap (λ (o : Option CheckFault). unless_fault o (items_of h (progress_past ns' squares' t') r [])) clear)
      tt

  -- a line was taken
  pub halfway_more : (m : Mark) → Read (formed item_form) now after (Ok (NodeItem m)) → (line : ℕ) → line ≡ after.lines.line
      → (above' : ℕ) (ns' : List Node) (squares' : List Square) (t' : Tally) → TakesItem line (says_with h above ns squares t (NodeItem m)) (says h above' ns' squares' t') None → Grows ns ns'
      → IsHalfway h start after above' ns' squares' t' (turns + 1)
  halfway_more m read line here above' ns' squares' t' takes grows =
      let got = half.got ++ read.got in
      let needed : lines_fault h above' ns' ≡ None → IsNeeded answer_limit (after_root h) TooLong start.lines got
      = λ clear. needed_more (clear_before (NodeItem m) line above' ns' squares' t' takes clear) read.got read.needed in
      record {
        got = got;
        consumes = Consumes-then start.left now.left after.left half.got read.got half.consumes read.consumes;
        same = λ more rest. item_says (NodeItem m) read more rest ∙ takes (coming_in more answer_limit after.lines rest) (sym here);
        count = omega (arith, half.count, read.count, length-append half.got read.got);
        calm = calm-then start now after half.calm read.counts;
        needed = needed;
        ahead = grown read ns' grows needed;
        few = fewer now after turns (NodeItem m) half.few read;
      }
    where
      grown : (read : Read (formed item_form) now after (Ok (NodeItem m))) (ns' : List Node) → Grows ns ns'
          → (lines_fault h above' ns' ≡ None → IsNeeded answer_limit (after_root h) TooLong start.lines (half.got ++ read.got))
          → IsBatchRead (after_root h) start after (half.got ++ read.got) (length ns')
      grown read ns' (inl one) needed =
          subst (IsBatchRead (after_root h) start after (half.got ++ read.got)) (sym one) (batch_more (after_root h) start now half.got (length ns) half.ahead after (NodeItem m) read)
      grown read ns' (inr none) needed =
          subst (IsBatchRead (after_root h) start after (half.got ++ read.got)) (sym (ap length none))
          (batch_begins (after_root h) start after (half.got ++ read.got) (needed (ap (lines_fault h above') none)))

  -- a fault was found
  pub halfway_fault : length ns ≤ 65536 → (item : Item) → Read (formed item_form) now after (Ok item) → (line : ℕ) → line ≡ after.lines.line → (fault : CheckFault)
      → ((r : Coming) → r.line ≡ line → says_with h above ns squares t item r ≡ Err (Fault fault)) → IsStoppedAt (after_root h) start after (Fault fault)
  halfway_fault few item read line here fault is = record {
    got = half.got ++ read.got;
    consumes = Consumes-then start.left now.left after.left half.got read.got half.consumes read.consumes;
    ahead = ahead_read (after_root h) start now half.got (length ns) half.ahead read.got read.needed few;
    stops = inl (λ more rest. item_says item read more rest ∙ is (coming_in more answer_limit after.lines rest) (sym here));
    counts = (calm-then start now after half.calm read.counts).later;
  }

  clear_at_end : (line : ℕ) (u : Tally) → Closes line h (says_with h above ns squares t End) (Ok u) → lines_fault h above ns ≡ None
  clear_at_end line u closes =
      let r = bare false line in
      is_clear (lines_fault h above ns) (at_item h (progress_past ns squares t) r (λ next. items_of h next r r.input.lines) (Some End)) (at_last h u r) (closes r refl) tt

  -- the last line was read
  pub halfway_ends : Read (formed item_form) now after (Ok End) → (line : ℕ) → line ≡ after.lines.line → (u : Tally) → Closes line h (says_with h above ns squares t End) (Ok u) → IsPast (after_root h) (at_last h u) start after
  halfway_ends read line here u closes = record {
    got = half.got ++ read.got;
    consumes = Consumes-then start.left now.left after.left half.got read.got half.consumes read.consumes;
    needed = needed_more (clear_at_end line u closes) read.got read.needed;
    same = λ more rest. item_says End read more rest ∙ closes (coming_in more answer_limit after.lines rest) (sym here);
    count = omega (arith, half.count, read.count, length-append half.got read.got);
    calm = calm-then start now after half.calm read.counts;
  }

-- the source's count didn't fall in a call of the reader
later_text : (b c : Stream) (e : AnswerError) → TextBlamesAs b c e → b.faults ≤ c.faults
later_text b c (Form line) h = h.later
later_text b c BadInstance h = h.later
later_text b c TextTooLong h = h.later
later_text b c TextReadFault h = h.0
later_text b c TextNoMemory h = h.later

-- a line that couldn't be read, after lines that have a fault or have none
pub halfway_stops : (h : Head) (start now after : Stream) (above : ℕ) (ns : List Node) (squares : List Square) (t : Tally) (turns : ℕ) → IsHalfway h start now above ns squares t turns → length ns ≤ 65536
    → (e : AnswerError) → Read (formed item_form) now after (Err e) → (o : Option CheckFault) → o ≡ lines_fault h above ns → (x : CheckError) → MatchOption o (x ≡ error_of e) (λ fault. x ≡ Fault fault) → IsStoppedAt (after_root h) start after x
halfway_stops h start now after above ns squares t turns half few e read None none x is =
    let k = (progress_past ns squares t).tally in
    let past : IsPast (after_root h) (items_at h squares k) start now = record {
      got = half.got;
      consumes = half.consumes;
      needed = half.needed (sym none);
      same = λ more rest. half.same more rest ∙ ap (λ (o : Option CheckFault). unless_fault o (items_at h squares k (coming_in more answer_limit now.lines rest))) (sym none);
      count = half.count;
      calm = half.calm;
    } in
    subst (IsStoppedAt (after_root h) start after) (sym is)
    (of_stopped (after_root h) start after (error_of e)
    (past_stopped (after_root h) (items_at h squares k) start now after past (error_of e)
    (part_error (items_at h squares k) (formed item_form) (λ n. item_at h squares k n.0 n.1) (items_begin h squares k) now after e read.got read.consumes read.needed read.reads read.counts)))
halfway_stops h start now after above ns squares t turns half few e read (Some fault) some x is =
    let k = (progress_past ns squares t).tally in
    subst (IsStoppedAt (after_root h) start after) (sym is)
    (record {
      got = half.got ++ read.got;
      consumes = Consumes-then start.left now.left after.left half.got read.got half.consumes read.consumes;
      ahead = ahead_read (after_root h) start now half.got (length ns) half.ahead read.got read.needed few;
      stops = inl (λ more rest.
          ap (λ l. after_root h (coming_in more answer_limit start.lines l)) (append_assoc half.got read.got rest)
          ∙ half.same more (read.got ++ rest)
          ∙ ap (λ (o : Option CheckFault). unless_fault o (items_at h squares k (coming_in more answer_limit now.lines (read.got ++ rest)))) (sym some));
      counts = omega (arith, half.calm.later, later_text now after e read.counts);
    })

-- no more turns are left, and no more lines
pub halfway_over : (h : Head) (start now : Stream) (above : ℕ) (ns : List Node) (squares : List Square) (t : Tally) (turns : ℕ) → IsHalfway h start now above ns squares t turns → 2 ^ 30 < turns → ⊥
halfway_over h start now above ns squares t turns half over = omega (arith, over, half.few false [])
