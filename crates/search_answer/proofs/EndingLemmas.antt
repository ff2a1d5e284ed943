-- The answer of a search that ended is valid, it is that of the search, and it shows its work.
use Rattle.std.proofs.Common.{◌≡◌, ℕ, ◌+◌, ◌*◌, ◌<◌, ◌≤◌, ◌==◌, ℤ, Bool, true, false, cond, not, is_some, List, [], ◌∷◌, ◌++◌, map, length, Option, None, Some, refl, sym, ap, ◌∙◌, subst, arith}
use Rattle.std.specs.Prelude.{⊤, All, IsPermutation, MatchOption, option_map}
use Rattle.std.proofs.lemmas.Bool.{false≢true}
use Rattle.std.proofs.lemmas.Bool.Decides.{nat_tests}
use Rattle.std.proofs.lemmas.List.{map-append}
use Rattle.std.proofs.lemmas.List.Sorted.{IsPermutation-map, IsPermutation-trans, IsPermutation-append_comm}
use Rattle.std.proofs.lemmas.List.Sums.{count_by-le-length}
use Rattle.siting_definitions.specs.declared.Mark.{Mark}
use Rattle.siting_definitions.specs.declared.Word.{Word}
use Rattle.siting_definitions.specs.declared.Word.TheVariants.{Solved, Floor, Empty}
use Rattle.siting_definitions.specs.Point.{Pt}
use Rattle.siting_definitions.specs.Sites.{opening_cost}
use Rattle.siting_definitions.specs.Tree.{Tree, Fits, preorder}
use Rattle.siting_definitions.specs.Marks.{IsAtMost, MarksFit, AreMarks, Tally, tally_of}
use Rattle.siting_definitions.specs.Answer.{Head, IsHead, IsMark, IsPriced, upper_cost, is_solved, is_floored, is_empty, is_stopped, has_word, WordCounts, CountsFit, IsValid, WorkFits, IsWorkedBy}
use Rattle.siting_definitions.proofs.MarkLemmas.{at_most-trans}
use Rattle.discard_log.specs.declared.node.Node.{Node}
use Rattle.discard_log.specs.Nodes.{tree_square}
use Rattle.bound_heap.specs.declared.entry.Entry.{Entry}
use Rattle.discard_log.specs.Nodes.{mark_of}
use Rattle.pool_core.specs.declared.stop.Stop.{Stop}
use Rattle.pool_core.specs.declared.stop.Stop.TheVariants.{PoolFull as FullStop, Budget as BudgetStop}
use Rattle.pool_core.specs.Job.{Job, IsOffer, job_root, start_cost, cost_in}
use Rattle.pool_core.specs.State.{State, entry_square, squares_of, raised_count}
use Rattle.pool_core.specs.Seats.{StopsWithin, IsKeptBy}
use Rattle.pool_core.specs.Sound as sound
use Rattle.pool_core.specs.Sound.{StopFits, IsFinished}
use Rattle.pool_core.specs.Begun.{left_of}
use Rattle.search_answer.specs.Ending.{stop_word, ending_word, open_for, offer_of, finished_node, best_by, head_by, answer_of, Finishes}
use Rattle.search_answer.proofs.FinishedMarks.{TallyFits, tally_fits, marks_fit, squares_same}
use Rattle.search_answer.proofs.SplitNodes.{splits_kept}

-- ---- the word
-- the word by three tests
abbrev word_by : Bool → Bool → Bool → Word → Word
word_by a b c stopped = cond a Empty (cond b Solved (cond c Floor stopped))

called_by : (a b c : Bool) (w : Word) → is_stopped w ≡ true → cond a (is_empty (word_by a b c w)) (cond b (is_solved (word_by a b c w)) (cond c (is_floored (word_by a b c w)) (is_stopped (word_by a b c w)))) ≡ true
called_by true b c w h = refl
called_by false true c w h = refl
called_by false false true w h = refl
called_by false false false w h = h

stop_called : (stop : Option Stop) → is_stopped (stop_word stop) ≡ true
stop_called None = refl
stop_called (Some (FullStop count)) = refl
stop_called (Some (BudgetStop leases)) = refl

word_called : (t : Tally) (stop : Option Stop) → has_word (ending_word t stop) t ≡ true
word_called t stop =
    called_by (not (is_some t.least)) (t.open_leaves + t.floor_leaves == 0) (t.open_leaves == 0) (stop_word stop) (stop_called stop)

-- ---- the counts of a stop
-- what a head counts where a leaf is left open
abbrev StopCounts : Head → Tally → Option Stop → Type 0
StopCounts h t None = ⊥
StopCounts h t (Some (FullStop count)) = (1 ≤ count) × (count ≤ h.pool) × (h.pool < count + 3) × (count ≤ t.leaves)
StopCounts h t (Some (BudgetStop leases)) = h.leases ≡ h.budget

stop_counted : (h : Head) (t : Tally) (stop : Option Stop) → h.open_count ≡ open_for (stop_word stop) stop → StopCounts h t stop → WordCounts h t (stop_word stop)
stop_counted h t None e counts = absurd counts
stop_counted h t (Some (FullStop count)) e counts = (omega (arith, counts.0), omega (arith, counts.1), omega (arith, counts.2), omega (arith, counts.3))
stop_counted h t (Some (BudgetStop leases)) e counts = (counts, e)

counted_by : (a b c : Bool) (h : Head) (t : Tally) (stop : Option Stop) → h.open_count ≡ open_for (word_by a b c (stop_word stop)) stop → (c ≡ false → StopCounts h t stop) → WordCounts h t (word_by a b c (stop_word stop))
counted_by true b c h t stop e counts = e
counted_by false true c h t stop e counts = e
counted_by false false true h t stop e counts = e
counted_by false false false h t stop e counts = stop_counted h t stop e (counts refl)

stopped_by : (a b c : Bool) (h : Head) (t : Tally) (stop : Option Stop) → (c ≡ false → StopCounts h t stop) → is_stopped (word_by a b c (stop_word stop)) ≡ true → is_some stop ≡ true
stopped_by true b c h t stop counts e = absurd (false≢true e)
stopped_by false true c h t stop counts e = absurd (false≢true e)
stopped_by false false true h t stop counts e = absurd (false≢true e)
stopped_by false false false h t None counts e = absurd (counts refl)
stopped_by false false false h t (Some stop) counts e = refl

-- what a head shows of the work where a leaf is left open
abbrev StopWork : Head → Tally → ℕ → Option Stop → Type 0
StopWork h t workers None = ⊥
StopWork h t workers (Some (FullStop count)) = h.leases + t.open_leaves ≤ 2 * t.nodes + workers
StopWork h t workers (Some (BudgetStop leases)) = h.leases + t.open_leaves + 1 ≤ 2 * t.nodes + workers

stop_worked : (h : Head) (t : Tally) (workers : ℕ) (stop : Option Stop) → StopWork h t workers stop → WorkFits h t workers (stop_word stop)
stop_worked h t workers None work = absurd work
stop_worked h t workers (Some (FullStop count)) work = work
stop_worked h t workers (Some (BudgetStop leases)) work = work

worked_by : (a b c : Bool) (h : Head) (t : Tally) (workers : ℕ) (stop : Option Stop) → (c ≡ false → StopWork h t workers stop) → WorkFits h t workers (word_by a b c (stop_word stop))
worked_by true b c h t workers stop work = tt
worked_by false true c h t workers stop work = tt
worked_by false false true h t workers stop work = tt
worked_by false false false h t workers stop work = stop_worked h t workers stop (work refl)

-- ---- the state in which a search ended
open_left : (n : ℕ) → (n == 0) ≡ false → 0 < n
open_left n h = grind (arith, nat_tests)

-- nothing is leased, and without a stop nothing waits
pub record IsEnded (s : State) : Type 0 where
  pub sound : sound.SearchCountsFit s
  pub stop_fits : StopFits s s.stop
  pub leased : s.leased ≡ []
  pub ended : s.stop ≡ None → s.waiting ≡ []

abbrev head_at : State → Option (Pt × ℤ) → Tally → Head
head_at s best t = head_by s.job best t s.stop s.leases

stop_counts : (s : State) (best : Option (Pt × ℤ)) (t : Tally) (stop : Option Stop) → TallyFits t s.nodes s.waiting → length s.leased ≡ 0 → StopFits s stop → (stop ≡ None → s.waiting ≡ []) → 0 < t.open_leaves → StopCounts (head_at s best t) t stop
stop_counts s best t None tally leased fits ended some = omega (arith, tally.open_leaves, ap length (ended refl))
stop_counts s best t (Some (FullStop count)) tally leased fits ended some = (fits.0, fits.1, fits.2, omega (arith, fits.3, tally.leaves, leased))
stop_counts s best t (Some (BudgetStop leases)) tally leased fits ended some = fits.1

-- the leases, but for those whose parts were kept
leases_most : (s : State) → IsEnded s → s.leases ≤ 2 * length s.nodes + raised_count s.waiting + s.kept
leases_most s h =
    let none : length s.leased ≡ 0 = ap length h.leased in
    let none_raised : raised_count s.leased ≡ 0 = ap raised_count h.leased in
    omega (arith, h.sound.begun, h.sound.work)

raised_most : (s : State) → raised_count s.waiting ≤ length s.waiting
raised_most s = count_by-le-length (λ (e : Entry). e.raised) s.waiting

stop_work : (s : State) (best : Option (Pt × ℤ)) (t : Tally) (workers : ℕ) (stop : Option Stop) → TallyFits t s.nodes s.waiting → IsEnded s → StopsWithin workers (s.kept + length s.leased) stop → (stop ≡ None → s.waiting ≡ []) → 0 < t.open_leaves → StopWork (head_at s best t) t workers stop
stop_work s best t workers None tally h kept ended some = omega (arith, tally.open_leaves, ap length (ended refl))
stop_work s best t workers (Some (FullStop count)) tally h kept ended some = omega (arith, kept, tally.nodes, tally.open_leaves, leases_most s h, raised_most s)
stop_work s best t workers (Some (BudgetStop leases)) tally h kept ended some = omega (arith, kept, tally.nodes, tally.open_leaves, leases_most s h, raised_most s)

ending_counts : (s : State) (best : Option (Pt × ℤ)) (t : Tally) → TallyFits t s.nodes s.waiting → IsEnded s → CountsFit (head_at s best t) t
ending_counts s best t tally h =
    let none : length s.leased ≡ 0 = ap length h.leased in
    record {
      at_most_budget = h.sound.budget;
      at_most_two_each = omega (arith, tally.nodes, leases_most s h, raised_most s, h.sound.kept);
      at_least_splits = omega (arith, tally.splits, h.sound.leased);
      word = counted_by (not (is_some t.least)) (t.open_leaves + t.floor_leaves == 0) (t.open_leaves == 0) (head_at s best t) t s.stop refl
          (λ some. stop_counts s best t s.stop tally none h.stop_fits h.ended (open_left t.open_leaves some));
    }

ending_works : (s : State) (best : Option (Pt × ℤ)) (t : Tally) (workers : ℕ) → TallyFits t s.nodes s.waiting → IsEnded s → IsKeptBy s workers → WorkFits (head_at s best t) t workers (ending_word t s.stop)
ending_works s best t workers tally h kept =
    worked_by (not (is_some t.least)) (t.open_leaves + t.floor_leaves == 0) (t.open_leaves == 0) (head_at s best t) t workers s.stop
    (λ some. stop_work s best t workers s.stop tally h kept h.ended (open_left t.open_leaves some))

ending_stopped : (s : State) (best : Option (Pt × ℤ)) (t : Tally) → TallyFits t s.nodes s.waiting → IsEnded s → is_stopped (ending_word t s.stop) ≡ true → is_some s.stop ≡ true
ending_stopped s best t tally h =
    let none : length s.leased ≡ 0 = ap length h.leased in
    stopped_by (not (is_some t.least)) (t.open_leaves + t.floor_leaves == 0) (t.open_leaves == 0) (head_at s best t) t s.stop
    (λ some. stop_counts s best t s.stop tally none h.stop_fits h.ended (open_left t.open_leaves some))

-- ---- the best site
best_priced : (j : Job) (best : Option (Pt × ℤ)) → MatchOption best ⊤ (λ z. IsOffer j.instance z.0 z.1) → MatchOption (best_by j.instance best) ⊤ (IsPriced j.instance)
best_priced j None h = tt
best_priced j (Some b) h = record { permitted = h.permitted; lower = refl; upper = refl }

upper_is : (j : Job) (best : Option (Pt × ℤ)) → MatchOption best ⊤ (λ z. IsOffer j.instance z.0 z.1) → upper_cost (best_by j.instance best) ≡ cost_in best
upper_is j None h = refl
upper_is j (Some b) h = ap Some (sym h.cost_is)

offer_is : (j : Job) (best : Option (Pt × ℤ)) → MatchOption best ⊤ (λ z. IsOffer j.instance z.0 z.1) → option_map offer_of (best_by j.instance best) ≡ best
offer_is j None h = refl
offer_is j (Some b) h = ap (λ c. Some (b.0, c)) (sym h.cost_is)

-- ---- the squares
waiting_squares : (es : List Entry) → map tree_square (map left_of es) ≡ map entry_square es
waiting_squares [] = refl
waiting_squares (e ∷ es) = ap (λ ts. entry_square e ∷ ts) (waiting_squares es)

squares_kept : (s : State) (u : Option ℤ) (ls : List Node) → s.leased ≡ [] → IsPermutation (s.nodes ++ map left_of s.waiting) ls → IsPermutation (squares_of s) (map tree_square (map (finished_node s.job u) ls))
squares_kept s u ls none same =
    let ts = map tree_square s.nodes in
    let ws = map entry_square s.waiting in
    let parts : map tree_square (s.nodes ++ map left_of s.waiting) ≡ ts ++ ws = map-append tree_square s.nodes (map left_of s.waiting) ∙ ap (λ xs. ts ++ xs) (waiting_squares s.waiting) in
    let whole : squares_of s ≡ ws ++ ts = ap (λ es. ws ++ (map entry_square es ++ ts)) none in
    let moved : IsPermutation (ts ++ ws) (map tree_square ls) = subst (λ xs. IsPermutation xs (map tree_square ls)) parts (IsPermutation-map tree_square (s.nodes ++ map left_of s.waiting) ls same) in
    rw (whole, squares_same s.job u ls) (IsPermutation-trans (ws ++ ts) (ts ++ ws) (map tree_square ls) (IsPermutation-append_comm ws ts) moved)

-- ---- the answer
-- a search that ended, and its nodes, with each waiting square left open, in preorder where they are the squares of one tree
pub record IsListed (j : Job) (s : State) (best : Option (Pt × ℤ)) (ls : List Node) : Type 0 where
  pub finished : IsFinished j s best
  pub nodes : IsPermutation (s.nodes ++ map left_of s.waiting) ls
  pub preorder_is : (t : Tree) → Fits t (job_root s.job).level → IsPermutation (squares_of s) (preorder t (job_root s.job)) → map tree_square ls ≡ preorder t (job_root s.job)

ended : (j : Job) (s : State) (best : Option (Pt × ℤ)) → IsFinished j s best → IsEnded s
ended j s best h = record {
  sound = h.sound.consistent.counts;
  stop_fits = h.sound.consistent.stop_fits;
  leased = h.leased;
  ended = h.ended;
}

-- the marks and the tally of the answer
abbrev marks_at : Job → Option (Pt × ℤ) → List Node → List Mark
marks_at j best ls = map mark_of (map (finished_node j (cost_in best)) ls)

marks_tallied : (s : State) (best : Option (Pt × ℤ)) (ls : List Node) → IsListed s.job s best ls → TallyFits (tally_of (marks_at s.job best ls)) s.nodes s.waiting
marks_tallied s best ls h =
    tally_fits s.job (cost_in best) s.nodes ls s.waiting h.finished.sound.nodes h.nodes

-- the nodes are in the preorder of the tree, and their marks fit it
marks_ordered : (s : State) (best : Option (Pt × ℤ)) (ls : List Node) → IsListed s.job s best ls
    → (t : Tree) × (map tree_square (map (finished_node s.job (cost_in best)) ls) ≡ preorder t (job_root s.job)) × AreMarks s.job.instance s.job.gap (cost_in best) t (job_root s.job) (marks_at s.job best ls)
marks_ordered s best ls h =
    let u = cost_in best in
    let tree = h.finished.sound.consistent.tree in
    let order = h.preorder_is tree.0 tree.1 tree.2 in
    let fits : MarksFit s.job.instance s.job.gap u (preorder tree.0 (job_root s.job)) (marks_at s.job best ls) = subst (λ ts. MarksFit s.job.instance s.job.gap u ts (marks_at s.job best ls)) order
    (marks_fit s.job u s.nodes ls s.waiting h.finished.sound.nodes h.nodes) in
    (tree.0, squares_same s.job u ls ∙ order, (tree.1, fits))

marks_valid : (s : State) (best : Option (Pt × ℤ)) (ls : List Node) → IsListed s.job s best ls
    → (t : Tree) × AreMarks s.job.instance s.job.gap (upper_cost (best_by s.job.instance best)) t (job_root s.job) (marks_at s.job best ls)
marks_valid s best ls h =
    let ordered = marks_ordered s best ls h in
    rw (upper_is s.job best h.finished.best_is) (ordered.0, ordered.2)

answer_valid : (s : State) (best : Option (Pt × ℤ)) (ls : List Node) → IsListed s.job s best ls → IsHead (head_at s best (tally_of (marks_at s.job best ls))) → All IsMark (marks_at s.job best ls)
    → IsValid (record { head = head_at s best (tally_of (marks_at s.job best ls)); marks = marks_at s.job best ls })
answer_valid s best ls h ranges mark_ranges =
    let t = tally_of (marks_at s.job best ls) in
    record {
      ranges = ranges;
      mark_ranges = mark_ranges;
      head = record {
        best = best_priced s.job best h.finished.best_is;
        opening = subst (λ u. MatchOption (opening_cost s.job.instance) ⊤ (IsAtMost u)) (sym (upper_is s.job best h.finished.best_is))
            (at_most-trans (cost_in best) (start_cost s.job) (opening_cost s.job.instance) h.finished.sound.start h.finished.sound.job.opening);
      };
      tree = marks_valid s best ls h;
      end_fits = record {
        bound = refl;
        word = word_called t s.stop;
        counts = ending_counts s best t (marks_tallied s best ls h) (ended s.job s best h.finished);
      };
    }

answer_finishes : (s : State) (best : Option (Pt × ℤ)) (ls : List Node) → IsListed s.job s best ls → IsHead (head_at s best (tally_of (marks_at s.job best ls))) → All IsMark (marks_at s.job best ls)
    → Finishes s.job s best (head_at s best (tally_of (marks_at s.job best ls))) (map (finished_node s.job (cost_in best)) ls)
answer_finishes s best ls h ranges mark_ranges = record {
  valid = answer_valid s best ls h ranges mark_ranges;
  instance = refl;
  gap = refl;
  budget = refl;
  pool = refl;
  best_is = offer_is s.job best h.finished.best_is;
  leases = refl;
  word = refl;
  stopped = ending_stopped s best (tally_of (marks_at s.job best ls)) (marks_tallied s best ls h) (ended s.job s best h.finished);
  open_count = refl;
  squares = squares_kept s (cost_in best) ls h.finished.leased h.nodes;
  open_most = (marks_tallied s best ls h).open_leaves;
  splits = splits_kept s.job (cost_in best) s.nodes ls s.waiting h.nodes;
  order = marks_ordered s best ls h;
}

answer_works : (s : State) (best : Option (Pt × ℤ)) (ls : List Node) → IsListed s.job s best ls → (workers : ℕ) → IsKeptBy s workers
    → IsWorkedBy (record { head = head_at s best (tally_of (marks_at s.job best ls)); marks = marks_at s.job best ls }) workers
answer_works s best ls h workers kept =
    ending_works s best (tally_of (marks_at s.job best ls)) workers (marks_tallied s best ls h) (ended s.job s best h.finished) kept

-- the head and the nodes that are made of a search that ended
pub record IsMade (j : Job) (s : State) (best : Option (Pt × ℤ)) (ls : List Node) (h : Head) (ns : List Node) : Type 0 where
  pub listed : IsListed j s best ls
  pub nodes : ns ≡ map (finished_node j (cost_in best)) ls
  pub head : h ≡ head_by j best (tally_of (map mark_of ns)) s.stop s.leases

made_head : (j : Job) (s : State) (best : Option (Pt × ℤ)) (ls : List Node) (h : Head) (ns : List Node) → IsMade j s best ls h ns → h ≡ head_by j best (tally_of (marks_at j best ls)) s.stop s.leases
made_head j s best ls h ns made =
    made.head ∙ ap (λ ks. head_by j best (tally_of (map mark_of ks)) s.stop s.leases) made.nodes

-- the head and the nodes that are made are the answer of the search
pub finishes : (j : Job) (s : State) (best : Option (Pt × ℤ)) (ls : List Node) (h : Head) (ns : List Node) → IsMade j s best ls h ns → IsHead h → All IsMark (map mark_of ns) → Finishes j s best h ns
finishes j s best ls h ns made ranges mark_ranges =
    let head = made_head j s best ls h ns made in
    let P : Job → Type 0 = λ k.
    IsListed k s best ls → IsHead (head_by k best (tally_of (marks_at k best ls)) s.stop s.leases) → All IsMark (marks_at k best ls)
    → Finishes k s best (head_by k best (tally_of (marks_at k best ls)) s.stop s.leases) (map (finished_node k (cost_in best)) ls) in
    rw (head, made.nodes)
    (subst P made.listed.finished.job (answer_finishes s best ls) made.listed (subst IsHead head ranges) (subst (λ ks. All IsMark (map mark_of ks)) made.nodes mark_ranges))

-- and show its work
pub works : (j : Job) (s : State) (best : Option (Pt × ℤ)) (ls : List Node) (h : Head) (ns : List Node) → IsMade j s best ls h ns → (workers : ℕ) → IsKeptBy s workers → IsWorkedBy (answer_of h ns) workers
works j s best ls h ns made workers kept =
    let head = made_head j s best ls h ns made in
    let P : Job → Type 0 = λ k.
    IsListed k s best ls → IsWorkedBy (record { head = head_by k best (tally_of (marks_at k best ls)) s.stop s.leases; marks = marks_at k best ls }) workers in
    let shown = subst P made.listed.finished.job (λ listed. answer_works s best ls listed workers kept) made.listed in
    subst (λ (k : Head). IsWorkedBy (answer_of k ns) workers) (sym head)
    (subst (λ ks. IsWorkedBy (answer_of (head_by j best (tally_of (marks_at j best ls)) s.stop s.leases) ks) workers) (sym made.nodes) shown)
