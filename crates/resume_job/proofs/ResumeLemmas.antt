-- The answer of a search that began from another answer's nodes is resumed from it, and shows its work.
use Rattle.std.proofs.Common.{◌≡◌, ℕ, ◌+◌, ◌*◌, ◌≤◌, ◌==◌, Bool, true, false, cond, not, ◌&&◌, ℤ, List, [], ◌∷◌, ◌++◌, map, length, filter, count_by, Option, None, Some, refl, sym, ap, ◌∙◌, subst, ◌⊎◌, inl, inr, length-append, arith}
use Rattle.std.specs.Prelude.{All, Contains, MatchOption, ⊤, is_some, slice_index_or}
use Rattle.std.specs.List.Sorted.{IsPermutation}
use Rattle.std.proofs.lemmas.Bool.{cases_Bool, false≢true, true≢false}
use Rattle.std.proofs.lemmas.List.{length-map}
use Rattle.std.proofs.lemmas.List.Sums.{length-filter, count_by-le-length}
use Rattle.std.proofs.lemmas.List.Elements.{All-contains, Contains-append_left}
use Rattle.std.proofs.lemmas.List.Sorted.{Contains-permutation}
use Rattle.siting_definitions.specs.declared.Mark.{Mark}
use Rattle.siting_definitions.specs.declared.Mark.TheVariants.{Split, Shut, Bounded, Floor as FloorMark, Left}
use Rattle.siting_definitions.specs.declared.Word.{Word}
use Rattle.siting_definitions.specs.declared.Word.TheVariants.{Solved, PoolFull, Budget, Floor, Empty}
use Rattle.siting_definitions.specs.Point.{Pt}
use Rattle.siting_definitions.specs.Square.{Square}
use Rattle.siting_definitions.specs.Sites.{root_of}
use Rattle.siting_definitions.specs.Tree.{Tree, TreeSquare, preorder}
use Rattle.siting_definitions.specs.Marks.{IsAtMost, AreMarks, Tally, tally_of, is_split, is_open, is_leaf}
use Rattle.siting_definitions.specs.Answer.{Head, Answer, IsValid, upper_cost, is_stopped}
use Rattle.siting_definitions.proofs.MarkLemmas.{leaf-not_split}
use Rattle.site_model.proofs.Rooted.{IsSquare-root}
use Rattle.dyadic_square.specs.Walk.{Walks, coming_after}
use Rattle.dyadic_square.proofs.Bag.{total, once, total-append, total-length, total-permutation, count_by-total}
use Rattle.dyadic_square.proofs.Trees.{same_tree_square, same_square, split_at}
use Rattle.dyadic_square.proofs.Walks.{walk-preorder}
use Rattle.discard_log.specs.declared.node.Node.{Node}
use Rattle.discard_log.specs.Nodes.{mark_of, tree_square}
use Rattle.bound_heap.specs.declared.entry.Entry.{Entry}
use Rattle.answer_model.specs.Nodes.{nodes_in_order, nodes_of}
use Rattle.answer_model.proofs.NodesLemmas.{valid-nodes}
use Rattle.pool_core.specs.declared.stop.Stop.{Stop}
use Rattle.pool_core.specs.declared.stop.Stop.TheVariants.{PoolFull as FullStop, Budget as BudgetStop}
use Rattle.pool_core.specs.Begun.{closed_nodes, is_left_open, left_count}
use Rattle.pool_core.specs.Job.{Job, cost_in, start_cost}
use Rattle.pool_core.specs.Seats.{IsKeptBy, StopsWithin}
use Rattle.pool_core.specs.Sound.{StopFits}
use Rattle.pool_core.specs.State.{State, entry_square, squares_of, split_count, unsplit_count, raised_count}
use Rattle.pool_core.proofs.BegunLemmas.{total-halves, closed_length}
use Rattle.pool_core.proofs.CountsKept.{length-permutation}
use Rattle.search_answer.specs.Ending.{answer_of, ending_word, open_for, split_nodes}
use Rattle.resume_job.specs.Loading.{AreOfValid}
use Rattle.resume_job.specs.Reopening.{HaveRoom, IsResumption}
use Rattle.resume_job.specs.Resumed.{GoesOn, IsResumed, IsResumedBy, LeavesFit, ResumedWorkFits, closed_leaves_of, shown_leases, is_among, is_open_among}
use Rattle.resume_job.proofs.ReopenLemmas.{count_by-marks, start_is}
use Rattle.resume_job.proofs.GrownLemmas.{IsGrown, IsNoHigher, AreSplitIn, bound_grows, grown, tree_of_one}
use Rattle.resume_job.proofs.MatchLemmas.{StandOnce, among_count, among_most, stayed_most, stayed_open, still_open, total-filter, total-split, tree_once}
use Rattle.resume_job.proofs.TurnLemmas.{passes, passing, passed_there}

-- ---- nodes that are a tree in preorder
-- nodes whose squares are read in preorder are those of their marks
walked_nodes : (squares : List Square) (ns : List Node) → Walks squares (map tree_square ns) → nodes_in_order squares (map mark_of ns) ≡ ns
walked_nodes [] [] walk = refl
walked_nodes [] (n ∷ ns) walk = absurd walk
walked_nodes (s ∷ squares) [] walk = refl
walked_nodes (s ∷ squares) (n ∷ ns) walk =
    let rest = walked_nodes (coming_after s (is_split n.mark) squares) ns walk.2 in
    ap (λ (q : Square). record { square = q; mark = n.mark } ∷ nodes_in_order (coming_after s (is_split n.mark) squares) (map mark_of ns)) (sym walk.0)
    ∙ ap (λ (ks : List Node). n ∷ ks) rest

-- ---- marks
open_unsplit : (m : Mark) → is_open m ≡ true → is_split m ≡ false
open_unsplit (Split v) e = absurd (false≢true e)
open_unsplit Shut e = refl
open_unsplit (Bounded b) e = refl
open_unsplit (FloorMark b) e = refl
open_unsplit (Left b) e = refl

split_closed : (m : Mark) → is_split m ≡ true → not (is_open m) ≡ true
split_closed (Split v) e = refl
split_closed Shut e = absurd (false≢true e)
split_closed (Bounded b) e = absurd (false≢true e)
split_closed (FloorMark b) e = absurd (false≢true e)
split_closed (Left b) e = absurd (false≢true e)

-- ---- totals
total-map : {X Y : Type 0} (f : Y → ℕ) (g : X → Y) (xs : List X) → total f (map g xs) ≡ total (λ x. f (g x)) xs
total-map f g [] = refl
total-map f g (x ∷ xs) = ap (λ k. f (g x) + k) (total-map f g xs)

none_passed : {X : Type 0} (g : X → ℕ) (p : X → Bool) → ((x : X) → p x ≡ true → g x ≡ 0) → (xs : List X) → total g (filter p xs) ≡ 0
none_passed g p none [] = refl
none_passed {X = X} g p none (x ∷ xs) = by_test (none_passed g p none xs) (cases_Bool (p x))
  where
    by_test : total g (filter p xs) ≡ 0 → ((p x ≡ true) ⊎ (p x ≡ false)) → total g (cond (p x) (x ∷ filter p xs) (filter p xs)) ≡ 0
    by_test rest (inl here) = rw here (omega (arith, none x here, rest))
    by_test rest (inr gone) = rw gone rest

-- ---- what the search did
-- The answer's nodes and the finished state: no logged node was lost, and what the counts say.
pub record IsFollowed (ns : List Node) (s : State) (ms : List Node) : Type 0 where
  pub later : List Node
  pub nodes : s.nodes ≡ closed_nodes ns ++ later
  pub leased : s.leased ≡ []
  pub squares : IsPermutation (squares_of s) (map tree_square ms)
  pub work : s.leases + (2 * length (closed_nodes ns) + left_count ns) ≤ 2 * length s.nodes + length s.waiting + s.kept + split_count ns
  pub kept : s.kept ≤ length s.waiting

followed : (h : Head) (ns : List Node) (budget pool : ℕ) (s : State) (best : Option (Pt × ℤ)) (after : Head) (ms : List Node) → IsResumption h ns budget pool s best after ms → IsFollowed ns s ms
followed h ns budget pool s best after ms r =
    let sound = r.finished.sound.consistent in
    let counts = sound.counts in
    let begun_nodes : s.beginning.nodes ≡ closed_nodes ns = ap (λ b. b.nodes) r.beginning ∙ r.begun.begun_nodes in
    let begun_raised : s.beginning.raised ≡ left_count ns = ap (λ b. b.raised) r.beginning ∙ r.begun.begun_raised in
    let begun_leases : s.beginning.leases ≡ split_count ns = ap (λ b. b.leases) r.beginning ∙ r.begun.begun_leases in
    let raised : raised_count s.waiting ≤ length s.waiting = count_by-le-length (λ (e : Entry). e.raised) s.waiting in
    let none_leased = r.finished.leased in
    let none_raised : raised_count s.leased ≡ 0 = ap raised_count none_leased in
    record {
      later = sound.begun.0;
      nodes = sound.begun.1 ∙ ap (λ (ks : List Node). ks ++ sound.begun.0) begun_nodes;
      leased = none_leased;
      squares = r.finishes.squares;
      work = omega (arith, counts.work, ap length begun_nodes, begun_raised, begun_leases, raised, ap length none_leased, none_raised);
      kept = counts.kept;
    }

-- a number of each square, over all of them
squares_total : (ns : List Node) (s : State) (ms : List Node) (f : TreeSquare → ℕ) (w : IsFollowed ns s ms) → total f (map tree_square ms) ≡ total f (map entry_square s.waiting) + (total (λ (n : Node). f (tree_square n)) (closed_nodes ns) + total (λ (n : Node). f (tree_square n)) w.later)
squares_total ns s ms f w =
    let all = total-permutation f (squares_of s) (map tree_square ms) w.squares in
    let parts = total-append f (map entry_square s.waiting) (map entry_square s.leased ++ map tree_square s.nodes) in
    let more = total-append f (map entry_square s.leased) (map tree_square s.nodes) in
    let leased : total f (map entry_square s.leased) ≡ 0 = ap (λ (es : List Entry). total f (map entry_square es)) w.leased in
    let nodes : total f (map tree_square s.nodes) ≡ total (λ (n : Node). f (tree_square n)) (closed_nodes ns ++ w.later) = total-map f tree_square s.nodes ∙ ap (total (λ (n : Node). f (tree_square n))) w.nodes in
    let both = total-append (λ (n : Node). f (tree_square n)) (closed_nodes ns) w.later in
    omega (arith, all, parts, more, leased, nodes, both)

-- a split of the answer is a split at the end
splits_stay : (ns : List Node) (s : State) (ms : List Node) → IsFollowed ns s ms → AreSplitIn (map tree_square ns) (map tree_square ms)
splits_stay ns s ms w q =
    let f : TreeSquare → ℕ = λ (x : TreeSquare). once (same_tree_square (split_at q) x) in
    let g : Node → ℕ = λ (n : Node). f (tree_square n) in
    let before : total f (map tree_square ns) ≡ total g ns = total-map f tree_square ns in
    let halves = total-halves g is_left_open ns in
    let none : total g (filter is_left_open ns) ≡ 0 = none_passed g is_left_open (λ n open_. open_differs n open_) ns in
    let after = squares_total ns s ms f w in
    omega (arith, before, halves, none, after)
  where
    differs : (same b : Bool) → b ≡ false → once (same && cond true b (not b)) ≡ 0
    differs true true e = absurd (true≢false e)
    differs true false e = refl
    differs false b e = refl

    open_differs : (n : Node) → is_open n.mark ≡ true → once (same_tree_square (split_at q) (tree_square n)) ≡ 0
    open_differs n open_ = differs (same_square q n.square) (is_split n.mark) (open_unsplit n.mark open_)

-- ---- the sizes
all_size : (ns : List Node) (s : State) (ms : List Node) → IsFollowed ns s ms → length s.nodes + length s.waiting ≡ length ms
all_size ns s ms w =
    let all = length-permutation (squares_of s) (map tree_square ms) w.squares in
    let parts = length-append (map entry_square s.waiting) (map entry_square s.leased ++ map tree_square s.nodes) in
    let more = length-append (map entry_square s.leased) (map tree_square s.nodes) in
    omega (arith, all, parts, more, length-map ms tree_square, length-map s.waiting entry_square, length-map s.leased entry_square, length-map s.nodes tree_square, ap length w.leased)

-- the nodes whose squares weren't there before
abbrev new_among : List Node → List Node → List Node
new_among ns ms = filter (λ (m : Node). not (is_among ns m.square)) ms

-- they are at least as many as there are more
new_size : (ns ms : List Node) → StandOnce ms → length ms ≤ length ns + length (new_among ns ms)
new_size ns ms alone =
    let halves = total-halves (λ (m : Node). 1) (λ (m : Node). is_among ns m.square) ms in
    let among : length (filter (λ (m : Node). is_among ns m.square) ms) ≡ among_count ns ms = length-filter (λ (m : Node). is_among ns m.square) ms ∙ count_by-total (λ (m : Node). is_among ns m.square) ms in
    omega (arith, halves, total-length (filter (λ (m : Node). is_among ns m.square) ms), total-length (new_among ns ms), total-length ms, among, among_most ns ms alone)

new_parts : (ns ms : List Node) → count_by (λ (m : Node). not (is_open m.mark)) (new_among ns ms) + count_by (λ (m : Node). is_open m.mark) (new_among ns ms) ≡ length (new_among ns ms)
new_parts ns ms =
    omega (arith, count_by-total (λ (m : Node). not (is_open m.mark)) (new_among ns ms), count_by-total (λ (m : Node). is_open m.mark) (new_among ns ms), each (new_among ns ms))
  where
    one : (b : Bool) → once (not b) + once b ≡ 1
    one true = refl
    one false = refl

    each : (ks : List Node) → total (λ (m : Node). once (not (is_open m.mark))) ks + total (λ (m : Node). once (is_open m.mark)) ks ≡ length ks
    each [] = refl
    each (k ∷ ks) = omega (arith, one (is_open k.mark), each ks)

-- those that are left open at the end: some were open before, the others are new
open_parts : (ns ms : List Node) → length (still_open ns ms) + count_by (λ (m : Node). is_open m.mark) (new_among ns ms) ≡ count_by (λ (m : Node). is_open m.mark) ms
open_parts ns ms =
    let p : Node → Bool = λ (m : Node). is_open m.mark in
    let q : Node → Bool = λ (m : Node). is_among ns m.square in
    let still : length (still_open ns ms) ≡ total (λ (m : Node). once (p m && q m)) ms = length-filter (λ (m : Node). p m && q m) ms ∙ count_by-total (λ (m : Node). p m && q m) ms in
    let new_ : count_by p (new_among ns ms) ≡ total (λ (m : Node). once (not (q m) && p m)) ms = count_by-total p (new_among ns ms) ∙ total-filter p (λ m. not (q m)) ms in
    omega (arith, still, new_, count_by-total p ms, turned ms, total-split p q ms)
  where
    either : (a b : Bool) → once (not a && b) ≡ once (b && not a)
    either true true = refl
    either true false = refl
    either false true = refl
    either false false = refl

    turned : (ks : List Node) → total (λ (m : Node). once (not (is_among ns m.square) && is_open m.mark)) ks ≡ total (λ (m : Node). once (is_open m.mark && not (is_among ns m.square))) ks
    turned [] = refl
    turned (k ∷ ks) = omega (arith, either (is_among ns k.square) (is_open k.mark), turned ks)

-- those that were open before: some stayed so, the others didn't
left_parts : (ns ms : List Node) → stayed_open ms ns + count_by (λ (n : Node). is_open n.mark && not (is_open_among ms n.square)) ns ≡ left_count ns
left_parts ns ms =
    omega (arith, count_by-total (λ (n : Node). is_open n.mark && not (is_open_among ms n.square)) ns, count_by-total is_left_open ns, total-split (λ (n : Node). is_open n.mark) (λ (n : Node). is_open_among ms n.square) ns)

-- ---- the leases
few_leases : (ns : List Node) (s : State) (ms : List Node) → IsFollowed ns s ms → StandOnce ms → s.leases ≤ split_count ns + left_count ns + 2 * length (new_among ns ms)
few_leases ns s ms w alone = omega (arith, w.work, w.kept, closed_length ns, all_size ns s ms w, new_size ns ms alone)

shown_by : (ns : List Node) (s : State) (ms : List Node) → IsFollowed ns s ms → StandOnce ns → StandOnce ms → count_by (λ (m : Node). is_open m.mark) ms ≤ length s.waiting
    → s.leases ≤ split_count ns + count_by (λ (n : Node). is_open n.mark && not (is_open_among ms n.square)) ns + 2 * count_by (λ (m : Node). not (is_open m.mark)) (new_among ns ms) + count_by (λ (m : Node). is_open m.mark) (new_among ns ms) + s.kept
shown_by ns s ms w alone_before alone few =
    omega (arith, w.work, closed_length ns, all_size ns s ms w, new_size ns ms alone, new_parts ns ms, open_parts ns ms, left_parts ns ms, stayed_most ns ms alone_before, few)

-- ---- the leaves
unsplit_parts : (xs ys zs : List Node) → zs ≡ xs ++ ys → unsplit_count zs ≡ unsplit_count xs + unsplit_count ys
unsplit_parts xs ys zs is =
    let p : Node → Bool = λ (n : Node). not (is_split n.mark) in
    let parts = ap (total (λ (n : Node). once (p n))) is ∙ total-append (λ (n : Node). once (p n)) xs ys in
    omega (arith, parts, count_by-total p xs, count_by-total p ys, count_by-total p zs)

leaves_at_end : (ns : List Node) (s : State) (ms : List Node) → IsFollowed ns s ms → count_by is_leaf (map mark_of ms) ≡ length s.waiting + unsplit_count s.nodes
leaves_at_end ns s ms w =
    let f : TreeSquare → ℕ = λ (x : TreeSquare). once (not x.is_split) in
    let g : Node → ℕ = λ (n : Node). once (not (is_split n.mark)) in
    let all = squares_total ns s ms f w in
    let waiting = each_entry s.waiting in
    let nodes : total g s.nodes ≡ total g (closed_nodes ns) + total g w.later = ap (total g) w.nodes ∙ total-append g (closed_nodes ns) w.later in
    omega (arith, count_by-marks is_leaf ms, count_by-total (λ (n : Node). is_leaf n.mark) ms, each ms, total-map f tree_square ms, all, waiting, nodes, count_by-total (λ (n : Node). not (is_split n.mark)) s.nodes)
  where
    each : (ks : List Node) → total (λ (n : Node). once (is_leaf n.mark)) ks ≡ total (λ (n : Node). once (not (is_split n.mark))) ks
    each [] = refl
    each (k ∷ ks) = omega (arith, ap once (leaf-not_split k.mark), each ks)

    each_entry : (es : List Entry) → total (λ (x : TreeSquare). once (not x.is_split)) (map entry_square es) ≡ length es
    each_entry [] = refl
    each_entry (e ∷ es) = omega (arith, each_entry es)

closed_leaves_are : (ns : List Node) → count_by (λ m. is_leaf m && not (is_open m)) (map mark_of ns) ≡ unsplit_count (closed_nodes ns)
closed_leaves_are ns =
    let p : Node → Bool = λ (n : Node). not (is_split n.mark) in
    let q : Node → Bool = λ (n : Node). not (is_open n.mark) in
    omega (arith, count_by-marks (λ m. is_leaf m && not (is_open m)) ns, count_by-total (λ (n : Node). is_leaf n.mark && not (is_open n.mark)) ns, each ns, total-filter p q ns, count_by-total p (closed_nodes ns))
  where
    both : (m : Mark) → once (is_leaf m && not (is_open m)) ≡ once (not (is_open m) && not (is_split m))
    both (Split v) = refl
    both Shut = refl
    both (Bounded b) = refl
    both (FloorMark b) = refl
    both (Left b) = refl

    each : (ks : List Node) → total (λ (n : Node). once (is_leaf n.mark && not (is_open n.mark))) ks ≡ total (λ (n : Node). once (not (is_open n.mark) && not (is_split n.mark))) ks
    each [] = refl
    each (k ∷ ks) = omega (arith, both k.mark, each ks)

-- with what was open at a stop there are as many leaves
stop_leaves : (s : State) (c count : ℕ) (stop : Option Stop) → StopFits s stop → c + unsplit_count s.beginning.nodes ≤ c + unsplit_count s.nodes → length s.leased ≡ 0 → count ≡ open_for PoolFull stop → count + unsplit_count s.beginning.nodes ≤ length s.waiting + unsplit_count s.nodes
stop_leaves s c count None fits more none is = omega (arith, more, is)
stop_leaves s c count (Some (FullStop k)) fits more none is = omega (arith, fits.3, none, is)
stop_leaves s c count (Some (BudgetStop k)) fits more none is = omega (arith, more, is)

leaves_fit : (word : Word) (a b : Answer) → (word ≡ PoolFull → b.head.open_count + closed_leaves_of a ≤ count_by is_leaf b.marks) → LeavesFit a b word
leaves_fit Solved a b h = tt
leaves_fit PoolFull a b h = h refl
leaves_fit Budget a b h = tt
leaves_fit Floor a b h = tt
leaves_fit Empty a b h = tt

-- ---- the kept parts
by_tests : (a b c : Bool) → cond a Empty (cond b Solved (cond c Floor PoolFull)) ≡ Budget → ⊥
by_tests true b c e = absurd (cc)
by_tests false true c e = absurd (cc)
by_tests false false true e = absurd (cc)
by_tests false false false e = absurd (cc)

full_no_budget : (t : Tally) (k : ℕ) → ending_word t (Some (FullStop k)) ≡ Budget → ⊥
full_no_budget t k e = by_tests (not (is_some t.least)) (t.open_leaves + t.floor_leaves == 0) (t.open_leaves == 0) e

-- as many parts were kept as the word tells
kept_at_budget : (t : Tally) (workers held : ℕ) (stop : Option Stop) → StopsWithin workers held stop → is_some stop ≡ true → ending_word t stop ≡ Budget → held + 1 ≤ workers
kept_at_budget t workers held None within some word = absurd (false≢true some)
kept_at_budget t workers held (Some (FullStop k)) within some word = absurd (full_no_budget t k word)
kept_at_budget t workers held (Some (BudgetStop k)) within some word = omega (arith, within)

kept_when_full : (workers held : ℕ) (stop : Option Stop) → StopsWithin workers held stop → is_some stop ≡ true → held ≤ workers
kept_when_full workers held None within some = absurd (false≢true some)
kept_when_full workers held (Some (FullStop k)) within some = within
kept_when_full workers held (Some (BudgetStop k)) within some = omega (arith, within)

work_fits : (word : Word) (a b : Answer) (workers : ℕ) → (word ≡ Budget → b.head.leases + 1 ≤ shown_leases a b + workers) → (word ≡ PoolFull → b.head.leases ≤ shown_leases a b + workers) → ResumedWorkFits a b workers word
work_fits Solved a b workers h k = tt
work_fits PoolFull a b workers h k = k refl
work_fits Budget a b workers h k = h refl
work_fits Floor a b workers h k = tt
work_fits Empty a b workers h k = tt

-- ---- both answers
-- the nodes of both answers, as trees of the root
pub record AreBoth (a b : Answer) (ns ms : List Node) : Type 0 where
  pub root_small : (root_of a.head.instance).level ≤ 37
  pub before : nodes_of a ≡ ns
  pub after : nodes_of b ≡ ms
  pub tree : Tree
  pub grown_tree : Tree
  pub tree_is : map tree_square ns ≡ preorder tree (root_of a.head.instance)
  pub grown_is : map tree_square ms ≡ preorder grown_tree (root_of a.head.instance)
  pub marks : AreMarks a.head.instance a.head.gap (upper_cost a.head.best) tree (root_of a.head.instance) a.marks
  pub grown_marks : (u : Option ℤ) × AreMarks a.head.instance a.head.gap u grown_tree (root_of a.head.instance) b.marks

both_trees : (h : Head) (ns : List Node) (budget pool : ℕ) (s : State) (best : Option (Pt × ℤ)) (after : Head) (ms : List Node) → AreOfValid h ns → IsResumption h ns budget pool s best after ms → AreBoth (answer_of h ns) (answer_of after ms) ns ms
both_trees h ns budget pool s best after ms of r =
    let root : Square = root_of h.instance in
    let nodes = valid-nodes (answer_of h ns) of.valid in
    let order = r.finishes.order in
    let walks : Walks (root ∷ []) (map tree_square ms) = subst (Walks (root ∷ [])) (sym order.1) (walk-preorder order.0 root order.2.0) in
    let same_root : root_of after.instance ≡ root = ap root_of r.finishes.instance in
    record {
      root_small = (IsSquare-root h.instance of.valid.ranges.instance).level;
      before = sym of.nodes;
      after = ap (λ (q : Square). nodes_in_order (q ∷ []) (map mark_of ms)) same_root ∙ walked_nodes (root ∷ []) ms walks;
      tree = nodes.0;
      grown_tree = order.0;
      tree_is = ap (map tree_square) of.nodes ∙ nodes.2;
      grown_is = order.1;
      marks = nodes.1;
      grown_marks = (cost_in best, order.2);
    }

both_once : (a b : Answer) (ns ms : List Node) → AreBoth a b ns ms → StandOnce ns × StandOnce ms
both_once a b ns ms t = (tree_once t.tree (root_of a.head.instance) ns t.root_small t.marks.0 t.tree_is, tree_once t.grown_tree (root_of a.head.instance) ms t.root_small t.grown_marks.1.0 t.grown_is)

both_grown : (a b : Answer) (ns ms : List Node) (s : State) (t : AreBoth a b ns ms) → IsFollowed ns s ms → IsGrown t.tree t.grown_tree
both_grown a b ns ms s t w =
    let root : Square = root_of a.head.instance in
    let all : List TreeSquare = preorder t.grown_tree root in
    let splits : AreSplitIn (preorder t.tree root) all = subst (λ ts. AreSplitIn ts all) t.tree_is (subst (AreSplitIn (map tree_square ns)) t.grown_is (splits_stay ns s ms w)) in
    grown t.tree t.grown_tree root all (tree_of_one t.grown_tree root t.root_small t.grown_marks.1.0) splits (λ x. omega arith)

bound_kept : (a b : Answer) (ns ms : List Node) (s : State) → IsValid a → IsValid b → AreBoth a b ns ms → IsFollowed ns s ms → IsNoHigher a.head.bound b.head.bound
unfolding tally_of
bound_kept a b ns ms s valid_a valid_b t w =
    rw (valid_a.end_fits.bound, valid_b.end_fits.bound)
    (bound_grows a.head.instance a.head.gap (upper_cost a.head.best) t.grown_marks.0 t.tree t.grown_tree (root_of a.head.instance) a.marks b.marks t.grown_marks.1.0 t.marks.1 t.grown_marks.1.1 (both_grown a b ns ms s t w))

-- each split of the answer is there at the end, with its mark
splits_kept : (ns : List Node) (s : State) (ms : List Node) → IsFollowed ns s ms → IsPermutation (split_nodes s.nodes) (split_nodes ms) → All (Contains ms) (split_nodes ns)
splits_kept ns s ms w same =
    let split : Node → Bool = λ (n : Node). is_split n.mark in
    let closed : Node → Bool = λ (n : Node). not (is_left_open n) in
    λ i d within.
    let n : Node = slice_index_or (split_nodes ns) i d in
    let here = passed_there split ns i d within in
    let said = passes split ns i d within in
    let logged = passing closed n (split_closed n.mark said) ns here in
    let kept = Contains-append_left (closed_nodes ns) w.later n logged in
    let at_end = subst (λ (ks : List Node). Contains ks n) (sym w.nodes) kept in
    let split_there = Contains-permutation (split_nodes s.nodes) (split_nodes ms) n same (passing split n said s.nodes at_end) in
    All-contains (Contains ms) (split_nodes ms) n (passed_there split ms) split_there

-- the answer goes on from the first
goes_on : (h : Head) (ns : List Node) (budget pool : ℕ) (s : State) (best : Option (Pt × ℤ)) (after : Head) (ms : List Node) → AreOfValid h ns → IsResumption h ns budget pool s best after ms → GoesOn (answer_of h ns) (answer_of after ms)
goes_on h ns budget pool s best after ms of r =
    let w = followed h ns budget pool s best after ms r in
    let t = both_trees h ns budget pool s best after ms of r in
    let cost_after : upper_cost after.best ≡ cost_in best = start_is after.best ∙ ap cost_in r.finishes.best_is in
    record {
      valid = r.finishes.valid;
      instance = r.finishes.instance;
      gap = r.finishes.gap;
      cost = rw (start_is h.best, cost_after) (subst (λ (j : Job). MatchOption (start_cost j) ⊤ (IsAtMost (cost_in best))) r.finished.job r.finished.sound.start);
      bound = bound_kept (answer_of h ns) (answer_of after ms) ns ms s of.valid r.finishes.valid t w;
      splits = rw (t.before, t.after) (splits_kept ns s ms w r.finishes.splits);
    }

-- it is resumed from it
pub resumed : (h after : Head) (ns ms : List Node) (budget pool : ℕ) (s : State) (best : Option (Pt × ℤ)) → AreOfValid h ns → HaveRoom ns budget pool → IsResumption h ns budget pool s best after ms → IsResumed (answer_of h ns) budget pool (answer_of after ms)
resumed h after ns ms budget pool s best of room r =
    let w = followed h ns budget pool s best after ms r in
    let t = both_trees h ns budget pool s best after ms of r in
    let alone = both_once (answer_of h ns) (answer_of after ms) ns ms t in
    let few = few_leases ns s ms w alone.1 in
    record {
      goes_on = goes_on h ns budget pool s best after ms of r;
      budget_is = r.finishes.budget;
      pool_is = r.finishes.pool;
      leases = rw (t.before, t.after) (omega (arith, few, r.finishes.leases, count_by-marks is_split ns, count_by-marks is_open ns));
      leaves = leaves_fit after.word (answer_of h ns) (answer_of after ms) (leaves_of w);
    }
  where
    leaves_of : IsFollowed ns s ms → after.word ≡ PoolFull → after.open_count + closed_leaves_of (answer_of h ns) ≤ count_by is_leaf (map mark_of ms)
    leaves_of w full =
        let begun_nodes : s.beginning.nodes ≡ closed_nodes ns = ap (λ b. b.nodes) r.beginning ∙ r.begun.begun_nodes in
        let opened : after.open_count ≡ open_for PoolFull s.stop = r.finishes.open_count ∙ ap (λ (word : Word). open_for word s.stop) full in
        let more : unsplit_count s.nodes ≡ unsplit_count (closed_nodes ns) + unsplit_count w.later = unsplit_parts (closed_nodes ns) w.later s.nodes w.nodes in
        let stop = stop_leaves s 0 after.open_count s.stop r.finished.sound.consistent.stop_fits (omega (arith, ap unsplit_count begun_nodes, more)) (ap length w.leased) opened in
        omega (arith, stop, ap unsplit_count begun_nodes, closed_leaves_are ns, leaves_at_end ns s ms w)

-- it shows its work
pub shown : (h after : Head) (ns ms : List Node) (budget pool workers : ℕ) (s : State) (best : Option (Pt × ℤ)) → AreOfValid h ns → HaveRoom ns budget pool → IsResumption h ns budget pool s best after ms → IsKeptBy s workers → IsResumedBy (answer_of h ns) (answer_of after ms) workers
unfolding tally_of
shown h after ns ms budget pool workers s best of room r within =
    let w = followed h ns budget pool s best after ms r in
    let t = both_trees h ns budget pool s best after ms of r in
    let alone = both_once (answer_of h ns) (answer_of after ms) ns ms t in
    let open_most : count_by (λ (m : Node). is_open m.mark) ms ≤ length s.waiting = omega (arith, r.finishes.open_most, count_by-marks is_open ms) in
    let by = shown_by ns s ms w alone.0 alone.1 open_most in
    let work : after.leases ≤ shown_leases (answer_of h ns) (answer_of after ms) + s.kept = rw (t.before, t.after) (omega (arith, by, r.finishes.leases, count_by-marks is_split ns)) in
    let none : length s.leased ≡ 0 = ap length w.leased in
    work_fits after.word (answer_of h ns) (answer_of after ms) workers
    (λ word.
    let some = r.finishes.stopped (ap is_stopped word) in
    let kept = kept_at_budget (tally_of (map mark_of ms)) workers (s.kept + length s.leased) s.stop within some (sym r.finishes.word ∙ word) in
    omega (arith, work, kept, none))
    (λ word.
    let some = r.finishes.stopped (ap is_stopped word) in
    let kept = kept_when_full workers (s.kept + length s.leased) s.stop within some in
    omega (arith, work, kept, none))
