-- The states in which pools begin are sound.
use Rattle.std.proofs.Common.{◌≡◌, ℕ, ◌+◌, ◌≤◌, ◌==◌, ℤ, ◌+ℤ◌, ◌≤ℤ◌, Bool, true, false, cond, not, List, [], ◌∷◌, map, length, count_by, Option, None, Some, refl, sym, ap, ◌∙◌, subst, append-nil, arith}
use Rattle.std.specs.Prelude.{⊤, MatchOption, All, IsPermutation, filter}
use Rattle.std.proofs.lemmas.Bool.{cond_both, eqb-true, true≢false, false≢true, not-true}
use Rattle.std.proofs.lemmas.Int.{ints}
use Rattle.std.proofs.lemmas.List.{length-map}
use Rattle.std.proofs.lemmas.List.Elements.{All-nil, All-cons, All-head, All-tail, All-weaker}
use Rattle.std.proofs.lemmas.List.Filters.{length-filter_both}
use Rattle.std.proofs.lemmas.List.Sums.{length-filter}
use Rattle.std.proofs.lemmas.List.Sorted.{IsPermutation-refl, All-permutation}
use Rattle.siting_definitions.specs.declared.Mark.{Mark}
use Rattle.siting_definitions.specs.declared.Mark.TheVariants.{Split, Shut, Bounded, Floor, Left}
use Rattle.siting_definitions.specs.Point.{Pt}
use Rattle.siting_definitions.specs.Instance.{Instance}
use Rattle.siting_definitions.specs.Square.{Square}
use Rattle.siting_definitions.specs.Bounds.{fine_of}
use Rattle.siting_definitions.specs.Excluded.{is_excluded}
use Rattle.siting_definitions.specs.Tree.{Tree, Leaf, Fits, preorder}
use Rattle.siting_definitions.specs.Marks as marks
use Rattle.siting_definitions.specs.Marks.{IsAtMost, leaf_mark, reaches, MarksFit, is_split, is_open}
use Rattle.siting_definitions.proofs.Integers.{le_refl_ℤ}
use Rattle.siting_definitions.proofs.MarkLemmas.{at_most-refl}
use Rattle.objectives.proofs.CoarseLemmas.{coarse_of-le-fine_of}
use Rattle.dyadic_square.proofs.Bag.{total, once, SameTotals, total-length, total-permutation, count_by-total, permutation_from_totals}
use Rattle.dyadic_square.proofs.Trees.{same_tree_square, tree_square_decides}
use Rattle.discard_log.specs.declared.node.Node.{Node}
use Rattle.discard_log.specs.Nodes.{tree_square}
use Rattle.bound_heap.specs.declared.entry.Entry.{Entry}
use Rattle.pool_core.specs.Job.{Job, IsLawful, IsOffer, job_root, start_cost, cost_in}
use Rattle.pool_core.specs.State.{State, first_state, root_entry, squares_of, split_count, raised_count}
use Rattle.pool_core.specs.Sound.{AreTree, SearchCountsFit, StopFits, IsConsistent, EntryFits, LoggedFits, NodeFits, IsPoolOf}
use Rattle.pool_core.specs.Logged.{IsRaisedRight, bounded_node, with_bound}
use Rattle.pool_core.specs.Begun.{IsResumable, IsBegunFrom, is_left_open, left_count, closed_nodes, left_of}
use Rattle.pool_core.proofs.VerdictLemmas.{reaches-true}
use Rattle.pool_core.proofs.TreeKept.{total-map, total_entries, total_nodes, total-squares}
use Rattle.pool_core.proofs.CountsKept.{length-permutation, count_by-cons}
use Rattle.pool_core.proofs.SoundSteps.{Costs, sound-parts}

-- ---- nodes that are left open
-- nodes are left open or closed
pub closed_length : (ns : List Node) → length (closed_nodes ns) + left_count ns ≡ length ns
closed_length ns =
    omega (arith, length-filter_both is_left_open (λ (n : Node). not (is_left_open n)) (λ n. refl) ns, length-filter is_left_open ns)

-- ---- the start as the least upper cost
start_offered : (i : Instance) (o : Option (Pt × ℤ)) → MatchOption o ⊤ (λ b. IsOffer i b.0 b.1) → MatchOption (cost_in o) ⊤ (λ c. (z : Pt) × IsOffer i z c)
start_offered i None h = tt
start_offered i (Some b) h = (b.0, h)

-- ---- the first state
-- a lawful job begins soundly
pub first_pool : (j : Job) → IsLawful j → IsPoolOf j (first_state j)
first_pool j lawful =
    let i = j.instance in
    let gap = j.gap in
    let root : Entry = root_entry j in
    let fits : EntryFits i root = record { bound = coarse_of-le-fine_of i (job_root j); raised = λ yes. absurd (false≢true yes) } in
    record {
      job = refl;
      leased = refl;
      going = refl;
      sound = record {
        job = lawful;
        consistent = record {
          tree = (Leaf, tt, IsPermutation-refl _);
          counts = record {
            open_most = omega (arith, lawful.job.pool_least);
            leased = omega arith;
            budget = omega arith;
            going = λ _. refl;
            kept = omega arith;
            begun = omega arith;
            work = omega arith;
          };
          stop_fits = tt;
          begun = ([], refl);
        };
        waiting = All-cons (EntryFits i) root [] fits (All-nil (EntryFits i));
        leased = All-nil (EntryFits i);
        nodes = All-nil (NodeFits i gap (start_cost j));
        start = at_most-refl (start_cost j);
        least_is = start_offered i j.start lawful.job.start;
      };
    }

-- ---- lists cut in two by a test
filter-step : {X : Type 0} (g : X → ℕ) (p : X → Bool) (x : X) (xs : List X) (b : Bool) → p x ≡ b → total g (filter p (x ∷ xs)) ≡ cond b (g x) 0 + total g (filter p xs)
filter-step g p x xs true e = ap (λ b. total g (cond b (x ∷ filter p xs) (filter p xs))) e
filter-step g p x xs false e = ap (λ b. total g (cond b (x ∷ filter p xs) (filter p xs))) e ∙ omega arith

halves_by : {X : Type 0} (g : X → ℕ) (p : X → Bool) (x : X) (b : Bool) → cond b (g x) 0 + cond (not b) (g x) 0 ≡ g x
halves_by g p x true = omega arith
halves_by g p x false = omega arith

-- a total over those that pass a test and those that don't
pub total-halves : {X : Type 0} (g : X → ℕ) (p : X → Bool) → (xs : List X) → total g (filter p xs) + total g (filter (λ x. not (p x)) xs) ≡ total g xs
total-halves g p [] = refl
total-halves g p (x ∷ xs) =
    omega (
      arith,
      filter-step g p x xs (p x) refl,
      filter-step g (λ x. not (p x)) x xs (not (p x)) refl,
      halves_by g p x (p x),
      total-halves g p xs,
    )

-- what each element that passes a test has
pub All-passed : {X : Type 0} (p : X → Bool) (P Q : X → Type 0) → ((x : X) → p x ≡ true → P x → Q x) → (xs : List X) → All P xs → All Q (filter p xs)
All-passed p P Q each [] all = All-nil Q
All-passed p P Q each (x ∷ xs) all =
    let rest = All-passed p P Q each xs (All-tail P x xs all) in
    cond_both (p x) (x ∷ filter p xs) (filter p xs) (All Q) (λ yes. All-cons Q x (filter p xs) (each x yes (All-head P x xs all)) rest) (λ no. rest)

All-unmap : {X Y : Type 0} (P : Y → Type 0) (f : X → Y) → (xs : List X) → All P (map f xs) → All (λ x. P (f x)) xs
All-unmap P f [] all = All-nil (λ x. P (f x))
All-unmap P f (x ∷ xs) all =
    All-cons (λ x. P (f x)) x xs (All-head P (f x) (map f xs) all) (All-unmap P f xs (All-tail P (f x) (map f xs) all))

count_by-all : {X : Type 0} (p : X → Bool) → (xs : List X) → All (λ x. p x ≡ true) xs → count_by p xs ≡ length xs
count_by-all p [] all = refl
count_by-all p (x ∷ xs) all =
    let one : once (p x) ≡ 1 = ap once (All-head (λ x. p x ≡ true) x xs all) in
    omega (arith, count_by-cons p x xs, one, count_by-all p xs (All-tail (λ x. p x ≡ true) x xs all))

-- ---- finished marks
-- what a leaf's finished mark says
abbrev LeafSays : Instance → ℤ → Option ℤ → Square → Mark → Type 0
LeafSays i gap u s (Split v) = ⊤
LeafSays i gap u s Shut = is_excluded i s ≡ true
LeafSays i gap u s (Bounded c) = (is_excluded i s ≡ false) × (c ≤ℤ fine_of i s) × IsAtMost u (c +ℤ gap)
LeafSays i gap u s (Floor b) = (is_excluded i s ≡ false) × (s.level ≡ 0) × (b ≡ fine_of i s)
LeafSays i gap u s (Left b) = (is_excluded i s ≡ false) × (b ≡ fine_of i s)

-- the finished mark of a leaf says what it means
leaf_says : (i : Instance) (gap : ℤ) (u : Option ℤ) (s : Square) → LeafSays i gap u s (leaf_mark i gap u s)
unfolding leaf_mark
leaf_says i gap u s =
    let f = fine_of i s in
    let last = cond (s.level == 0) (Floor f) (Left f) in
    let middle = cond (reaches u (f +ℤ gap)) (Bounded f) last in
    cond_both (is_excluded i s) Shut middle (LeafSays i gap u s) (λ excluded. excluded)
    (λ open_square.
    cond_both (reaches u (f +ℤ gap)) (Bounded f) last (LeafSays i gap u s)
    (λ reached. (open_square, le_refl_ℤ f, reaches-true u (f +ℤ gap) reached))
    (λ short.
    cond_both (s.level == 0) (Floor f) (Left f) (LeafSays i gap u s) (λ floor. (open_square, eqb-true s.level 0 floor, refl))
    (λ above. (open_square, refl))))

-- the node has its finished mark, with u the least upper cost
abbrev pub IsMarked : Instance → ℤ → Option ℤ → Node → Type 0
IsMarked i gap u n = marks.MarkFits i gap u (tree_square n) n.mark

-- a node that isn't left open fits as one that is logged
closed-fits : (i : Instance) (gap : ℤ) (u : Option ℤ) (s : Square) (m : Mark) → is_open m ≡ false → marks.MarkFits i gap u (record { square = s; is_split = is_split m }) m → LoggedFits i gap u s m
closed-fits i gap u s (Split v) closed h = h
closed-fits i gap u s Shut closed h = subst (LeafSays i gap u s) (sym h) (leaf_says i gap u s)
closed-fits i gap u s (Bounded c) closed h = subst (LeafSays i gap u s) (sym h) (leaf_says i gap u s)
closed-fits i gap u s (Floor b) closed h = subst (LeafSays i gap u s) (sym h) (leaf_says i gap u s)
closed-fits i gap u s (Left b) closed h = absurd (true≢false closed)

left-fits : (i : Instance) (gap : ℤ) (u : Option ℤ) (e : Entry) → IsMarked i gap u (left_of e) → EntryFits i e
left-fits i gap u e h =
    let says : LeafSays i gap u e.square (Left e.bound) = subst (LeafSays i gap u e.square) (sym h) (leaf_says i gap u e.square) in
    record { bound = omega (arith, ints, says.1); raised = λ _. (says.1, says.0) }

all_marked : (i : Instance) (gap : ℤ) (u : Option ℤ) → (ns : List Node) → MarksFit i gap u (map tree_square ns) (map (λ (n : Node). n.mark) ns) → All (IsMarked i gap u) ns
all_marked i gap u [] h = All-nil (IsMarked i gap u)
all_marked i gap u (n ∷ ns) h = All-cons (IsMarked i gap u) n ns h.0 (all_marked i gap u ns h.1)

-- ---- the state that is begun from nodes
begun_totals : (j : Job) (ns : List Node) (leases : ℕ) (s : State) → IsBegunFrom j ns leases s → SameTotals (squares_of s) (map tree_square ns)
begun_totals j ns leases s b f =
    let g : Node → ℕ = λ n. f (tree_square n) in
    let waiting : total g (map left_of s.waiting) ≡ total_entries f s.waiting = total-map g left_of s.waiting in
    let leased : total_entries f s.leased ≡ 0 = ap (total_entries f) b.leased in
    let nodes : total_nodes f s.nodes ≡ total_nodes f (closed_nodes ns) = ap (total_nodes f) b.nodes in
    omega (
      arith,
      total-squares f s,
      waiting,
      leased,
      nodes,
      total-permutation g (filter is_left_open ns) (map left_of s.waiting) b.waiting,
      total-halves g is_left_open ns,
      total-map f tree_square ns,
    )

-- a beginning from a tree is a tree of its root
begun_tree : (j : Job) (ns : List Node) (leases : ℕ) (s : State) → IsResumable j ns leases → IsBegunFrom j ns leases s → AreTree s
begun_tree j ns leases s r b =
    let t = r.tree.0 in
    let same : SameTotals (squares_of s) (preorder t (job_root j)) = subst (SameTotals (squares_of s)) r.tree.1 (begun_totals j ns leases s b) in
    let tree : (t : Tree) × Fits t (job_root j).level × IsPermutation (squares_of s) (preorder t (job_root j)) =
    (t, r.tree.2.0, permutation_from_totals same_tree_square tree_square_decides (squares_of s) (preorder t (job_root j)) same) in
    subst (λ (k : Job). (t : Tree) × Fits t (job_root k).level × IsPermutation (squares_of s) (preorder t (job_root k))) (sym b.job) tree

-- how many nodes are closed, and how many of them are split
closed_counts : (ns : List Node) → (length (closed_nodes ns) + left_count ns ≡ length ns) × (split_count (closed_nodes ns) ≤ split_count ns)
closed_counts ns =
    let split : Node → Bool = λ n. is_split n.mark in (
      omega (
        arith,
        total-halves (λ (n : Node). 1) is_left_open ns,
        total-length (filter is_left_open ns),
        total-length (closed_nodes ns),
        total-length ns,
        length-filter is_left_open ns,
      ),
      omega (arith, total-halves (λ (n : Node). once (split n)) is_left_open ns, count_by-total split (closed_nodes ns), count_by-total split ns),
    )

-- as many wait as are left open
pub waiting_count : (ns : List Node) (es : List Entry) → IsPermutation (filter is_left_open ns) (map left_of es) → length es ≡ left_count ns
waiting_count ns es h =
    sym (length-map es left_of) ∙ length-permutation (filter is_left_open ns) (map left_of es) h ∙ length-filter is_left_open ns

-- its counts fit
begun_counts : (j : Job) (ns : List Node) (leases : ℕ) (s : State) → IsResumable j ns leases → IsBegunFrom j ns leases s → SearchCountsFit s
begun_counts j ns leases s r b =
    let closed = closed_counts ns in
    let waiting : length s.waiting ≡ left_count ns = waiting_count ns s.waiting b.waiting in
    let raised : raised_count s.waiting ≡ length s.waiting = count_by-all (λ (e : Entry). e.raised) s.waiting b.raised in
    let leased : length s.leased ≡ 0 = ap length b.leased in
    let leased_raised : raised_count s.leased ≡ 0 = ap raised_count b.leased in
    let nodes : length s.nodes ≡ length (closed_nodes ns) = ap length b.nodes in
    let split : split_count s.nodes ≡ split_count (closed_nodes ns) = ap split_count b.nodes in
    let begun : length s.beginning.nodes ≡ length (closed_nodes ns) = ap length b.begun_nodes in
    let pool : s.job.pool ≡ j.pool = ap (λ (k : Job). k.pool) b.job in
    let budget : s.job.budget ≡ j.budget = ap (λ (k : Job). k.budget) b.job in
    record {
      open_most = omega (arith, r.open_most);
      leased = omega (arith, closed.1, r.at_least_splits, b.leases_are);
      budget = omega (arith, r.budget, b.leases_are);
      going = λ _. b.kept;
      kept = omega (arith, b.kept);
      begun = omega (arith, closed.0, r.at_most_nodes, b.begun_leases, b.begun_raised);
      work = omega (arith, b.begun_leases, b.begun_raised, b.leases_are, b.kept);
    }

-- what waits and what is logged is consistent
begun_consistent : (j : Job) (ns : List Node) (leases : ℕ) (s : State) → IsResumable j ns leases → IsBegunFrom j ns leases s → IsConsistent s
begun_consistent j ns leases s r b = record {
  tree = begun_tree j ns leases s r b;
  counts = begun_counts j ns leases s r b;
  stop_fits = subst (StopFits s) (sym b.going) tt;
  begun = ([], b.nodes ∙ sym b.begun_nodes ∙ sym (append-nil s.beginning.nodes));
}

-- each node has its finished mark
begun_marked : (j : Job) (ns : List Node) (leases : ℕ) → IsResumable j ns leases → All (IsMarked j.instance j.gap (start_cost j)) ns
begun_marked j ns leases r =
    let u = start_cost j in
    let fit = subst (λ ts. MarksFit j.instance j.gap u ts (map (λ (n : Node). n.mark) ns)) (sym r.tree.1) r.tree.2.1 in
    all_marked j.instance j.gap u ns fit

-- the bounds of those that wait are right
begun_entries : (j : Job) (ns : List Node) (leases : ℕ) (es : List Entry) → IsResumable j ns leases → IsPermutation (filter is_left_open ns) (map left_of es) → All (EntryFits j.instance) es
begun_entries j ns leases es r waiting =
    let P = IsMarked j.instance j.gap (start_cost j) in
    let left : All P (map left_of es) =
    All-permutation P (filter is_left_open ns) (map left_of es) waiting (All-passed is_left_open P P (λ n yes h. h) ns (begun_marked j ns leases r)) in
    All-weaker (λ e. P (left_of e)) (EntryFits j.instance) (left-fits j.instance j.gap (start_cost j)) es (All-unmap P left_of es left)

-- they wait with the fine bounds of their squares
pub begun_right : (j : Job) (ns : List Node) (leases : ℕ) (es : List Entry) → IsResumable j ns leases → IsPermutation (filter is_left_open ns) (map left_of es) → All (IsRaisedRight j.instance) es
begun_right j ns leases es r waiting =
    All-weaker (EntryFits j.instance) (IsRaisedRight j.instance) (λ e fits raised. (fits.raised raised).0) es (begun_entries j ns leases es r waiting)

bounded_by : (a b c : Bool) (f : ℤ) → with_bound f (cond a Shut (cond b (Bounded f) (cond c (Floor f) (Left f)))) ≡ cond a Shut (cond b (Bounded f) (cond c (Floor f) (Left f)))
bounded_by true b c f = refl
bounded_by false true c f = refl
bounded_by false false true f = refl
bounded_by false false false f = refl

-- a finished mark has the fine bound
leaf_bounded : (i : Instance) (gap : ℤ) (u : Option ℤ) (s : Square) → with_bound (fine_of i s) (leaf_mark i gap u s) ≡ leaf_mark i gap u s
unfolding leaf_mark
leaf_bounded i gap u s = bounded_by (is_excluded i s) (reaches u (fine_of i s +ℤ gap)) (s.level == 0) (fine_of i s)

mark_bounded : (i : Instance) (gap : ℤ) (u : Option ℤ) (s : Square) (m : Mark) → marks.MarkFits i gap u (record { square = s; is_split = is_split m }) m → with_bound (fine_of i s) m ≡ m
mark_bounded i gap u s (Split v) h = refl
mark_bounded i gap u s Shut h = refl
mark_bounded i gap u s (Bounded c) h = ap (with_bound (fine_of i s)) h ∙ leaf_bounded i gap u s ∙ sym h
mark_bounded i gap u s (Floor b) h = refl
mark_bounded i gap u s (Left b) h = refl

map-same : {X : Type 0} (f : X → X) (xs : List X) → All (λ x. f x ≡ x) xs → map f xs ≡ xs
map-same f [] h = refl
map-same f (x ∷ xs) h =
    let head : f x ≡ x = All-head (λ x. f x ≡ x) x xs h in
    let tail = map-same f xs (All-tail (λ x. f x ≡ x) x xs h) in
    cc

-- the closed nodes have the fine bounds of their squares
pub begun_bounded : (j : Job) (ns : List Node) (leases : ℕ) → IsResumable j ns leases → map (bounded_node j.instance) (closed_nodes ns) ≡ closed_nodes ns
begun_bounded j ns leases r =
    let i = j.instance in
    let P = IsMarked i j.gap (start_cost j) in
    map-same (bounded_node i) (closed_nodes ns)
    (All-passed (λ n. not (is_left_open n)) P (λ n. bounded_node i n ≡ n)
    (λ n yes h. ap (λ (m : Mark). let k : Node = record { square = n.square; mark = m } in k) (mark_bounded i j.gap (start_cost j) n.square n.mark h)) ns (begun_marked j ns leases r))

-- its bounds and marks are right, with the start as the incumbent
begun_costs : (j : Job) (ns : List Node) (leases : ℕ) (s : State) → IsLawful j → IsResumable j ns leases → IsBegunFrom j ns leases s → Costs j (start_cost j) s
begun_costs j ns leases s lawful r b =
    let i = j.instance in
    let u = start_cost j in
    let P = IsMarked i j.gap u in
    let Q = NodeFits i j.gap u in
    let marked : All P ns = begun_marked j ns leases r in
    let closed : All Q (closed_nodes ns) =
    All-passed (λ n. not (is_left_open n)) P Q (λ n yes h. closed-fits i j.gap u n.square n.mark (not-true (is_open n.mark) yes) h) ns marked in
    record {
      job = lawful;
      waiting = begun_entries j ns leases s.waiting r b.waiting;
      leased = subst (All (EntryFits i)) (sym b.leased) (All-nil (EntryFits i));
      nodes = subst (All Q) (sym b.nodes) closed;
      start = at_most-refl u;
      least_is = start_offered i j.start lawful.job.start;
    }

-- a pool that begins from the nodes of a finished tree begins soundly
pub begun_pool : (j : Job) (ns : List Node) (leases : ℕ) (s : State) → IsLawful j → IsResumable j ns leases → IsBegunFrom j ns leases s → IsPoolOf j s
begun_pool j ns leases s lawful r b = record {
  job = b.job;
  leased = b.leased;
  going = b.going;
  sound =
      sound-parts (record { state = s; incumbent = start_cost j }) j (start_cost j) b.job refl (begun_consistent j ns leases s r b)
      (begun_costs j ns leases s lawful r b);
}
