-- A pool that begins from the nodes of a tree: its state, and what a pool keeps.
use Rattle.std.proofs.Common.{◌≡◌, ℕ, suc, ◌+◌, ◌-◌, ◌*◌, true, List, [], ◌∷◌, map, filter, length, count_by, vec_capacity, take, drop, None, refl, sym, ap, ◌∙◌, subst, arith}
use Rattle.std.specs.List.{All}
use Rattle.std.specs.List.Sorted.{IsPermutation}
use Rattle.std.proofs.Math.ListN.{drop_of_length-le}
use Rattle.std.proofs.Math.Seq.{take-length}
use Rattle.std.proofs.lemmas.List.{length-map}
use Rattle.std.proofs.lemmas.List.Elements.{All-nil}
use Rattle.siting_definitions.specs.declared.Mark.{Mark}
use Rattle.siting_definitions.specs.declared.Mark.TheVariants.{Split, Shut, Bounded, Floor, Left}
use Rattle.siting_definitions.specs.Marks.{is_split}
use Rattle.siting_definitions.specs.Square.{Square}
use Rattle.siting_definitions.specs.Tree.{Tree, TreeSquare, preorder}
use Rattle.dyadic_square.proofs.Bag.{once}
use Rattle.dyadic_square.proofs.Trees.{tree-size}
use Rattle.bound_heap.specs.declared.entry.Entry.{Entry}
use Rattle.discard_log.specs.declared.node.Node.{Node}
use Rattle.discard_log.specs.Nodes.{tree_square}
use Rattle.pool_core.specs.declared.pool.Pool.TheInside.{Inside}
use Rattle.pool_core.specs.Job.{Job, IsJob, job_root}
use Rattle.pool_core.specs.State.{raised_count, split_count}
use Rattle.pool_core.specs.Begun.{IsBegunFrom, IsResumable, closed_nodes, is_left_open, left_count, left_of}
use Rattle.pool_core.specs.Logged.{IsRaisedRight, bounded_node, settled_bounds}
use Rattle.pool_core.specs.Pool.{PoolFits, state_of}
use Rattle.pool_core.proofs.BegunLemmas.{begun_bounded, begun_right, waiting_count, closed_length}
use Rattle.pool_core.proofs.CountsKept.{count_by-cons}

-- ---- counts of nodes
abbrev node_at : Square → Mark → Node
node_at s m = record { square = s; mark = m }

counted-more : (n : Node) (ms ns : List Node) → split_count ms ≡ split_count ns → split_count (n ∷ ms) ≡ split_count (n ∷ ns)
counted-more n ms ns h =
    omega (arith, h, count_by-cons (λ (n : Node). is_split n.mark) n ms, count_by-cons (λ (n : Node). is_split n.mark) n ns)

-- a node that is left open isn't split
splits-step : (s : Square) (m : Mark) (ns : List Node) → split_count (closed_nodes ns) ≡ split_count ns → split_count (closed_nodes (node_at s m ∷ ns)) ≡ split_count (node_at s m ∷ ns)
splits-step s (Split v) ns h = counted-more (node_at s (Split v)) (closed_nodes ns) ns h
splits-step s Shut ns h = counted-more (node_at s Shut) (closed_nodes ns) ns h
splits-step s (Bounded b) ns h = counted-more (node_at s (Bounded b)) (closed_nodes ns) ns h
splits-step s (Floor b) ns h = counted-more (node_at s (Floor b)) (closed_nodes ns) ns h
splits-step s (Left b) ns h = h ∙ sym (count_by-cons (λ (n : Node). is_split n.mark) (node_at s (Left b)) ns ∙ omega arith)

closed_splits : (ns : List Node) → split_count (closed_nodes ns) ≡ split_count ns
closed_splits [] = refl
closed_splits (n ∷ ns) = splits-step n.square n.mark ns (closed_splits ns)

split_squares : (ns : List Node) → count_by (λ (s : TreeSquare). s.is_split) (map tree_square ns) ≡ split_count ns
split_squares [] = refl
split_squares (n ∷ ns) =
    omega (arith, split_squares ns, count_by-cons (λ (s : TreeSquare). s.is_split) (tree_square n) (map tree_square ns), count_by-cons (λ (n : Node). is_split n.mark) n ns)

-- a tree has one node, and four more for each that is split
pub nodes_size : (t : Tree) (root : Square) (ns : List Node) → map tree_square ns ≡ preorder t root → length ns ≡ 1 + 4 * split_count ns
nodes_size t root ns tree =
    let size : length (map tree_square ns) ≡ 1 + 4 * count_by (λ (s : TreeSquare). s.is_split) (map tree_square ns) = rw tree (tree-size t root) in
    omega (arith, size, split_squares ns, length-map ns tree_square)

all_raised : (es : List Entry) → All (λ (e : Entry). e.raised ≡ true) es → raised_count es ≡ length es
all_raised [] h = refl
all_raised (e ∷ es) h =
    let here : once e.raised ≡ 1 = ap once (h 0 e (omega arith)) in
    omega (arith, count_by-cons (λ (e : Entry). e.raised) e es, all_raised es (λ k d l. h (suc k) d (omega arith)))

-- ---- what the code makes of a job j, nodes and a number of leases
pub record IsBegun (j : Job) (ns : List Node) (leases : ℕ) (b : Inside) : Type 0 where
  pub job : b.job ≡ j
  pub waiting : IsPermutation (filter is_left_open ns) (map left_of b.waiting.entries)
  pub raised : All (λ (e : Entry). e.raised ≡ true) b.waiting.entries
  pub waiting_room : length b.waiting.entries + b.waiting.spare ≡ j.pool
  pub leased : b.leased.items ≡ []
  pub capacity : vec_capacity b.leased ≡ j.pool
  pub nodes : b.log.nodes ≡ closed_nodes ns
  pub fine_bounds : b.fine_bounds.items ≡ []
  pub bounds_capacity : vec_capacity b.fine_bounds ≡ j.budget - leases
  pub log_room : length b.log.nodes + b.log.spare ≡ length ns + 4 * (j.budget - leases)
  pub leases_are : b.leases ≡ leases
  pub kept : b.kept ≡ 0
  pub stop : b.stop ≡ None
  pub begun_nodes : b.begun_nodes ≡ length ns - length b.waiting.entries
  pub begun_raised : b.begun_raised ≡ length b.waiting.entries
  pub begun_leases : b.begun_leases ≡ leases

all_taken : (n : ℕ) (ms ns : List Node) → n ≡ length ns → ms ≡ ns → take n ms ≡ ns
all_taken n ms ns e f = ap (take n) f ∙ ap (λ k. take k ns) e ∙ take-length ns

begun_nodes-are : (j : Job) (ns : List Node) (leases : ℕ) (b : Inside) → IsBegun j ns leases b → take b.begun_nodes b.log.nodes ≡ closed_nodes ns
begun_nodes-are j ns leases b h =
    let left : length b.waiting.entries ≡ left_count ns = waiting_count ns b.waiting.entries h.waiting in
    let count : b.begun_nodes ≡ length (closed_nodes ns) = omega (arith, closed_length ns, h.begun_nodes) in
    all_taken b.begun_nodes b.log.nodes (closed_nodes ns) count h.nodes

-- what `begin_from` makes shows as a state that begins from the nodes
pub begun_state : (j : Job) (ns : List Node) (leases : ℕ) (b : Inside) → IsBegun j ns leases b → IsBegunFrom j ns leases (state_of b)
begun_state j ns leases b h = record {
  job = h.job;
  waiting = h.waiting;
  raised = h.raised;
  leased = h.leased;
  nodes = h.nodes;
  leases_are = h.leases_are;
  kept = h.kept;
  going = h.stop;
  begun_nodes = begun_nodes-are j ns leases b h;
  begun_raised = h.begun_raised ∙ waiting_count ns b.waiting.entries h.waiting;
  begun_leases = h.begun_leases;
}

-- what `begin_from` makes is a pool
pub begun_fits : (j : Job) (ns : List Node) (leases : ℕ) (b : Inside) → IsJob j → IsResumable j ns leases → IsBegun j ns leases b → PoolFits b
begun_fits j ns leases b lawful may h =
    let pool : b.job.pool ≡ j.pool = ap (λ (j : Job). j.pool) h.job in
    let budget : b.job.budget ≡ j.budget = ap (λ (j : Job). j.budget) h.job in
    let left : length b.waiting.entries ≡ left_count ns = waiting_count ns b.waiting.entries h.waiting in
    let parts = closed_length ns in
    let raised : raised_count b.waiting.entries ≡ length b.waiting.entries = all_raised b.waiting.entries h.raised in
    let logged : length b.log.nodes ≡ length (closed_nodes ns) = ap length h.nodes in
    let splits : split_count b.log.nodes ≡ split_count ns = ap split_count h.nodes ∙ closed_splits ns in
    let begun : length (take b.begun_nodes b.log.nodes) ≡ length (closed_nodes ns) = ap length (begun_nodes-are j ns leases b h) in
    let begun_splits : split_count (take b.begun_nodes b.log.nodes) ≡ split_count ns = ap split_count (begun_nodes-are j ns leases b h) ∙ closed_splits ns in
    let none_new : drop b.begun_nodes b.log.nodes ≡ [] = drop_of_length-le b.log.nodes (omega (arith, h.begun_nodes, left, parts, logged)) in
    let no_bounds : length b.fine_bounds.items ≡ 0 = ap length h.fine_bounds in
    let none_out : length b.leased.items ≡ 0 = ap length h.leased in
    let none_raised : raised_count b.leased.items ≡ 0 = ap raised_count h.leased in
    let size : length ns ≡ 1 + 4 * split_count ns = nodes_size may.tree.0 (job_root j) ns may.tree.1 in
    record {
      job = subst IsJob (sym h.job) lawful;
      bounds = h.fine_bounds ∙ sym (ap (settled_bounds b.job.instance) none_new);
      begun_bounds = subst (λ (k : Job). map (bounded_node k.instance) (take b.begun_nodes b.log.nodes) ≡ take b.begun_nodes b.log.nodes) (sym h.job) (subst (λ (ms : List Node). map (bounded_node j.instance) ms ≡ ms) (sym (begun_nodes-are j ns leases b h)) (begun_bounded j ns leases may));
      bounds_room = omega (arith, no_bounds, none_out, h.bounds_capacity, h.leases_are);
      waiting_raised = subst (λ (k : Job). All (IsRaisedRight k.instance) b.waiting.entries) (sym h.job) (begun_right j ns leases b.waiting.entries may h.waiting);
      leased_raised = subst (All (IsRaisedRight b.job.instance)) (sym h.leased) (All-nil (IsRaisedRight b.job.instance));
      counts = record {
        open_most = omega (arith, may.open_most);
        leased = omega (arith, h.leases_are, may.at_least_splits);
        budget = omega (arith, h.leases_are, may.budget);
        going = λ stop. h.kept;
        kept = omega (arith, h.kept);
        begun = omega (arith, h.begun_leases, h.begun_raised, may.at_most_nodes);
        work = omega (arith, h.leases_are, h.begun_leases, h.begun_raised);
      };
      size = omega arith;
      begun = omega (arith, h.begun_nodes);
      waiting_room = omega (arith, h.waiting_room);
      leased_room = omega (arith, h.capacity);
      log_room = omega (arith, h.log_room, h.leases_are);
      log_size = omega (arith, h.log_room, begun_splits, h.begun_leases);
    }
