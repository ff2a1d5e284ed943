-- A pool in which the root waits: its state, and what a pool keeps.
use Rattle.std.proofs.Common.{◌≡◌, ℕ, ◌+◌, ◌*◌, List, [], ◌∷◌, map, length, vec_capacity, take, drop, Option, None, refl, sym, ap, ◌∙◌, subst, arith}
use Rattle.std.specs.List.{All}
use Rattle.std.specs.List.Sorted.{IsPermutation}
use Rattle.std.proofs.lemmas.Bool.{false≢true}
use Rattle.std.proofs.lemmas.List.Elements.{All-nil, All-cons}
use Rattle.std.proofs.lemmas.List.Sorted.{All-permutation, length_permutation}
use Rattle.bound_heap.specs.declared.entry.Entry.{Entry}
use Rattle.discard_log.specs.LogView.{LogView}
use Rattle.discard_log.specs.declared.node.Node.{Node}
use Rattle.pool_core.specs.declared.stop.Stop.{Stop}
use Rattle.pool_core.specs.declared.pool.Pool.TheInside.{Inside}
use Rattle.pool_core.specs.Job.{Job, IsJob}
use Rattle.pool_core.specs.State.{State, Beginning, first_state, raised_count, root_entry, split_count}
use Rattle.pool_core.proofs.Leasing.{beginning_is}
use Rattle.pool_core.specs.Logged.{IsRaisedRight, bounded_node, settled_bounds}
use Rattle.pool_core.specs.Pool.{PoolFits, state_of}

-- a list of one element has no other order
all_one : {X : Type 0} (x : X) (ys : List X) → length ys ≡ 1 → All (λ y. y ≡ x) ys → ys ≡ x ∷ []
all_one x [] h all = absurd (omega arith)
all_one x (y ∷ []) h all = ap (λ z. z ∷ []) (all 0 y (omega arith))
all_one x (y ∷ z ∷ zs) h all = absurd (omega arith)

-- one element has one order
pub one_order : {X : Type 0} (x : X) (ys : List X) → IsPermutation (x ∷ []) ys → ys ≡ x ∷ []
one_order x ys p =
    all_one x ys (length_permutation (x ∷ []) ys p) (All-permutation (λ y. y ≡ x) (x ∷ []) ys p (All-cons (λ y. y ≡ x) x [] refl (λ k d l. absurd (omega arith))))

-- what the code makes of a job j
pub record IsBeginning (j : Job) (b : Inside) : Type 0 where
  pub job : b.job ≡ j
  pub waiting : b.waiting.entries ≡ root_entry j ∷ []
  pub spare : b.waiting.spare + 1 ≡ j.pool
  pub leased : b.leased.items ≡ []
  pub capacity : vec_capacity b.leased ≡ j.pool
  pub log : b.log ≡ record { nodes = []; spare = 4 * j.budget + 1 }
  pub fine_bounds : b.fine_bounds.items ≡ []
  pub bounds_capacity : vec_capacity b.fine_bounds ≡ j.budget
  pub leases : b.leases ≡ 0
  pub kept : b.kept ≡ 0
  pub stop : b.stop ≡ None
  pub begun_nodes : b.begun_nodes ≡ 0
  pub begun_raised : b.begun_raised ≡ 0
  pub begun_leases : b.begun_leases ≡ 0

state_is : (j j' : Job) (waiting waiting' leased leased' : List Entry) (nodes nodes' : List Node) (leases leases' kept kept' : ℕ) (stop stop' : Option Stop) (begun begun' : Beginning)
    → j ≡ j' → waiting ≡ waiting' → leased ≡ leased' → nodes ≡ nodes' → leases ≡ leases' → kept ≡ kept' → stop ≡ stop' → begun ≡ begun'
    → let s : State = record { job = j; waiting = waiting; leased = leased; nodes = nodes; leases = leases; kept = kept; stop = stop; beginning = begun } in let t : State = record { job = j'; waiting = waiting'; leased = leased'; nodes = nodes'; leases = leases'; kept = kept'; stop = stop'; beginning = begun' } in s ≡ t
state_is j j' waiting waiting' leased leased' nodes nodes' leases leases' kept kept' stop stop' begun begun' e f g h i k l m = cc

-- what `begin` makes shows as the first state
pub beginning_state : (j : Job) (b : Inside) → IsBeginning j b → state_of b ≡ first_state j
beginning_state j b h =
    let none : List Node = [] in
    let empty : Option Stop = None in
    let nodes = ap (λ (l : LogView). l.nodes) h.log in
    state_is b.job j b.waiting.entries (root_entry j ∷ []) b.leased.items [] b.log.nodes none b.leases 0 b.kept 0 b.stop empty _ _
    h.job h.waiting h.leased nodes h.leases h.kept h.stop
    (beginning_is b.log.nodes none b.begun_nodes 0 b.begun_raised 0 b.begun_leases 0 nodes h.begun_nodes h.begun_raised h.begun_leases)

-- what `begin` makes is a pool
pub beginning_fits : (j : Job) (b : Inside) → IsJob j → IsBeginning j b → PoolFits b
beginning_fits j b lawful h =
    let pool : b.job.pool ≡ j.pool = ap (λ (j : Job). j.pool) h.job in
    let budget : b.job.budget ≡ j.budget = ap (λ (j : Job). j.budget) h.job in
    let nodes : b.log.nodes ≡ [] = ap (λ (l : LogView). l.nodes) h.log in
    let spare : b.log.spare ≡ 4 * j.budget + 1 = ap (λ (l : LogView). l.spare) h.log in
    let no_nodes : length b.log.nodes ≡ 0 = ap length nodes in
    let no_splits : split_count b.log.nodes ≡ 0 = ap split_count nodes in
    let one : length b.waiting.entries ≡ 1 = ap length h.waiting in
    let fresh : raised_count b.waiting.entries ≡ 0 = ap raised_count h.waiting in
    let none_out : length b.leased.items ≡ 0 = ap length h.leased in
    let none_raised : raised_count b.leased.items ≡ 0 = ap raised_count h.leased in
    let begun : length (take b.begun_nodes b.log.nodes) ≡ 0 = ap (λ (ns : List Node). length (take b.begun_nodes ns)) nodes ∙ ap (λ (n : ℕ). length (take n (let ms : List Node = [] in ms))) h.begun_nodes in
    let none : List Node = [] in
    let first : take b.begun_nodes b.log.nodes ≡ none = ap (λ (ns : List Node). take b.begun_nodes ns) nodes ∙ ap (λ (n : ℕ). take n none) h.begun_nodes in
    let new : drop b.begun_nodes b.log.nodes ≡ none = ap (λ (ns : List Node). drop b.begun_nodes ns) nodes ∙ ap (λ (n : ℕ). drop n none) h.begun_nodes in
    let no_bounds : length b.fine_bounds.items ≡ 0 = ap length h.fine_bounds in
    let begun_splits : split_count (take b.begun_nodes b.log.nodes) ≡ 0 = ap (λ (ns : List Node). split_count (take b.begun_nodes ns)) nodes ∙ ap (λ (n : ℕ). split_count (take n (let ms : List Node = [] in ms))) h.begun_nodes in
    record {
      job = subst IsJob (sym h.job) lawful;
      bounds = h.fine_bounds ∙ ap (settled_bounds b.job.instance) (sym new);
      begun_bounds = subst (λ (ns : List Node). map (bounded_node b.job.instance) ns ≡ ns) (sym first) refl;
      bounds_room = omega (arith, no_bounds, h.bounds_capacity, h.leases, none_out);
      waiting_raised = subst (All (IsRaisedRight b.job.instance)) (sym h.waiting) (All-cons (IsRaisedRight b.job.instance) (root_entry j) [] (λ yes. absurd (false≢true yes)) (All-nil (IsRaisedRight b.job.instance)));
      leased_raised = subst (All (IsRaisedRight b.job.instance)) (sym h.leased) (All-nil (IsRaisedRight b.job.instance));
      counts = record {
        open_most = omega (arith, lawful.pool_least);
        leased = omega (arith, h.leases);
        budget = omega (arith, h.leases);
        going = λ stop. h.kept;
        kept = omega (arith, h.kept);
        begun = omega (arith, h.begun_leases);
        work = omega (arith, h.leases, h.begun_raised);
      };
      size = omega arith;
      begun = omega (arith, h.begun_nodes);
      waiting_room = omega (arith, h.spare);
      leased_room = omega (arith, h.capacity);
      log_room = omega (arith, h.leases);
      log_size = omega (arith, begun_splits, h.begun_leases);
    }
