-- A waiting entry becomes leased: the step, and what a pool keeps.
use Rattle.std.proofs.Common.{◌≡◌, ℕ, ◌+◌, ◌<◌, ◌≤◌, ◌≤ℤ◌, List, [], ◌∷◌, ◌++◌, map, length, vec_capacity, take, drop, None, refl, sym, ap, ◌∙◌, subst, arith}
use Rattle.std.specs.List.{All, Contains}
use Rattle.std.specs.List.Sorted.{IsPermutation}
use Rattle.std.proofs.lemmas.List.Elements.{All-push}
use Rattle.std.proofs.lemmas.List.Sorted.{Contains-permutation, IsPermutation-sym, IsPermutation-to_front}
use Rattle.bound_heap.specs.declared.entry.Entry.{Entry}
use Rattle.discard_log.specs.declared.node.Node.{Node}
use Rattle.discard_log.specs.LogView.{LogView}
use Rattle.pool_core.specs.declared.pool.Pool.TheInside.{Inside}
use Rattle.pool_core.specs.Job.{Job, IsJob}
use Rattle.pool_core.specs.State.{State, Beginning, split_count}
use Rattle.pool_core.specs.Machine.{Leases}
use Rattle.pool_core.specs.Logged.{IsRaisedRight, bounded_node, settled_bounds}
use Rattle.pool_core.specs.Pool.{PoolFits, state_of}
use Rattle.pool_core.proofs.CountsKept.{counts_lease, leaves_waiting, size_lease}
use Rattle.pool_core.proofs.LoggedLemmas.{right_taken}

-- what the code does with the fields of a pool
pub record IsLeasing (e : Entry) (a b : Inside) : Type 0 where
  pub going : a.stop ≡ None
  pub budget : a.leases < a.job.budget
  pub least : All (λ (other : Entry). e.bound ≤ℤ other.bound) a.waiting.entries
  pub waiting : IsPermutation a.waiting.entries (e ∷ b.waiting.entries)
  pub spare : b.waiting.spare ≡ a.waiting.spare + 1
  pub leased : b.leased.items ≡ a.leased.items ++ e ∷ []
  pub capacity : vec_capacity a.leased ≤ vec_capacity b.leased
  pub leases : b.leases ≡ a.leases + 1
  pub job : b.job ≡ a.job
  pub log : b.log ≡ a.log
  pub fine_bounds : b.fine_bounds.items ≡ a.fine_bounds.items
  pub bounds_capacity : vec_capacity b.fine_bounds ≡ vec_capacity a.fine_bounds
  pub kept : b.kept ≡ a.kept
  pub stop : b.stop ≡ a.stop
  pub begun_nodes : b.begun_nodes ≡ a.begun_nodes
  pub begun_raised : b.begun_raised ≡ a.begun_raised
  pub begun_leases : b.begun_leases ≡ a.begun_leases

-- the beginning is shown by the first nodes and two numbers
pub beginning_is : (m n : List Node) (i j raised raised' leases leases' : ℕ) → m ≡ n → i ≡ j → raised ≡ raised' → leases ≡ leases'
    → let x : Beginning = record { nodes = take i m; raised = raised; leases = leases } in let y : Beginning = record { nodes = take j n; raised = raised'; leases = leases' } in x ≡ y
beginning_is m n i j raised raised' leases leases' e f g h =
    let by_nodes : List Node → Beginning = λ ns. record { nodes = take i ns; raised = raised; leases = leases } in
    let by_count : ℕ → Beginning = λ k. record { nodes = take k n; raised = raised; leases = leases } in
    let by_raised : ℕ → Beginning = λ k. record { nodes = take j n; raised = k; leases = leases } in
    let by_leases : ℕ → Beginning = λ k. record { nodes = take j n; raised = raised'; leases = k } in
    ap by_nodes e ∙ ap by_count f ∙ ap by_raised g ∙ ap by_leases h

-- what the code does is a lease
pub leasing_step : (e : Entry) (a b : Inside) → IsLeasing e a b → Leases e (state_of a) (state_of b)
leasing_step e a b h =
    let last = IsPermutation-sym (a.leased.items ++ e ∷ []) (e ∷ a.leased.items) (IsPermutation-to_front a.leased.items e) in
    record {
      going = h.going;
      budget = h.budget;
      least = h.least;
      waiting = h.waiting;
      leased = rw h.leased last;
      leases = h.leases;
      job = h.job;
      nodes = ap (λ (l : LogView). l.nodes) h.log;
      kept = h.kept;
      stop = h.stop;
      beginning = beginning_is b.log.nodes a.log.nodes b.begun_nodes a.begun_nodes b.begun_raised a.begun_raised b.begun_leases a.begun_leases (ap (λ (l : LogView). l.nodes) h.log) h.begun_nodes h.begun_raised h.begun_leases;
    }

-- and leaves a pool
pub leasing_fits : (e : Entry) (a b : Inside) → IsLeasing e a b → PoolFits a → PoolFits b
leasing_fits e a b h fits =
    let step = leasing_step e a b h in
    let counts = counts_lease e (state_of a) (state_of b) step fits.counts in
    let more = leaves_waiting e (state_of a) (state_of b) step in
    let pool : b.job.pool ≡ a.job.pool = ap (λ (j : Job). j.pool) h.job in
    let budget : b.job.budget ≡ a.job.budget = ap (λ (j : Job). j.budget) h.job in
    let room : b.log.spare ≡ a.log.spare = ap (λ (l : LogView). l.spare) h.log in
    let nodes : b.log.nodes ≡ a.log.nodes = ap (λ (l : LogView). l.nodes) h.log in
    let begun_same : take b.begun_nodes b.log.nodes ≡ take a.begun_nodes a.log.nodes = ap (λ n. take n b.log.nodes) h.begun_nodes ∙ ap (λ (ns : List Node). take a.begun_nodes ns) nodes in
    let begun_splits : split_count (take b.begun_nodes b.log.nodes) ≡ split_count (take a.begun_nodes a.log.nodes) = ap split_count begun_same in
    let new_same : drop b.begun_nodes b.log.nodes ≡ drop a.begun_nodes a.log.nodes = ap (λ n. drop n b.log.nodes) h.begun_nodes ∙ ap (λ (ns : List Node). drop a.begun_nodes ns) nodes in
    let i = a.job.instance in
    let out = right_taken i e a.waiting.entries b.waiting.entries fits.waiting_raised h.waiting in
    let bounds : b.fine_bounds.items ≡ settled_bounds i (drop b.begun_nodes b.log.nodes) = h.fine_bounds ∙ fits.bounds ∙ ap (settled_bounds i) (sym new_same) in
    let count : length b.fine_bounds.items ≡ length a.fine_bounds.items = ap length h.fine_bounds in
    let leased : All (IsRaisedRight i) b.leased.items = subst (All (IsRaisedRight i)) (sym h.leased) (All-push (IsRaisedRight i) a.leased.items e fits.leased_raised out.0) in
    record {
      job = subst IsJob (sym h.job) fits.job;
      bounds = subst (λ (j : Job). b.fine_bounds.items ≡ settled_bounds j.instance (drop b.begun_nodes b.log.nodes)) (sym h.job) bounds;
      begun_bounds = subst (λ (j : Job). map (bounded_node j.instance) (take b.begun_nodes b.log.nodes) ≡ take b.begun_nodes b.log.nodes) (sym h.job) (subst (λ (ns : List Node). map (bounded_node i) ns ≡ ns) (sym begun_same) fits.begun_bounds);
      bounds_room = omega (arith, fits.bounds_room, count, h.bounds_capacity, more.leased, h.leases, h.budget);
      waiting_raised = subst (λ (j : Job). All (IsRaisedRight j.instance) b.waiting.entries) (sym h.job) out.1;
      leased_raised = subst (λ (j : Job). All (IsRaisedRight j.instance) b.leased.items) (sym h.job) leased;
      counts = counts;
      size = size_lease e (state_of a) (state_of b) step fits.size;
      begun = omega (arith, fits.begun, h.begun_nodes, more.nodes);
      waiting_room = omega (arith, fits.waiting_room, h.spare, more.waiting);
      leased_room = omega (arith, fits.leased_room, h.capacity);
      log_room = omega (arith, fits.log_room, more.nodes, more.split, more.leased, h.leases, h.budget);
      log_size = omega (arith, fits.log_size, more.nodes, begun_splits, h.begun_leases);
    }

-- what was leased is among the leased
pub leased_holds : (e : Entry) (before after : State) → Leases e before after → Contains after.leased e
leased_holds e before after h =
    Contains-permutation (e ∷ before.leased) after.leased e h.leased (0, omega arith, refl)
