-- A leased entry comes back: the step, and what a pool keeps.
use Rattle.std.proofs.Common.{◌≡◌, ℕ, zero, suc, ◌+◌, ◌<◌, ◌≤◌, nat_lt, ◌==◌, Bool, true, false, cond, ◌&&◌, ◌||◌, is_some, ℤ, ◌+ℤ◌, List, [], ◌∷◌, ◌++◌, map, length, vec_capacity, take, drop, Option, Some, refl, sym, ap, ◌∙◌, subst, arith}
use Rattle.std.specs.List.{All}
use Rattle.std.specs.List.Sorted.{IsPermutation}
use Rattle.std.proofs.lemmas.List.Sorted.{length_permutation}
use Rattle.std.proofs.lemmas.Bool.{cond_both, false≢true}
use Rattle.std.proofs.lemmas.List.{drop-append-le, length-append, take-append-le}
use Rattle.std.proofs.lemmas.List.Elements.{All-nil, All-cons}
use Rattle.std.proofs.lemmas.List.Sums.{count_by-le-length}
use Rattle.siting_definitions.specs.Excluded.{is_excluded}
use Rattle.siting_definitions.specs.Marks.{is_split, reaches}
use Rattle.bound_heap.specs.declared.entry.Entry.{Entry}
use Rattle.discard_log.specs.declared.node.Node.{Node}
use Rattle.pool_core.specs.declared.stop.Stop.{Stop}
use Rattle.pool_core.specs.declared.stop.Stop.TheVariants.{PoolFull}
use Rattle.pool_core.specs.declared.verdict.Bounds.{Bounds}
use Rattle.pool_core.specs.declared.verdict.Finding.{Finding}
use Rattle.pool_core.specs.declared.verdict.Finding.TheVariants.{Excluded, Bounded, Raise, Part, Floor}
use Rattle.pool_core.specs.declared.pool.Pool.TheInside.{Inside}
use Rattle.pool_core.specs.Job.{Job, IsJob}
use Rattle.pool_core.specs.State.{State, open_count, split_count}
use Rattle.pool_core.specs.Verdict.{bounds_of, fine_in, finding_of, is_part}
use Rattle.pool_core.specs.Machine.{Returns, entries_from, first_stop, is_kept, nodes_from}
use Rattle.pool_core.specs.Logged.{IsRaisedRight, bounded_node, settled_bounds}
use Rattle.pool_core.specs.Pool.{PoolFits, state_of}
use Rattle.pool_core.proofs.CountsKept.{IsFreshRaise, Moves, counts_return, fresh_finding, moves, size_return}
use Rattle.pool_core.proofs.Leasing.{beginning_is}
use Rattle.pool_core.proofs.LoggedLemmas.{IsKeptOf, few_bounds, kept-by, right_joined, right_taken, settled-append}

-- What the code does with the fields of a pool where e comes back with the finding f; k says whether a part isn't made.
pub record Did (e : Entry) (seen : Option ℤ) (f : Finding) (k : Bool) (a b : Inside) : Type 0 where
  pub closed : is_kept (state_of a) f ≡ k
  pub leased : IsPermutation a.leased.items (e ∷ b.leased.items)
  pub capacity : vec_capacity b.leased ≡ vec_capacity a.leased
  pub waiting : IsPermutation (cond k (e ∷ []) (entries_from e.square f) ++ a.waiting.entries) b.waiting.entries
  pub spare : b.waiting.spare + length (cond k (e ∷ []) (entries_from e.square f)) ≡ a.waiting.spare
  pub nodes : b.log.nodes ≡ a.log.nodes ++ cond k [] (nodes_from e.square seen f)
  pub bounds : b.fine_bounds.items ≡ a.fine_bounds.items ++ settled_bounds a.job.instance (cond k [] (nodes_from e.square seen f))
  pub bounds_capacity : vec_capacity a.fine_bounds ≤ vec_capacity b.fine_bounds
  pub log_spare : b.log.spare + length (cond k [] (nodes_from e.square seen f)) ≡ a.log.spare
  pub kept : b.kept ≡ a.kept + cond k 1 0
  pub stop : b.stop ≡ cond k (first_stop a.stop (PoolFull (open_count (state_of a)))) a.stop
  pub leases : b.leases ≡ a.leases
  pub job : b.job ≡ a.job
  pub begun_nodes : b.begun_nodes ≡ a.begun_nodes
  pub begun_raised : b.begun_raised ≡ a.begun_raised
  pub begun_leases : b.begun_leases ≡ a.begun_leases

-- the nodes of the beginning stay
begun_same : (e : Entry) (seen : Option ℤ) (f : Finding) (k : Bool) (a b : Inside) → Did e seen f k a b → PoolFits a → take a.begun_nodes b.log.nodes ≡ take a.begun_nodes a.log.nodes
begun_same e seen f k a b h fits =
    ap (take a.begun_nodes) h.nodes ∙ take-append-le a.begun_nodes a.log.nodes (cond k [] (nodes_from e.square seen f)) fits.begun

-- what the code does is a return
pub did_step : (e : Entry) (seen : Option ℤ) (f : Finding) (k : Bool) (a b : Inside) → Did e seen f k a b → PoolFits a → Returns e seen f (state_of a) (state_of b)
did_step e seen f k a b h fits =
    let same = begun_same e seen f k a b h fits in
    let first = beginning_is b.log.nodes b.log.nodes b.begun_nodes a.begun_nodes b.begun_raised a.begun_raised b.begun_leases a.begun_leases refl h.begun_nodes h.begun_raised h.begun_leases in
    record {
      leased = h.leased;
      waiting = rw h.closed h.waiting;
      nodes = rw h.closed h.nodes;
      kept = rw h.closed h.kept;
      stop = rw h.closed h.stop;
      job = h.job;
      leases = h.leases;
      beginning = rw same at first;
    }

-- a finding logs one node at most
few_nodes : (k : Bool) (e : Entry) (seen : Option ℤ) (f : Finding) → length (cond k [] (nodes_from e.square seen f)) ≤ 1
few_nodes true e seen f = omega arith
few_nodes false e seen Excluded = omega arith
few_nodes false e seen (Bounded b) = omega arith
few_nodes false e seen (Raise b) = omega arith
few_nodes false e seen (Part b) = omega arith
few_nodes false e seen (Floor b) = omega arith

-- and leaves a pool
pub did_fits : (e : Entry) (seen : Option ℤ) (f : Finding) (k : Bool) (a b : Inside) → IsFreshRaise e f → All (IsRaisedRight a.job.instance) (entries_from e.square f) → Did e seen f k a b → PoolFits a → PoolFits b
did_fits e seen f k a b fresh right h fits =
    let entries = cond k (e ∷ []) (entries_from e.square f) in
    let added = cond k [] (nodes_from e.square seen f) in
    let step = did_step e seen f k a b h fits in
    let more : Moves e entries added (cond k 1 0) (state_of a) (state_of b) = rw h.closed at (moves e seen f (state_of a) (state_of b) step) in
    let few : length added ≤ 1 = few_nodes k e seen f in
    let splits : split_count added ≤ length added = count_by-le-length (λ (n : Node). is_split n.mark) added in
    let pool : b.job.pool ≡ a.job.pool = ap (λ (j : Job). j.pool) h.job in
    let budget : b.job.budget ≡ a.job.budget = ap (λ (j : Job). j.budget) h.job in
    let begun_splits : split_count (take b.begun_nodes b.log.nodes) ≡ split_count (take a.begun_nodes a.log.nodes) = ap (λ n. split_count (take n b.log.nodes)) h.begun_nodes ∙ ap split_count (begun_same e seen f k a b h fits) in
    let i = a.job.instance in
    let out = right_taken i e a.leased.items b.leased.items fits.leased_raised h.leased in
    let back : All (IsRaisedRight i) entries = cond_both k (e ∷ []) (entries_from e.square f) (All (IsRaisedRight i)) (λ _. All-cons (IsRaisedRight i) e [] out.0 (All-nil (IsRaisedRight i))) (λ _. right) in
    let begun_kept : take b.begun_nodes b.log.nodes ≡ take a.begun_nodes a.log.nodes = ap (λ n. take n b.log.nodes) h.begun_nodes ∙ begun_same e seen f k a b h fits in
    let new : drop b.begun_nodes b.log.nodes ≡ drop a.begun_nodes a.log.nodes ++ added = ap (λ n. drop n b.log.nodes) h.begun_nodes ∙ ap (drop a.begun_nodes) h.nodes ∙ drop-append-le a.begun_nodes a.log.nodes added fits.begun in
    let bounds : b.fine_bounds.items ≡ settled_bounds i (drop b.begun_nodes b.log.nodes) = h.bounds ∙ ap (λ fs. fs ++ settled_bounds i added) fits.bounds ∙ sym (settled-append i (drop a.begun_nodes a.log.nodes) added) ∙ ap (settled_bounds i) (sym new) in
    let count : length b.fine_bounds.items ≡ length a.fine_bounds.items + length (settled_bounds i added) = ap length h.bounds ∙ length-append a.fine_bounds.items (settled_bounds i added) in
    record {
      job = subst IsJob (sym h.job) fits.job;
      bounds = subst (λ (j : Job). b.fine_bounds.items ≡ settled_bounds j.instance (drop b.begun_nodes b.log.nodes)) (sym h.job) bounds;
      begun_bounds = subst (λ (j : Job). map (bounded_node j.instance) (take b.begun_nodes b.log.nodes) ≡ take b.begun_nodes b.log.nodes) (sym h.job) (subst (λ (ns : List Node). map (bounded_node i) ns ≡ ns) (sym begun_kept) fits.begun_bounds);
      bounds_room = omega (arith, fits.bounds_room, h.bounds_capacity, count, few_bounds i k e.square seen f, length_permutation a.leased.items (e ∷ b.leased.items) h.leased, h.leases);
      waiting_raised = subst (λ (j : Job). All (IsRaisedRight j.instance) b.waiting.entries) (sym h.job) (right_joined i entries a.waiting.entries b.waiting.entries back fits.waiting_raised h.waiting);
      leased_raised = subst (λ (j : Job). All (IsRaisedRight j.instance) b.leased.items) (sym h.job) out.1;
      counts = counts_return e seen f (state_of a) (state_of b) fresh step fits.counts;
      size = size_return e seen f (state_of a) (state_of b) step fits.size;
      begun = omega (arith, fits.begun, h.begun_nodes, more.nodes);
      waiting_room = omega (arith, fits.waiting_room, h.spare, more.waiting);
      leased_room = omega (arith, fits.leased_room, h.capacity);
      log_room = omega (arith, fits.log_room, h.log_spare, more.nodes, more.split, more.leased, h.leases);
      log_size = omega (arith, fits.log_size, h.log_spare, more.nodes, begun_splits, h.begun_leases);
    }

-- ---- what was given, and what comes back
-- a return of what was given is one of what it shows
pub carry : (e e' : Entry) (seen : Option ℤ) (f : Finding) (s s' t : State) → e ≡ e' → s ≡ s' → Returns e seen f s t → Returns e' seen f s' t
carry e e' seen f s s' t same before h =
    subst (λ (x : Entry). Returns x seen f s' t) same (subst (λ (x : State). Returns e seen f x t) before h)

-- a finding that is the one on an entry raises only what wasn't raised
pub fresh_given : (j : Job) (e e' : Entry) (seen : Option ℤ) (f : Finding) → e ≡ e' → f ≡ finding_of j e' seen → IsFreshRaise e f
fresh_given j e e' seen f same verdict =
    subst (λ (x : Finding). IsFreshRaise e x) (sym verdict) (subst (λ (x : Entry). IsFreshRaise x (finding_of j e' seen)) (sym same) (fresh_finding j e' seen))

-- what is kept and what waits by the finding on an entry that was leased
pub kept_given : (a : Inside) (s : State) (e e' : Entry) (rest : List Entry) (seen : Option ℤ) (f : Finding) (bs : Bounds) → state_of a ≡ s → e ≡ e' → PoolFits a → IsPermutation a.leased.items (e ∷ rest)
    → f ≡ finding_of s.job e' seen → bs ≡ bounds_of s.job e' → IsKeptOf a.job.instance e.square seen f (fine_in bs)
kept_given a s e e' rest seen f bs view same fits out found known =
    let right = right_taken a.job.instance e a.leased.items rest fits.leased_raised out in
    kept-by a.job s.job e e' seen f bs (ap (λ (t : State). t.job) view) same right.0 found known

-- a part is kept exactly where the code finds it closed
pub closed_is : (a : Inside) (s : State) (f : Finding) (count : ℕ) (closed k : Bool) → state_of a ≡ s → count ≡ open_count s → closed ≡ (is_part f && (is_some a.stop || nat_lt a.job.pool (count + 3))) → closed ≡ k → is_kept (state_of a) f ≡ k
closed_is a s f count closed k view counted tested is =
    let n : count ≡ open_count (state_of a) = counted ∙ ap open_count (sym view) in
    sym (ap (λ (m : ℕ). is_part f && (is_some a.stop || nat_lt a.job.pool (m + 3))) n) ∙ sym tested ∙ is

-- the stop is the first one, by the open squares
pub stop_is : (a : Inside) (s : State) (count : ℕ) (stop : Stop) → state_of a ≡ s → count ≡ open_count s → Some stop ≡ first_stop a.stop (PoolFull count) → Some stop ≡ first_stop a.stop (PoolFull (open_count (state_of a)))
stop_is a s count stop view counted is =
    is ∙ ap (λ (m : ℕ). first_stop a.stop (PoolFull m)) (counted ∙ ap open_count (sym view))

-- ---- a part has a level above 0
coarse_level : (b : ℤ) (settled short : Bool) (level : ℕ) (raised : Finding) (c : ℤ) → (raised ≡ Part b → ⊥) → cond settled (Bounded c) (cond (nat_lt 0 level && short) (Part c) raised) ≡ Part b → 0 < level
coarse_level b true short level raised c other h = cc
coarse_level b false short zero raised c other h = absurd (other h)
coarse_level b false short (suc n) raised c other h = omega arith

fine_level : (b c : ℤ) (settled : Bool) (level : ℕ) → cond settled (Bounded c) (cond (level == 0) (Floor c) (Part c)) ≡ Part b → 0 < level
fine_level b c true level h = cc
fine_level b c false zero h = cc
fine_level b c false (suc n) h = omega arith

either_level : (b : ℤ) (excluded raised : Bool) (fine coarse : Finding) (level : ℕ) → (fine ≡ Part b → 0 < level) → (coarse ≡ Part b → 0 < level) → cond excluded Excluded (cond raised fine coarse) ≡ Part b → 0 < level
either_level b true raised fine coarse level f g h = cc
either_level b false true fine coarse level f g h = f h
either_level b false false fine coarse level f g h = g h

-- a square that is to be split has a level above 0
pub part_level : (j : Job) (e : Entry) (seen : Option ℤ) (b : ℤ) → finding_of j e seen ≡ Part b → 0 < e.square.level
unfolding finding_of
part_level j e seen b h =
    either_level b (is_excluded j.instance e.square) e.raised _ _ e.square.level
    (fine_level b e.bound (reaches seen (e.bound +ℤ j.gap)) e.square.level)
    (coarse_level b _ _ e.square.level _ _ (λ e. cc)) h

-- only a square above level 0 is found to be split
found_level : (j : Job) (e : Entry) (seen : Option ℤ) (f : Finding) → f ≡ finding_of j e seen → is_part f ≡ true → 0 < e.square.level
found_level j e seen Excluded is part = absurd (false≢true part)
found_level j e seen (Bounded b) is part = absurd (false≢true part)
found_level j e seen (Raise b) is part = absurd (false≢true part)
found_level j e seen (Part b) is part = part_level j e seen b (sym is)
found_level j e seen (Floor b) is part = absurd (false≢true part)

-- a square on which the finding is to split it has a level above 0
pub level_given : (j : Job) (e e' : Entry) (seen : Option ℤ) (f : Finding) → e ≡ e' → f ≡ finding_of j e' seen → is_part f ≡ true → 0 < e.square.level
level_given j e e' seen f same verdict part =
    subst (λ (x : Entry). 0 < x.square.level) (sym same) (found_level j e' seen f verdict part)
