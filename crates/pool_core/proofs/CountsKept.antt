-- The counts of a state at each step of the machine.
use Rattle.std.proofs.Common.{◌≡◌, ℕ, ◌+◌, ◌*◌, ◌<◌, ◌≤◌, nat_lt, Bool, true, false, cond, not, is_some, List, [], ◌∷◌, ◌++◌, length, length-append, count_by, Option, None, Some, ℤ, ◌+ℤ◌, ◌==◌, ◌||◌, refl, sym, ◌∙◌, ap, arith}
use Rattle.std.specs.Prelude.{⊤}
use Rattle.std.specs.List.Sorted.{IsPermutation}
use Rattle.std.proofs.lemmas.Bool.{true≢false}
use Rattle.std.proofs.lemmas.Bool.Decides.{nat_tests}
use Rattle.siting_definitions.specs.Excluded.{is_excluded}
use Rattle.siting_definitions.specs.Marks.{is_split, reaches}
use Rattle.siting_definitions.proofs.Totals.{count_by-append}
use Rattle.dyadic_square.proofs.Bag.{once, total-length, total-permutation, count_by-total}
use Rattle.discard_log.specs.declared.node.Node.{Node}
use Rattle.bound_heap.specs.declared.entry.Entry.{Entry}
use Rattle.pool_core.specs.declared.stop.Stop.{Stop}
use Rattle.pool_core.specs.declared.stop.Stop.TheVariants.{PoolFull, Budget}
use Rattle.pool_core.specs.declared.verdict.Finding.{Finding}
use Rattle.pool_core.specs.declared.verdict.Finding.TheVariants.{Excluded, Bounded, Raise, Part, Floor}
use Rattle.pool_core.specs.Job.{Job}
use Rattle.pool_core.specs.State.{State, Beginning, open_count, split_count, unsplit_count, raised_count}
use Rattle.pool_core.specs.Verdict.{finding_of}
use Rattle.pool_core.specs.Machine.{Leases, Halts, Returns, is_kept, entries_from, nodes_from, first_stop}
use Rattle.pool_core.specs.Sound.{SearchCountsFit, StopFits}

-- ---- counts of lists
-- a list in another order is as long
pub length-permutation : {X : Type 0} (xs ys : List X) → IsPermutation xs ys → length ys ≡ length xs
length-permutation xs ys p = sym (total-length ys) ∙ total-permutation (λ _. 1) xs ys p ∙ total-length xs

-- in another order as many elements pass a test
pub count_by-permutation : {X : Type 0} (p : X → Bool) (xs ys : List X) → IsPermutation xs ys → count_by p ys ≡ count_by p xs
count_by-permutation p xs ys h =
    count_by-total p ys ∙ total-permutation (λ x. once (p x)) xs ys h ∙ sym (count_by-total p xs)

-- one element more
pub count_by-cons : {X : Type 0} (p : X → Bool) (x : X) (xs : List X) → count_by p (x ∷ xs) ≡ once (p x) + count_by p xs
count_by-cons p x xs = count_by-total p (x ∷ xs) ∙ ap (λ n. once (p x) + n) (sym (count_by-total p xs))

-- ---- what a step changes in the counts
-- an entry of the leased comes back: entries join those that wait, nodes those that are logged, and parts the kept ones
pub record Moves (e : Entry) (entries : List Entry) (added : List Node) (parts : ℕ) (before after : State) : Type 0 where
  pub leased : length before.leased ≡ 1 + length after.leased
  pub leased_raised : raised_count before.leased ≡ once e.raised + raised_count after.leased
  pub waiting : length after.waiting ≡ length entries + length before.waiting
  pub waiting_raised : raised_count after.waiting ≡ raised_count entries + raised_count before.waiting
  pub nodes : length after.nodes ≡ length before.nodes + length added
  pub split : split_count after.nodes ≡ split_count before.nodes + split_count added
  pub unsplit : unsplit_count after.nodes ≡ unsplit_count before.nodes + unsplit_count added
  pub kept : after.kept ≡ before.kept + parts
  pub pool : after.job.pool ≡ before.job.pool
  pub budget : after.job.budget ≡ before.job.budget
  pub leases : after.leases ≡ before.leases
  pub begun_nodes : after.beginning.nodes ≡ before.beginning.nodes
  pub begun_raised : after.beginning.raised ≡ before.beginning.raised
  pub begun_leases : after.beginning.leases ≡ before.beginning.leases

waiting_counts : (p : Entry → Bool) (entries before after : List Entry) → IsPermutation (entries ++ before) after → count_by p after ≡ count_by p entries + count_by p before
waiting_counts p entries before after h =
    count_by-permutation p (entries ++ before) after h ∙ count_by-append p entries before

leased_counts : (p : Entry → Bool) (e : Entry) (before after : List Entry) → IsPermutation before (e ∷ after) → count_by p before ≡ once (p e) + count_by p after
leased_counts p e before after h =
    sym (count_by-permutation p before (e ∷ after) h) ∙ count_by-cons p e after

node_counts : (p : Node → Bool) (before added after : List Node) → after ≡ before ++ added → count_by p after ≡ count_by p before + count_by p added
node_counts p before added after h = ap (count_by p) h ∙ count_by-append p before added

-- what a return moves, in counts
pub moves : (e : Entry) (seen : Option ℤ) (f : Finding) (before after : State) → Returns e seen f before after
    → Moves e (cond (is_kept before f) (e ∷ []) (entries_from e.square f)) (cond (is_kept before f) [] (nodes_from e.square seen f)) (cond (is_kept before f) 1 0) before after
moves e seen f before after h =
    let entries = cond (is_kept before f) (e ∷ []) (entries_from e.square f) in
    let added = cond (is_kept before f) [] (nodes_from e.square seen f) in
    record {
      leased = sym (length-permutation before.leased (e ∷ after.leased) h.leased) ∙ omega arith;
      leased_raised = leased_counts (λ (e : Entry). e.raised) e before.leased after.leased h.leased;
      waiting = length-permutation (entries ++ before.waiting) after.waiting h.waiting ∙ length-append entries before.waiting;
      waiting_raised = waiting_counts (λ (e : Entry). e.raised) entries before.waiting after.waiting h.waiting;
      nodes = ap length h.nodes ∙ length-append before.nodes added;
      split = node_counts (λ (n : Node). is_split n.mark) before.nodes added after.nodes h.nodes;
      unsplit = node_counts (λ (n : Node). not (is_split n.mark)) before.nodes added after.nodes h.nodes;
      kept = h.kept;
      pool = ap (λ (j : Job). j.pool) h.job;
      budget = ap (λ (j : Job). j.budget) h.job;
      leases = h.leases;
      begun_nodes = ap (λ (b : Beginning). b.nodes) h.beginning;
      begun_raised = ap (λ (b : Beginning). b.raised) h.beginning;
      begun_leases = ap (λ (b : Beginning). b.leases) h.beginning;
    }

-- ---- what is_kept says
kept_says : (some : Bool) (pool n : ℕ) → (some || nat_lt pool n) ≡ true → some ≡ false → pool < n
kept_says true pool n h none = absurd (true≢false none)
kept_says false pool n h none = grind (arith, nat_tests)

made_says : (some : Bool) (pool n : ℕ) → (some || nat_lt pool n) ≡ false → (some ≡ false) × (n ≤ pool)
made_says true pool n h = absurd (true≢false h)
made_says false pool n h = (refl, grind (arith, nat_tests))

first_stop-some : (o : Option Stop) (s : Stop) → first_stop o s ≡ None → ⊥
first_stop-some None s h = cc
first_stop-some (Some t) s h = cc

-- ---- the counts that a step leaves
-- what joins the counts, and that it is no more than the lease of the entry
record IsPaid (e : Entry) (entries : List Entry) (added : List Node) (parts : ℕ) : Type 0 where
  pub paid : 1 + once e.raised ≤ 2 * length added + raised_count entries + parts
  pub splits : split_count added ≤ 1
  pub parts_wait : parts ≤ length entries

-- a finding that is paid for by its lease leaves the counts as they have to be
counts_moved : (e : Entry) (entries : List Entry) (added : List Node) (parts : ℕ) (before after : State)
    → Moves e entries added parts before after → IsPaid e entries added parts → open_count after ≤ before.job.pool → (after.stop ≡ None → after.kept ≡ 0)
    → SearchCountsFit before → SearchCountsFit after
counts_moved e entries added parts before after m paid most going fits = record {
  open_most = omega (arith, most);
  leased = omega arith;
  budget = omega arith;
  going = going;
  kept = omega arith;
  begun = let e : length after.beginning.nodes ≡ length before.beginning.nodes = ap length m.begun_nodes in omega arith;
  work = let e : length after.beginning.nodes ≡ length before.beginning.nodes = ap length m.begun_nodes in omega arith;
}

-- ---- the findings, each with what it pays
once_le : (b : Bool) → once b ≤ 1
once_le true = omega arith
once_le false = omega arith

paid_kept : (e : Entry) → IsPaid e (e ∷ []) [] 1
paid_kept e = record { paid = omega (arith, count_by-cons (λ (e : Entry). e.raised) e []); splits = omega arith; parts_wait = omega arith }

-- a node that is logged is paid for
paid_node : (e : Entry) (n : Node) → IsPaid e [] (n ∷ []) 0
paid_node e n = record {
  paid = let r : once e.raised ≤ 1 = once_le e.raised in omega arith;
  splits = let r : once (is_split n.mark) ≤ 1 = once_le (is_split n.mark) in omega (arith, count_by-cons (λ (n : Node). is_split n.mark) n []);
  parts_wait = omega arith;
}

paid_raise : (e : Entry) (b : ℤ) → e.raised ≡ false → IsPaid e (entries_from e.square (Raise b)) [] 0
paid_raise e b fresh =
    let r : once e.raised ≡ 0 = ap once fresh in
    record { paid = omega (arith, count_by-total (λ (e : Entry). e.raised) (entries_from e.square (Raise b))); splits = omega arith; parts_wait = omega arith }

-- so are a split and the four quarters
paid_part : (e : Entry) (seen : Option ℤ) (b : ℤ) → IsPaid e (entries_from e.square (Part b)) (nodes_from e.square seen (Part b)) 0
paid_part e seen b = record {
  paid = let r : once e.raised ≤ 1 = once_le e.raised in omega arith;
  splits = omega (arith, count_by-total (λ (n : Node). is_split n.mark) (nodes_from e.square seen (Part b)));
  parts_wait = omega arith;
}

counts_node : (e : Entry) (n : Node) (before after : State) → Moves e [] (n ∷ []) 0 before after → after.stop ≡ before.stop → SearchCountsFit before → SearchCountsFit after
counts_node e n before after m stop fits =
    counts_moved e [] (n ∷ []) 0 before after m (paid_node e n) (omega arith) (λ none. omega (arith, m.kept, fits.going (sym stop ∙ none))) fits

-- a split leaves the counts as they have to be, whether it is made or kept
counts_part : (e : Entry) (seen : Option ℤ) (b : ℤ) (before after : State) (k : Bool) → is_kept before (Part b) ≡ k
    → Moves e (cond k (e ∷ []) (entries_from e.square (Part b))) (cond k [] (nodes_from e.square seen (Part b))) (cond k 1 0) before after
    → after.stop ≡ cond k (first_stop before.stop (PoolFull (open_count before))) before.stop → SearchCountsFit before → SearchCountsFit after
counts_part e seen b before after true is m stop fits =
    counts_moved e (e ∷ []) [] 1 before after m (paid_kept e) (omega (arith, m.waiting, m.leased, fits.open_most))
    (λ none. absurd (first_stop-some before.stop (PoolFull (open_count before)) (sym stop ∙ none))) fits
counts_part e seen b before after false is m stop fits =
    let made = made_says (is_some before.stop) before.job.pool (open_count before + 3) is in
    counts_moved e (entries_from e.square (Part b)) (nodes_from e.square seen (Part b)) 0 before after m (paid_part e seen b)
    (omega (arith, m.waiting, m.leased, made.1)) (λ none. omega (arith, m.kept, fits.going (sym stop ∙ none))) fits

-- whether a finding raises
abbrev pub IsFreshRaise : Entry → Finding → Type 0
IsFreshRaise e Excluded = ⊤
IsFreshRaise e (Bounded b) = ⊤
IsFreshRaise e (Raise b) = e.raised ≡ false
IsFreshRaise e (Part b) = ⊤
IsFreshRaise e (Floor b) = ⊤

-- a raise comes only of an entry that wasn't raised
pub counts_return : (e : Entry) (seen : Option ℤ) (f : Finding) (before after : State) → IsFreshRaise e f → Returns e seen f before after → SearchCountsFit before → SearchCountsFit after
counts_return e seen Excluded before after fresh h fits =
    counts_node e _ before after (moves e seen Excluded before after h) h.stop fits
counts_return e seen (Bounded b) before after fresh h fits =
    counts_node e _ before after (moves e seen (Bounded b) before after h) h.stop fits
counts_return e seen (Raise b) before after fresh h fits =
    let m = moves e seen (Raise b) before after h in
    counts_moved e (entries_from e.square (Raise b)) [] 0 before after m (paid_raise e b fresh) (omega (arith, m.waiting, m.leased, fits.open_most))
    (λ none. omega (arith, m.kept, fits.going (sym h.stop ∙ none))) fits
counts_return e seen (Part b) before after fresh h fits =
    counts_part e seen b before after (is_kept before (Part b)) refl (moves e seen (Part b) before after h) h.stop fits
counts_return e seen (Floor b) before after fresh h fits =
    counts_node e _ before after (moves e seen (Floor b) before after h) h.stop fits

-- ---- a lease
-- an entry of those that wait becomes leased
pub record Leaves (e : Entry) (before after : State) : Type 0 where
  pub waiting : length before.waiting ≡ 1 + length after.waiting
  pub waiting_raised : raised_count before.waiting ≡ once e.raised + raised_count after.waiting
  pub leased : length after.leased ≡ 1 + length before.leased
  pub leased_raised : raised_count after.leased ≡ once e.raised + raised_count before.leased
  pub pool : after.job.pool ≡ before.job.pool
  pub budget : after.job.budget ≡ before.job.budget
  pub begun_nodes : length after.beginning.nodes ≡ length before.beginning.nodes
  pub begun_raised : after.beginning.raised ≡ before.beginning.raised
  pub begun_leases : after.beginning.leases ≡ before.beginning.leases
  pub nodes : length after.nodes ≡ length before.nodes
  pub split : split_count after.nodes ≡ split_count before.nodes

-- what a lease moves, in counts
pub leaves_waiting : (e : Entry) (before after : State) → Leases e before after → Leaves e before after
leaves_waiting e before after h = record {
  waiting = sym (length-permutation before.waiting (e ∷ after.waiting) h.waiting) ∙ omega arith;
  waiting_raised = leased_counts (λ (e : Entry). e.raised) e before.waiting after.waiting h.waiting;
  leased = length-permutation (e ∷ before.leased) after.leased h.leased ∙ omega arith;
  leased_raised = count_by-permutation (λ (e : Entry). e.raised) (e ∷ before.leased) after.leased h.leased ∙ count_by-cons (λ (e : Entry). e.raised) e before.leased;
  pool = ap (λ (j : Job). j.pool) h.job;
  budget = ap (λ (j : Job). j.budget) h.job;
  begun_nodes = ap (λ (b : Beginning). length b.nodes) h.beginning;
  begun_raised = ap (λ (b : Beginning). b.raised) h.beginning;
  begun_leases = ap (λ (b : Beginning). b.leases) h.beginning;
  nodes = ap length h.nodes;
  split = ap split_count h.nodes;
}

-- a lease keeps the counts
pub counts_lease : (e : Entry) (before after : State) → Leases e before after → SearchCountsFit before → SearchCountsFit after
counts_lease e before after h fits =
    let m = leaves_waiting e before after h in
    let none = fits.going h.going in
    record {
      open_most = omega arith;
      leased = omega (arith, h.leases);
      budget = omega (arith, h.leases, h.budget);
      going = λ stop. h.kept ∙ none;
      kept = omega (arith, h.kept);
      begun = omega arith;
      work = omega (arith, h.leases, h.kept);
    }

-- ---- a halt
-- a halt keeps the counts
pub counts_halt : (before after : State) → Halts before after → SearchCountsFit before → SearchCountsFit after
counts_halt before after h fits =
    rw h.halted
    (record {
      open_most = fits.open_most;
      leased = fits.leased;
      budget = fits.budget;
      going = λ stop. fits.going h.going;
      kept = fits.kept;
      begun = fits.begun;
      work = fits.work;
    })

-- ---- stops
-- the stop of a halt fits
pub stop_halt : (before after : State) → Halts before after → StopFits after after.stop
stop_halt before after h = rw h.halted (refl, h.spent)

-- where a lease is given there is no stop
pub stop_lease : (e : Entry) (before after : State) → Leases e before after → StopFits after after.stop
stop_lease e before after h = rw (h.stop ∙ h.going) tt

-- open squares and unsplit nodes are no fewer after a step that isn't a part, and leases, pool and budget stay
stop_moved : (before after : State) (stop : Option Stop) → open_count before + unsplit_count before.nodes ≤ open_count after + unsplit_count after.nodes
    → after.leases ≡ before.leases → after.job ≡ before.job → after.beginning ≡ before.beginning → StopFits before stop → StopFits after stop
stop_moved before after None more leases job begun fits = tt
stop_moved before after (Some (Budget n)) more leases job begun fits =
    let budget : after.job.budget ≡ before.job.budget = ap (λ (j : Job). j.budget) job in
    (fits.0 ∙ sym leases, leases ∙ fits.1 ∙ sym budget)
stop_moved before after (Some (PoolFull count)) more leases job begun fits =
    let pool : after.job.pool ≡ before.job.pool = ap (λ (j : Job). j.pool) job in
    let unsplit : unsplit_count after.beginning.nodes ≡ unsplit_count before.beginning.nodes = ap (λ (b : Beginning). unsplit_count b.nodes) begun in
    (fits.0, omega (arith, fits.1), omega (arith, fits.2), omega (arith, fits.3))

begun_unsplit : (s : State) → ((later : List Node) × (s.nodes ≡ s.beginning.nodes ++ later)) → unsplit_count s.beginning.nodes ≤ unsplit_count s.nodes
begun_unsplit s begun =
    let e : unsplit_count s.nodes ≡ unsplit_count s.beginning.nodes + unsplit_count begun.0 = node_counts (λ (n : Node). not (is_split n.mark)) s.beginning.nodes begun.0 s.nodes begun.1 in
    omega arith

-- a node that is logged leaves a stop as it has to be
stop_node : (e : Entry) (n : Node) (before after : State) → is_split n.mark ≡ false → Moves e [] (n ∷ []) 0 before after → after.job ≡ before.job → after.beginning ≡ before.beginning → after.stop ≡ before.stop → StopFits before before.stop → StopFits after after.stop
stop_node e n before after leaf m job begun stop fits =
    let one : once (not (is_split n.mark)) ≡ 1 = ap (λ b. once (not b)) leaf in
    rw stop
    (stop_moved before after before.stop
    (omega (arith, m.waiting, m.leased, m.unsplit, count_by-cons (λ (n : Node). not (is_split n.mark)) n []))
    m.leases job begun fits)

-- a part that isn't made
stop_kept : (before after : State) (stop : Option Stop) → is_some stop || nat_lt before.job.pool (open_count before + 3) ≡ true
    → 1 ≤ open_count before → open_count before ≤ before.job.pool → unsplit_count before.beginning.nodes ≤ unsplit_count before.nodes → StopFits before stop → StopFits before (first_stop stop (PoolFull (open_count before)))
stop_kept before after None is one most begun fits = (one, most, kept_says false before.job.pool (open_count before + 3) is refl, omega arith)
stop_kept before after (Some s) is one most begun fits = fits

stop_made : (before after : State) (stop : Option Stop) → is_some stop ≡ false → StopFits after stop
stop_made before after None none = tt
stop_made before after (Some s) none = absurd (true≢false none)

-- so does a split, whether it is made or kept
stop_part : (e : Entry) (seen : Option ℤ) (b : ℤ) (before after : State) (k : Bool) → is_kept before (Part b) ≡ k
    → Moves e (cond k (e ∷ []) (entries_from e.square (Part b))) (cond k [] (nodes_from e.square seen (Part b))) (cond k 1 0) before after
    → after.stop ≡ cond k (first_stop before.stop (PoolFull (open_count before))) before.stop → after.job ≡ before.job → after.beginning ≡ before.beginning
    → unsplit_count before.beginning.nodes ≤ unsplit_count before.nodes → open_count before ≤ before.job.pool → StopFits before before.stop → StopFits after after.stop
stop_part e seen b before after true is m stop job begun more most fits =
    rw stop
    (stop_moved before after (first_stop before.stop (PoolFull (open_count before))) (omega (arith, m.waiting, m.leased, m.unsplit)) m.leases job begun
    (stop_kept before after before.stop is (omega (arith, m.leased)) most more fits))
stop_part e seen b before after false is m stop job begun more most fits =
    rw stop (stop_made before after before.stop (made_says (is_some before.stop) before.job.pool (open_count before + 3) is).0)

-- a return keeps what a stop says
pub stop_return : (e : Entry) (seen : Option ℤ) (f : Finding) (before after : State) → Returns e seen f before after
    → ((later : List Node) × (before.nodes ≡ before.beginning.nodes ++ later)) → SearchCountsFit before → StopFits before before.stop → StopFits after after.stop
stop_return e seen Excluded before after h begun counts fits =
    stop_node e _ before after refl (moves e seen Excluded before after h) h.job h.beginning h.stop fits
stop_return e seen (Bounded b) before after h begun counts fits =
    stop_node e _ before after refl (moves e seen (Bounded b) before after h) h.job h.beginning h.stop fits
stop_return e seen (Raise b) before after h begun counts fits =
    let m = moves e seen (Raise b) before after h in
    rw h.stop (stop_moved before after before.stop (omega (arith, m.waiting, m.leased, m.unsplit)) h.leases h.job h.beginning fits)
stop_return e seen (Part b) before after h begun counts fits =
    stop_part e seen b before after (is_kept before (Part b)) refl (moves e seen (Part b) before after h) h.stop h.job h.beginning (begun_unsplit before begun) counts.open_most fits
stop_return e seen (Floor b) before after h begun counts fits =
    stop_node e _ before after refl (moves e seen (Floor b) before after h) h.job h.beginning h.stop fits

-- ---- the size of the tree
-- as many squares as the splits call for
abbrev pub SizeFits : State → Type 0
SizeFits s = length s.nodes + open_count s ≡ 1 + 4 * split_count s.nodes

-- a lease keeps the number of squares
pub size_lease : (e : Entry) (before after : State) → Leases e before after → SizeFits before → SizeFits after
size_lease e before after h size =
    let m = leaves_waiting e before after h in
    omega arith

size_node : (e : Entry) (n : Node) (before after : State) → is_split n.mark ≡ false → Moves e [] (n ∷ []) 0 before after → SizeFits before → SizeFits after
size_node e n before after leaf m size =
    let none : once (is_split n.mark) ≡ 0 = ap once leaf in
    omega (arith, count_by-cons (λ (n : Node). is_split n.mark) n [])

-- and it leaves the tree of one square and four more for each that is split
size_part : (e : Entry) (seen : Option ℤ) (b : ℤ) (before after : State) (k : Bool)
    → Moves e (cond k (e ∷ []) (entries_from e.square (Part b))) (cond k [] (nodes_from e.square seen (Part b))) (cond k 1 0) before after → SizeFits before → SizeFits after
size_part e seen b before after true m size = omega (arith, m.waiting, m.leased, m.nodes, m.split)
size_part e seen b before after false m size =
    let one = count_by-total (λ (n : Node). is_split n.mark) (nodes_from e.square seen (Part b)) in
    omega (arith, one, m.waiting, m.leased, m.nodes, m.split)

-- a return keeps the number of squares and splits in step
pub size_return : (e : Entry) (seen : Option ℤ) (f : Finding) (before after : State) → Returns e seen f before after → SizeFits before → SizeFits after
size_return e seen Excluded before after h size = size_node e _ before after refl (moves e seen Excluded before after h) size
size_return e seen (Bounded b) before after h size = size_node e _ before after refl (moves e seen (Bounded b) before after h) size
size_return e seen (Raise b) before after h size =
    let m = moves e seen (Raise b) before after h in
    omega (arith, m.waiting, m.leased, m.nodes, m.split)
size_return e seen (Part b) before after h size = size_part e seen b before after (is_kept before (Part b)) (moves e seen (Part b) before after h) size
size_return e seen (Floor b) before after h size = size_node e _ before after refl (moves e seen (Floor b) before after h) size

-- ---- a verdict raises no entry twice
fresh_any : (e : Entry) (f : Finding) → e.raised ≡ false → IsFreshRaise e f
fresh_any e Excluded fresh = tt
fresh_any e (Bounded b) fresh = tt
fresh_any e (Raise b) fresh = fresh
fresh_any e (Part b) fresh = tt
fresh_any e (Floor b) fresh = tt

fresh_fine : (e : Entry) (b : ℤ) (settled lowest : Bool) → IsFreshRaise e (cond settled (Bounded b) (cond lowest (Floor b) (Part b)))
fresh_fine e b true lowest = tt
fresh_fine e b false true = tt
fresh_fine e b false false = tt

fresh_by : (e : Entry) (excluded raised : Bool) (fine coarse : Finding) → e.raised ≡ raised → IsFreshRaise e fine → IsFreshRaise e (cond excluded Excluded (cond raised fine coarse))
fresh_by e true raised fine coarse is h = tt
fresh_by e false true fine coarse is h = h
fresh_by e false false fine coarse is h = fresh_any e coarse is

-- what is raised wasn't raised
pub fresh_finding : (j : Job) (e : Entry) (seen : Option ℤ) → IsFreshRaise e (finding_of j e seen)
unfolding finding_of
fresh_finding j e seen =
    fresh_by e (is_excluded j.instance e.square) e.raised _ _ refl
    (fresh_fine e e.bound (reaches seen (e.bound +ℤ j.gap)) (e.square.level == 0))
