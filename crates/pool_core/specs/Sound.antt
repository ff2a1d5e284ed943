-- When a state is sound: its squares are those of one tree, its counts fit, and its bounds and
-- marks are right.
use Rattle.std.specs.Prelude.{◌≡◌, ◌+◌, ◌*◌, ◌<◌, ◌≤◌, ℤ, ◌+ℤ◌, ◌≤ℤ◌, true, false, List, [], ◌++◌}
use Rattle.std.specs.Prelude.{length, All, IsPermutation, Option, Some, None, MatchOption, ⊤}
use Rattle.siting_definitions.specs.declared.Mark.{Mark}
use Rattle.siting_definitions.specs.declared.Mark.TheVariants.{Split, Shut, Bounded, Floor, Left}
use Rattle.siting_definitions.specs.Point.{Pt}
use Rattle.siting_definitions.specs.Instance.{Instance}
use Rattle.siting_definitions.specs.Square.{Square}
use Rattle.siting_definitions.specs.Bounds.{fine_of}
use Rattle.siting_definitions.specs.Excluded.{is_excluded}
use Rattle.siting_definitions.specs.Tree.{Tree, Fits, preorder}
use Rattle.siting_definitions.specs.Marks.{IsAtMost, IsCalledFor}
use Rattle.discard_log.specs.declared.node.Node.{Node}
use Rattle.bound_heap.specs.declared.entry.Entry.{Entry}
use Rattle.pool_core.specs.declared.stop.Stop.{Stop}
use Rattle.pool_core.specs.declared.stop.Stop.TheVariants.{PoolFull, Budget}
use Rattle.pool_core.specs.Job.{Job, IsLawful, IsOffer, job_root, start_cost, cost_in}
use Rattle.pool_core.specs.State.{State, Search, open_count, squares_of}
use Rattle.pool_core.specs.State.{split_count, unsplit_count, raised_count}

-- Waiting, leased and logged squares are those of one tree of the root, each once, and the split
-- ones are those with quarters in it.
abbrev pub AreTree : State → Type 0
AreTree s =
    (t : Tree) × Fits t (job_root s.job).level
    × IsPermutation (squares_of s) (preorder t (job_root s.job))

-- The counts. Each lease did something that can be counted: it made a node, raised an entry, is
-- still out, or was kept. A node took two leases at most. What was there at the beginning is taken
-- off, with the leases that had been given until then.
pub record SearchCountsFit (s : State) : Type 0 where
  pub open_most : open_count s ≤ s.job.pool
  pub leased : split_count s.nodes + length s.leased ≤ s.leases
  pub budget : s.leases ≤ s.job.budget
  pub going : s.stop ≡ None → s.kept ≡ 0
  pub kept : s.kept ≤ length s.waiting
  pub begun : s.beginning.leases ≤ 2 * length s.beginning.nodes + s.beginning.raised
  pub work : s.leases + (2 * length s.beginning.nodes + s.beginning.raised)
      ≤ (2 * length s.nodes + raised_count s.waiting + length s.leased + raised_count s.leased
      + s.kept)
      + s.beginning.leases

-- A stop at the budget has the leases. One for want of room has a count of open squares, and at
-- least as many of the squares that aren't split came after the beginning.
abbrev pub StopFits : State → Option Stop → Type 0
StopFits s None = ⊤
StopFits s (Some (Budget leases)) = (leases ≡ s.leases) × (s.leases ≡ s.job.budget)
StopFits s (Some (PoolFull count)) =
    (1 ≤ count) × (count ≤ s.job.pool) × (s.job.pool < count + 3)
    × (count + unsplit_count s.beginning.nodes ≤ open_count s + unsplit_count s.nodes)

-- what of soundness doesn't speak of bounds and costs
pub record IsConsistent (s : State) : Type 0 where
  pub tree : AreTree s
  pub counts : SearchCountsFit s
  pub stop_fits : StopFits s s.stop
  pub begun : (later : List Node) × (s.nodes ≡ s.beginning.nodes ++ later)

-- an entry's bound is at most the fine bound of its square; a raised one is equal to it, and its
-- square isn't excluded
pub record EntryFits (i : Instance) (e : Entry) : Type 0 where
  pub bound : e.bound ≤ℤ fine_of i e.square
  pub raised : e.raised ≡ true → (e.bound ≡ fine_of i e.square) × (is_excluded i e.square ≡ false)

-- the mark of a logged square is right, with u the least upper cost
abbrev pub LoggedFits : Instance → ℤ → Option ℤ → Square → Mark → Type 0
LoggedFits i gap u s (Split seen) = IsCalledFor i gap u s seen
LoggedFits i gap u s Shut = is_excluded i s ≡ true
LoggedFits i gap u s (Bounded c) =
    (is_excluded i s ≡ false) × (c ≤ℤ fine_of i s) × IsAtMost u (c +ℤ gap)
LoggedFits i gap u s (Floor b) = (is_excluded i s ≡ false) × (s.level ≡ 0) × (b ≡ fine_of i s)
LoggedFits i gap u s (Left b) = ⊥

-- the mark of a logged node is right
abbrev pub NodeFits : Instance → ℤ → Option ℤ → Node → Type 0
NodeFits i gap u n = LoggedFits i gap u n.square n.mark

-- a lawful job, a consistent state, and right bounds and marks; the incumbent is the upper cost of
-- a permitted site, and no more than that of the start
pub record IsSound (w : Search) : Type 0 where
  pub job : IsLawful w.state.job
  pub consistent : IsConsistent w.state
  pub waiting : All (EntryFits w.state.job.instance) w.state.waiting
  pub leased : All (EntryFits w.state.job.instance) w.state.leased
  pub nodes : All (NodeFits w.state.job.instance w.state.job.gap w.incumbent) w.state.nodes
  pub start : MatchOption (start_cost w.state.job) ⊤ (IsAtMost w.incumbent)
  pub least_is : MatchOption w.incumbent ⊤ (λ u. (z : Pt) × IsOffer w.state.job.instance z u)

-- a sound state of the job in which nothing is leased and nothing stopped, with the start as the
-- incumbent
pub record IsPoolOf (j : Job) (s : State) : Type 0 where
  pub job : s.job ≡ j
  pub leased : s.leased ≡ []
  pub going : s.stop ≡ None
  pub sound : IsSound (record { state = s; incumbent = start_cost j })

-- the end of a search over the job, with the best site that was offered and its upper cost, if
-- there is one
pub record IsFinished (j : Job) (s : State) (best : Option (Pt × ℤ)) : Type 0 where
  pub job : s.job ≡ j
  pub leased : s.leased ≡ []
  pub ended : s.stop ≡ None → s.waiting ≡ []
  pub sound : IsSound (record { state = s; incumbent = cost_in best })
  pub best_is : MatchOption best ⊤ (λ z. IsOffer j.instance z.0 z.1)
