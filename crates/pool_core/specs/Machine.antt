-- The machine: which events may follow a state, and what each does.
use Rattle.std.specs.Prelude.{◌≡◌, ◌+◌, ◌<◌, nat_lt, ℤ, ◌≤ℤ◌, Bool, true, false}
use Rattle.std.specs.Prelude.{if◌then◌else◌, ◌&&◌, ◌||◌, is_some, List, [], ◌∷◌, ◌++◌, map}
use Rattle.std.specs.Prelude.{length, All, IsPermutation, Option, Some, None, MatchOption, ⊤}
use Rattle.siting_definitions.specs.declared.Mark.TheVariants.{Split, Shut, Bounded as BoundedMark}
use Rattle.siting_definitions.specs.declared.Mark.TheVariants.{Floor as FloorMark}
use Rattle.siting_definitions.specs.Point.{Pt}
use Rattle.siting_definitions.specs.Square.{Square, quarters}
use Rattle.siting_definitions.specs.Sites.{centre_cost}
use Rattle.siting_definitions.specs.Marks.{IsAtMost, IsNoneOrAtLeast, lesser}
use Rattle.discard_log.specs.declared.node.Node.{Node}
use Rattle.bound_heap.specs.declared.entry.Entry.{Entry}
use Rattle.pool_core.specs.declared.stop.Stop.{Stop}
use Rattle.pool_core.specs.declared.stop.Stop.TheVariants.{PoolFull, Budget}
use Rattle.pool_core.specs.declared.verdict.Finding.{Finding}
use Rattle.pool_core.specs.declared.verdict.Finding.TheVariants.{Excluded, Bounded}
use Rattle.pool_core.specs.declared.verdict.Finding.TheVariants.{Raise, Part, Floor}
use Rattle.pool_core.specs.Job.{Job, IsOffer, start_cost}
use Rattle.pool_core.specs.Verdict.{finding_of, is_part}
use Rattle.pool_core.specs.State.{State, Search, open_count}

-- a waiting entry of least bound becomes leased
pub record Leases (e : Entry) (before after : State) : Type 0 where
  pub going : before.stop ≡ None
  pub budget : before.leases < before.job.budget
  pub least : All (λ (other : Entry). e.bound ≤ℤ other.bound) before.waiting
  pub waiting : IsPermutation before.waiting (e ∷ after.waiting)
  pub leased : IsPermutation (e ∷ before.leased) after.leased
  pub leases : after.leases ≡ before.leases + 1
  pub job : after.job ≡ before.job
  pub nodes : after.nodes ≡ before.nodes
  pub kept : after.kept ≡ before.kept
  pub stop : after.stop ≡ before.stop
  pub beginning : after.beginning ≡ before.beginning

-- the leases are spent while something waits
pub record Halts (before after : State) : Type 0 where
  pub going : before.stop ≡ None
  pub waiting : 0 < length before.waiting
  pub spent : before.leases ≡ before.job.budget
  pub halted : after ≡ record before { stop = Some (Budget before.leases) }

-- the node that a finding makes of a square, after `seen` was seen of the incumbent
abbrev pub nodes_from : Square → Option ℤ → Finding → List Node
nodes_from s seen Excluded = record { square = s; mark = Shut } ∷ []
nodes_from s seen (Bounded b) = record { square = s; mark = BoundedMark b } ∷ []
nodes_from s seen (Raise b) = []
nodes_from s seen (Part b) = record { square = s; mark = Split seen } ∷ []
nodes_from s seen (Floor b) = record { square = s; mark = FloorMark b } ∷ []

-- the entries that wait after a finding
abbrev pub entries_from : Square → Finding → List Entry
entries_from s Excluded = []
entries_from s (Bounded b) = []
entries_from s (Raise b) = record { square = s; bound = b; raised = true } ∷ []
entries_from s (Part b) =
    map (λ (q : Square). record { square = q; bound = b; raised = false }) (quarters s)
entries_from s (Floor b) = []

-- whether a part isn't made: there is a stop, or no room for three more open squares
abbrev pub is_kept : State → Finding → Bool
is_kept s finding = is_part finding && (is_some s.stop || nat_lt s.job.pool (open_count s + 3))

-- the first stop stays
abbrev pub first_stop : Option Stop → Stop → Option Stop
first_stop None stop = Some stop
first_stop (Some first) stop = Some first

-- A leased entry comes back with a finding. A part that isn't made leaves it waiting as it was.
pub record Returns (e : Entry) (seen : Option ℤ) (finding : Finding) (before after : State)
    : Type 0 where
  pub leased : IsPermutation before.leased (e ∷ after.leased)
  pub waiting : IsPermutation
      ((if is_kept before finding then e ∷ [] else entries_from e.square finding) ++ before.waiting)
      after.waiting
  pub nodes : after.nodes
      ≡ before.nodes ++ (if is_kept before finding then [] else nodes_from e.square seen finding)
  pub kept : after.kept ≡ before.kept + (if is_kept before finding then 1 else 0)
  pub stop : after.stop
      ≡ (if is_kept before finding then first_stop before.stop (PoolFull (open_count before))
      else before.stop)
  pub job : after.job ≡ before.job
  pub leases : after.leases ≡ before.leases
  pub beginning : after.beginning ≡ before.beginning

-- v is a number of the incumbent that was seen before it fell to u; none is seen only where the job
-- has no start
abbrev pub IsSeen : Job → Option ℤ → Option ℤ → Type 0
IsSeen j u None = j.start ≡ None
IsSeen j u (Some v) = IsAtMost u v × IsNoneOrAtLeast (start_cost j) v

-- What may be seen when an entry comes back with a finding: a number of the incumbent, and where
-- the square is to be split and has a centre site, one that is at most the upper cost of that site.
pub record MayReturn (e : Entry) (seen : Option ℤ) (w : Search) : Type 0 where
  pub seen_is : IsSeen w.state.job w.incumbent seen
  pub centre : is_part (finding_of w.state.job e seen) ≡ true
      → MatchOption (centre_cost w.state.job.instance e.square) ⊤ (IsAtMost seen)

-- what may happen: an entry is leased, the search halts, a site is offered, or an entry comes back
-- with what was seen of the incumbent
pub data Event : Type 0 where
  Lease : Entry → Event
  Halt : Event
  Offer : Pt → Event
  Return : Entry → Option ℤ → Event

-- An offer of a permitted site lowers the incumbent to its own upper cost. The other events leave
-- the incumbent as it is.
abbrev pub Step : Search → Event → Search → Type 0
Step before (Lease e) after =
    Leases e before.state after.state × (after.incumbent ≡ before.incumbent)
Step before Halt after =
    Halts before.state after.state × (after.incumbent ≡ before.incumbent)
Step before (Offer z) after =
    (cost : ℤ) × IsOffer before.state.job.instance z cost × (after.state ≡ before.state)
    × (after.incumbent ≡ lesser before.incumbent (Some cost))
Step before (Return e seen) after =
    MayReturn e seen before
    × Returns e seen (finding_of before.state.job e seen) before.state after.state
    × (after.incumbent ≡ before.incumbent)

-- each event in turn, from the state that the one before left
abbrev pub Run : Search → List Event → Search → Type 0
Run before [] after = after ≡ before
Run before (event ∷ events) after = (mid : Search) × Step before event mid × Run mid events after
