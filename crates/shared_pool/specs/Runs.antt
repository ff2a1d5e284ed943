-- The run of the table so far, by the deeds of the desks: what the table shows after each.
use Rattle.std.specs.Prelude.{◌≡◌, ◌≢◌, ◌⊎◌, ℕ, ℤ, List, [], ◌∷◌, ◌++◌, All, Contains}
use Rattle.std.specs.Prelude.{Option, Some, None, ⊤}
use Rattle.siting_definitions.specs.Point.{Pt}
use Rattle.siting_definitions.specs.Marks.{lesser}
use Rattle.bound_heap.specs.declared.entry.Entry.{Entry}
use Rattle.pool_core.specs.declared.lease.LeaseAnswer.{LeaseAnswer}
use Rattle.pool_core.specs.declared.lease.LeaseAnswer.TheVariants.{Stopped, Done, Idle, Leased}
use Rattle.pool_core.specs.Job.{start_cost}
use Rattle.pool_core.specs.State.{State, Search}
use Rattle.pool_core.specs.Machine.{Event, Step, Lease, Halt, Offer, Return}
use Rattle.shared_pool.specs.declared.deed.Deed.{Deed}
use Rattle.shared_pool.specs.declared.deed.Past.{Past}
use Rattle.shared_pool.specs.declared.view.View.{View}

abbrev pub search : State → Option ℤ → Search
search s u = record { state = s; incumbent = u }

-- ---- deeds
-- what a table that was made with this pool shows after these deeds, the newest first
abbrev pub shown_after : State → List Deed → Search
shown_after first [] = search first (start_cost first.job)
shown_after first (d ∷ ds) = search d.pool d.incumbent

-- an event of the machine leads on, or there is none and all stays
abbrev pub Leads : Option Event → Search → Search → Type 0
Leads None before after = after ≡ before
Leads (Some event) before after = Step before event after

-- each deed is an event of the machine, or none
abbrev pub IsRun : State → List Deed → Type 0
IsRun first [] = ⊤
IsRun first (d ∷ ds) =
    (event : Option Event) × Leads event (shown_after first ds) (search d.pool d.incumbent)
    × IsRun first ds

-- the later deeds go on from the earlier ones, by deeds of other seats than this one
pub record GoesOn (seat : ℕ) (earlier later : List Deed) : Type 0 where
  pub others : List Deed
  pub later_is : later ≡ others ++ earlier
  pub others_are : All (λ (d : Deed). d.seat ≢ seat) others

-- ---- the deed of a call
-- A call added one deed to the run: since the desk's last one only other desks had any, the table
-- then showed `before`, and shows `after` by the deed, which is this event, or none.
pub record Adds (event : Option Event) (before after : Search) (old new : View) : Type 0 where
  pub others : List Deed
  pub deeds : new.deeds
      ≡ record { seat = old.seat; pool = after.state; incumbent = after.incumbent }
      ∷ (others ++ old.deeds)
  pub others_are : All (λ (d : Deed). d.seat ≢ old.seat) others
  pub before_is : shown_after old.first (others ++ old.deeds) ≡ before
  pub leads : Leads event before after
  pub run : IsRun old.first new.deeds

-- a look, which found u
abbrev pub AddsLook : Option ℤ → View → View → Type 0
AddsLook u old new = (pool : State) × Adds None (search pool u) (search pool u) old new

-- an offer of a site with its upper cost, where the incumbent was u
abbrev pub AddsOffer : Option ℤ → Pt → ℤ → View → View → Type 0
AddsOffer u site upper old new =
    (pool : State)
    × Adds (Some (Offer site)) (search pool u) (search pool (lesser u (Some upper))) old new

-- the event of an answer to one who asked for a lease
abbrev pub IsEventOf : LeaseAnswer → Option Event → Type 0
IsEventOf (Stopped stop) event = (event ≡ None) ⊎ (event ≡ Some Halt)
IsEventOf Done event = event ≡ None
IsEventOf Idle event = event ≡ None
IsEventOf (Leased e) event = event ≡ Some (Lease e)

-- a give of the turn after this answer: the table showed what the desk took, and shows what it gave
pub record AddsAnswer (answer : LeaseAnswer) (old new : View) : Type 0 where
  pub event : Option Event
  pub event_is : IsEventOf answer event
  pub incumbent : Option ℤ
  pub adds : Adds event (search new.taken incumbent) (search new.given incumbent) old new

-- a give of the turn after this lease came back: the table showed what the desk took, and shows
-- what it gave
abbrev pub AddsReturn : Entry → View → View → Type 0
AddsReturn e old new =
    (u : Option ℤ)
    × Adds (Some (Return e old.seen)) (search new.taken u) (search new.given u) old new

-- ---- the end
-- one of the desks that were taken in had this seat
abbrev pub HasPast : List Past → ℕ → Type 0
HasPast pasts seat = (p : Past) × Contains pasts p × (p.seat ≡ seat)

-- A run leads from the pool with which a table was made to this pool and incumbent. It goes on from
-- what each desk that was taken in had done, with no other deed of its seat, and each deed in it is
-- one of those desks'.
pub record IsEndOf (first : State) (pasts : List Past) (pool : State) (u : Option ℤ) : Type 0 where
  pub deeds : List Deed
  pub run : IsRun first deeds
  pub shown_is : shown_after first deeds ≡ search pool u
  pub go_on : All (λ (p : Past). GoesOn p.seat p.deeds deeds) pasts
  pub by_pasts : All (λ (d : Deed). HasPast pasts d.seat) deeds
