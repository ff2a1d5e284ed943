-- The rule of the table: what holds between any two steps, of whatever desks.
use Rattle.std.specs.Prelude.{◌≡◌, ◌≢◌, ℕ, ◌+◌, ◌<◌, ◌≤◌, ℤ, Bool, true, false, List, [], ◌∷◌, ◌++◌, length, All}
use Rattle.std.specs.Prelude.{slice_index, count_by, option_to_list, IsPermutation, Option, Some}
use Rattle.std.specs.Prelude.{None, MatchOption, ⊤}
use Rattle.std.specs.declared.snapshot.Snapshot.{Snapshot}
use mathlib.Core.Option.{some}
use lib.ListN.{get_elem?}
use Rattle.atomic_table.specs.Table as tables
use Rattle.incumbent_word.specs.Word.{number_in}
use Rattle.siting_definitions.specs.Point.{Pt}
use Rattle.siting_definitions.specs.Marks.{IsAtMost}
use Rattle.bound_heap.specs.declared.entry.Entry.{Entry}
use Rattle.pool_core.specs.Job.{IsOffer, start_cost, cost_in}
use Rattle.pool_core.specs.State.{State, open_count}
use Rattle.pool_core.specs.Machine.{Event, Run}
use Rattle.pool_core.specs.Sound.{IsPoolOf}
use Rattle.shared_pool.specs.declared.deed.Deed.{Deed}
use Rattle.shared_pool.specs.declared.deed.Past.{Past}
use Rattle.shared_pool.specs.declared.view.View.{View}
use Rattle.shared_pool.specs.declared.view.Role.{Role}
use Rattle.shared_pool.specs.declared.view.Role.TheVariants.{Root, Desk, Spent}
use Rattle.pool_core.specs.Seats.{StopsWithin}
use Rattle.shared_pool.specs.Views.{spent_view}
use Rattle.shared_pool.specs.Runs.{search, shown_after, IsRun, GoesOn, HasPast}

-- ---- the state shown
-- some run of the machine leads from a pool, with its start as the incumbent, to a state with the
-- incumbent u
abbrev pub IsReached : State → Option ℤ → State → Type 0
IsReached first u s =
    (events : List Event)
    × Run (record { state = first; incumbent = start_cost first.job }) events
    (record { state = s; incumbent = u })

-- there is a stop, or no square is open
abbrev pub IsOver : State → Type 0
IsOver s = s.stop ≡ None → open_count s ≡ 0

-- ---- the views
-- seat j has the view v
abbrev pub HasView : List View → ℕ → View → Type 0
HasView views j v = get_elem? views j ≡ some v

-- the leases of all desks
abbrev pub leases_of : List View → List Entry
leases_of [] = []
leases_of (v ∷ vs) = option_to_list v.lease ++ leases_of vs

abbrev pub is_desk_role : Role → Bool
is_desk_role Root = false
is_desk_role Desk = true
is_desk_role Spent = false

abbrev pub is_desk : View → Bool
is_desk v = is_desk_role v.role

-- a desk or the root desk has a best with this cost
abbrev pub HasOffered : List View → ℤ → Type 0
HasOffered views cost = (j : ℕ) × (v : View) × HasView views j v × (cost_in v.best ≡ Some cost)

-- What is right of a desk and of the root desk, at a table that was made with the pool `first` and
-- shows the state `shown` with the incumbent u.
pub record ViewFits (first shown : State) (u : Option ℤ) (v : View) : Type 0 where
  pub first_is : v.first ≡ first
  -- it has the pool as it took it, where it has the turn
  pub turn : v.has_turn ≡ true → v.taken ≡ shown
  -- the incumbent is at most what it has seen, which is at most the start's number
  pub seen : MatchOption v.seen ⊤ (IsAtMost u)
  pub seen_start : MatchOption (start_cost first.job) ⊤ (IsAtMost v.seen)
  -- its best is a permitted site with its upper cost, and the incumbent is at most that
  pub best : MatchOption v.best ⊤ (λ b. IsOffer first.job.instance b.0 b.1 × IsAtMost u b.1)
  pub ended : v.ended ≡ true → IsOver shown

-- what is right of the root desk besides: it is the first seat, has no turn and no lease, and its
-- best is at most the start
pub record RootFits (first : State) (j : ℕ) (v : View) : Type 0 where
  pub seat : j ≡ 0
  pub turn : v.has_turn ≡ false
  pub lease : v.lease ≡ None
  pub best : MatchOption (start_cost first.job) ⊤ (IsAtMost (cost_in v.best))

-- what is right of the view v of seat j, by whose it is
abbrev pub SeatFits : State → State → Option ℤ → ℕ → View → Role → Type 0
SeatFits first shown u j v Root = ViewFits first shown u v × RootFits first j v
SeatFits first shown u j v Desk = ViewFits first shown u v
SeatFits first shown u j v Spent = v ≡ spent_view

-- the seat is j, and all that a desk or the root desk there knows of is gone on from
abbrev pub KnowsDeeds : List Deed → ℕ → View → Type 0
KnowsDeeds deeds j v = v.role ≢ Spent → (v.seat ≡ j) × GoesOn v.seat v.deeds deeds

-- so is all that a desk knew that was taken in, whose seat is nobody's
pub record PastFits (deeds : List Deed) (views : List View) (p : Past) : Type 0 where
  pub goes_on : GoesOn p.seat p.deeds deeds
  pub spent : HasView views p.seat spent_view

-- ---- the rule
-- word 0 is the incumbent
abbrev pub incumbent_word : tables.State State View → ℕ
incumbent_word s = slice_index s.words 0

abbrev pub incumbent_in : tables.State State View → Option ℤ
incumbent_in s = number_in (incumbent_word s)

-- word 1 is the turn: 1 while a desk has it
abbrev pub turn_word : tables.State State View → ℕ
turn_word s = slice_index s.words 1

-- The table has two words and one slot. It was made with the pool `about.value`, and shows the
-- state `shown`, with the number of word 0 as the incumbent.
pub record TableFits (about : Snapshot State) (s : tables.State State View) : Type 0 where
  pub shown : State
  pub words : length s.words ≡ 2
  pub slots : length s.homes ≡ 1
  -- 1. The turn is 0 or 1: as many desks have it. The pool is in the slot while it is 0.
  pub turn : count_by (λ (v : View). v.has_turn) s.views ≡ turn_word s
  pub turns : turn_word s ≤ 1
  pub in_slot : turn_word s ≡ 0 → get_elem? s.homes 0 ≡ some (some shown)
  -- 2. The table was made with a sound pool of its job, and a run leads from there to the state
  -- shown: so that is sound too. Each deed in the run is one of a desk that was seated out.
  pub opened : IsPoolOf about.value.job about.value
  pub deeds : List Deed
  pub run : IsRun about.value deeds
  pub shown_is : shown_after about.value deeds ≡ search shown (incumbent_in s)
  pub seated : All (λ (d : Deed). (0 < d.seat) × (d.seat < length s.views)) deeds
  pub job : shown.job ≡ about.value.job
  pub beginning : shown.beginning ≡ about.value.beginning
  -- 3. The leases of the desks are the leased entries, each once.
  pub leases : IsPermutation (leases_of s.views) shown.leased
  -- 4, 5 and 7. What each desk and the root desk know is right.
  pub views : (j : ℕ) (v : View) → HasView s.views j v
      → SeatFits about.value shown (incumbent_in s) j v v.role
  -- The run goes on from what each of them knows of, with no other deed of its own.
  pub known : (j : ℕ) (v : View) → HasView s.views j v → KnowsDeeds deeds j v
  -- 5. A number of the incumbent is the cost of the best of one of them.
  pub offered : MatchOption (incumbent_in s) ⊤ (HasOffered s.views)
  -- 6. The root desk counts the desks that are out. Where there is a stop, no more parts are kept
  -- and entries leased than desks were seated out.
  pub root : View
  pub root_at : HasView s.views 0 root
  pub root_role : root.role ≡ Root
  pub out : count_by is_desk s.views ≡ root.out
  pub seats : root.out ≤ root.seats
  pub each : length s.views ≡ root.seats + 1
  pub gone : length root.pasts + root.out ≡ root.seats
  pub pasts : All (PastFits deeds s.views) root.pasts
  pub spent : (j : ℕ) (v : View) → HasView s.views j v → v.role ≡ Spent → HasPast root.pasts j
  pub kept : StopsWithin root.seats (shown.kept + length shown.leased) shown.stop

-- The last state of a table: the slot has the pool, and word 0 the cost of the best, or none where
-- there is no best.
pub record IsLast (about : Snapshot State) (pool : State) (best : Option (Pt × ℤ)) : Type 0 where
  pub table : tables.State State View
  pub fits : TableFits about table
  pub pool_is : get_elem? table.homes 0 ≡ some (some pool)
  pub incumbent : incumbent_in table ≡ cost_in best
