-- What each step on the table tells the desk that makes it.
use Rattle.std.specs.Prelude.{◌≡◌, ◌≢◌, ℕ, ℤ, false, [], ◌∷◌, All, Contains, Option, MatchOption, ⊤}
use Rattle.std.specs.Option.{ForSome}
use Rattle.atomic_table.specs.Table.{Me, Step}
use Rattle.incumbent_word.specs.Word.{number_in}
use Rattle.siting_definitions.specs.Point.{Pt}
use Rattle.siting_definitions.specs.Instance.{Instance}
use Rattle.siting_definitions.specs.Bounds.{upper_of}
use Rattle.siting_definitions.specs.Marks.{IsAtMost}
use Rattle.siting_definitions.specs.Answer.{IsSite}
use Rattle.objectives.specs.Limits.{IsCost}
use Rattle.pool_core.specs.declared.lease.LeaseAnswer.{LeaseAnswer}
use Rattle.pool_core.specs.Job.{IsOffer, start_cost}
use Rattle.pool_core.specs.State.{State}
use Rattle.pool_core.specs.Sound.{EntryFits}
use Rattle.shared_pool.specs.declared.view.View.{View}
use Rattle.shared_pool.specs.declared.view.Role.{Role}
use Rattle.shared_pool.specs.Views.{view_after_look, view_after_offer, view_after_loss}
use Rattle.shared_pool.specs.Views.{view_after_win, view_after_lease, view_after_return}
use Rattle.shared_pool.specs.Runs.{AddsLook, AddsOffer, AddsAnswer, AddsReturn}

-- u is the incumbent, or none, at a moment after the desk has seen what it has seen
pub record IsIncumbentAfter (v : View) (u : Option ℤ) : Type 0 where
  -- it is at most what the desk has seen, where that is a number
  pub seen : MatchOption v.seen ⊤ (IsAtMost u)
  -- it is at most the start's number, where there is a start
  pub start : MatchOption (start_cost v.first.job) ⊤ (IsAtMost u)
  -- it is the upper cost of a permitted site, where it is a number
  pub cost_is : MatchOption u ⊤ (λ cost. (site : Pt) × IsOffer v.first.job.instance site cost)

-- a seat: its view, and the slots that it holds
abbrev pub Seat : Type 0
Seat = Me State View

-- the seat holds no slot and not the turn, and is one of this kind
pub record IsAtRest (role : Role) (m : Seat) : Type 0 where
  pub slots : m.1 ≡ []
  pub role_is : m.0.role ≡ role
  pub turn : m.0.has_turn ≡ false

-- the upper cost of each site of an instance is small enough for a word
abbrev pub HasSmallCosts : Instance → Type 0
HasSmallCosts i = (site : Pt) → IsSite site → IsCost (upper_of i site)

-- of the step, the seat before, the number found and the seat after
abbrev pub Telling : Type 1
Telling = Step State → Seat → ℕ → Seat → Type 0

abbrev pub told_by_look : Telling
told_by_look step m found n =
    IsIncumbentAfter m.0 (number_in found)
    × (n ≡ (view_after_look m.0 n.0.deeds (number_in found), m.1))
    × AddsLook (number_in found) m.0 n.0

-- a site was offered with its upper cost, where the incumbent was u
pub record IsOffered (u : Option ℤ) (site : Pt) (upper : ℤ) (old new : View) : Type 0 where
  pub incumbent : IsIncumbentAfter old u
  pub view_is : new ≡ view_after_offer old new.deeds u site upper
  pub adds : AddsOffer u site upper old new

abbrev pub told_by_offer : Pt → ℤ → Telling
told_by_offer site upper step m found n =
    IsIncumbentAfter m.0 (number_in found)
    × (n ≡ (view_after_offer m.0 n.0.deeds (number_in found) site upper, m.1))
    × AddsOffer (number_in found) site upper m.0 n.0

-- the turn was free, and the seat holds the pool, of which the desk's lease is a leased entry, and
-- in which the bounds of the squares that wait are right
pub record Wins (m : Seat) (n : Seat) : Type 0 where
  pub pool : State
  pub seat_is : n ≡ (view_after_win m.0 pool, (0, pool) ∷ m.1)
  pub job : pool.job ≡ m.0.first.job
  pub leased : ForSome m.0.lease (Contains pool.leased)
  pub waiting : All (EntryFits m.0.first.job.instance) pool.waiting

abbrev pub told_by_take : Telling
told_by_take step m found n = (found ≡ 0 → Wins m n) × (found ≢ 0 → n ≡ (view_after_loss m.0, m.1))

abbrev pub told_by_lease : LeaseAnswer → Telling
told_by_lease answer step m found n =
    (pool : State) → m.1 ≡ (0, pool) ∷ []
    → (n ≡ (view_after_lease m.0 n.0.deeds answer pool, [])) × AddsAnswer answer m.0 n.0

abbrev pub told_by_return : Telling
told_by_return step m found n =
    (pool : State) → m.1 ≡ (0, pool) ∷ []
    → (n ≡ (view_after_return m.0 n.0.deeds pool, []))
    × ForSome m.0.lease (λ e. AddsReturn e m.0 n.0)
