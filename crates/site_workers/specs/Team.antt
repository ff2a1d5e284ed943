-- What the desk of a worker of a team knows between its steps.
use Rattle.std.specs.Prelude.{◌≡◌, ℕ, ℤ, true, List, length, IsSome, Option, None, MatchOption, ⊤}
use Rattle.std.specs.Option.{ForSome}
use Rattle.siting_definitions.specs.Sites.{centre_cost}
use Rattle.siting_definitions.specs.Marks.{IsAtMost}
use Rattle.pool_core.specs.declared.verdict.Bounds.{Bounds}
use Rattle.pool_core.specs.declared.verdict.Verdict.{Verdict}
use Rattle.pool_core.specs.Job.{Job}
use Rattle.pool_core.specs.State.{State}
use Rattle.pool_core.specs.Verdict.{bounds_of}
use Rattle.pool_core.specs.Sound.{EntryFits}
use Rattle.shared_pool.specs.declared.deed.Past.{Past}
use Rattle.shared_pool.specs.declared.desk.Desk.{Desk}
use Rattle.shared_pool.specs.declared.shared.SharedPool.{SharedPool}
use Rattle.shared_pool.specs.declared.view.View.{View}
use Rattle.shared_pool.specs.Runs.{AddsLook, IsEndOf}
use Rattle.shared_pool.specs.Calls.{AreBoundsOf, IsCentreSeen, IsFound}
use Rattle.shared_pool.specs.Desks.{IsDeskOf, view}

-- the desk is at the table, and has no lease
pub record IsFree (shared : SharedPool) (d : Desk) : Type 0 where
  pub of : IsDeskOf shared d
  pub lease : (view d).lease ≡ None

-- it has none, and was told that nothing more will be leased
pub record HasEnded (shared : SharedPool) (d : Desk) : Type 0 where
  pub free : IsFree shared d
  pub ended : (view d).ended ≡ true

-- it has a lease, and the bound of that is right
pub record HasLease (shared : SharedPool) (d : Desk) : Type 0 where
  pub of : IsDeskOf shared d
  pub lease : IsSome (view d).lease
  pub fits : ForSome (view d).lease (EntryFits (view d).first.job.instance)

-- these are the bounds of its lease's square
abbrev pub HasBounds : Job → View → Bounds → Type 0
HasBounds j v bounds = ForSome v.lease (λ e. bounds ≡ bounds_of j e)

-- what was seen is at most the upper cost of the centre site of the leased square, if it has one
abbrev pub HasSeenCentre : View → Type 0
HasSeenCentre v =
    ForSome v.lease
    (λ e. MatchOption (centre_cost v.first.job.instance e.square) ⊤ (IsAtMost v.seen))

-- it has a lease, and has seen a number that may part its square
pub record HasOffered (shared : SharedPool) (d : Desk) : Type 0 where
  pub lease : HasLease shared d
  pub centre : HasSeenCentre (view d)

-- its last deed was a look, which found what it has seen; what it had seen before was at most the
-- upper cost of the centre site of its square, if that has one
abbrev pub HasLooked : View → Type 0
HasLooked w = (v : View) × HasSeenCentre v × (v.lease ≡ w.lease) × AddsLook w.seen v w

-- it has a lease, whose square has these bounds, and this is the verdict on it for what the desk has
-- seen since it got it
pub record HasVerdict (shared : SharedPool) (d : Desk) (bounds : Bounds) (verdict : Verdict) : Type 0 where
  pub lease : HasLease shared d
  pub fresh : (view d).fresh ≡ true
  pub seen : verdict.seen ≡ (view d).seen
  pub finding : IsFound (view d) verdict.seen verdict.finding
  pub bounds_are : AreBoundsOf (view d) bounds
  pub centre : IsCentreSeen (view d) verdict.seen verdict.finding

-- so many desks were at the table, and what they did leads from the pool to this pool and incumbent
abbrev pub IsWorkOf : ℕ → State → State → Option ℤ → Type 0
IsWorkOf workers first pool u =
    (pasts : List Past) × (length pasts ≡ workers) × IsEndOf first pasts pool u
