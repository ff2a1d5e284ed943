-- How many squares those at work hold where a search stops. Each has a seat, and holds one square
-- at most.
use Rattle.std.specs.Prelude.{ℕ, ◌+◌, ◌<◌, ◌≤◌, Bool, true, false, length, Option, Some, None, ⊤}
use Rattle.pool_core.specs.declared.stop.Stop.{Stop}
use Rattle.pool_core.specs.declared.stop.Stop.TheVariants.{PoolFull, Budget}
use Rattle.pool_core.specs.State.{State}

-- whether there is a stop for want of room
abbrev pub is_full : Option Stop → Bool
is_full None = false
is_full (Some (PoolFull count)) = true
is_full (Some (Budget leases)) = false

-- At most so many are held as there are seats, and fewer where the stop is at the budget, since the
-- one who was stopped there held none.
abbrev pub StopsWithin : ℕ → ℕ → Option Stop → Type 0
StopsWithin seats held None = ⊤
StopsWithin seats held (Some (PoolFull count)) = held ≤ seats
StopsWithin seats held (Some (Budget leases)) = held < seats

-- where there is a stop, the kept parts and the leased entries together are within the seats
abbrev pub IsKeptBy : State → ℕ → Type 0
IsKeptBy s seats = StopsWithin seats (s.kept + length s.leased) s.stop
