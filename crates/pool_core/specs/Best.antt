-- The best site of a search.
use Rattle.std.specs.Prelude.{◌≡◌, ℤ, ◌<ℤ◌, int_lt, ◌⊎◌, if◌then◌else◌, Option, Some, None, ⊤}
use Rattle.siting_definitions.specs.Point.{Pt}

-- the better of the best site so far and one that is offered: the best stays where the other
-- doesn't cost less
abbrev pub better_of : Option (Pt × ℤ) → Option (Pt × ℤ) → Option (Pt × ℤ)
better_of best None = best
better_of None (Some offered) = Some offered
better_of (Some best) (Some offered) = if int_lt offered.1 best.1 then Some offered else Some best

-- the start stays the best where no site costs less
abbrev pub IsImproved : Option (Pt × ℤ) → Option (Pt × ℤ) → Type 0
IsImproved start None = start ≡ None
IsImproved None (Some b) = ⊤
IsImproved (Some start) (Some b) = (b ≡ start) ⊎ (b.1 <ℤ start.1)
