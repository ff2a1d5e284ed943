-- The finished mark of a leaf by its bound.
use Rattle.std.specs.Prelude.{ℕ, ◌==◌, ℤ, ◌+ℤ◌, if◌then◌else◌, Option}
use Rattle.siting_definitions.specs.declared.Mark.{Mark}
use Rattle.siting_definitions.specs.declared.Mark.TheVariants.{Bounded, Floor, Left}
use Rattle.siting_definitions.specs.Marks.{reaches}

-- the finished mark of a leaf that isn't excluded, by its level and its fine bound, with u the
-- least upper cost
abbrev pub mark_by_bound : ℤ → Option ℤ → ℕ → ℤ → Mark
mark_by_bound gap u level bound =
    if reaches u (bound +ℤ gap) then Bounded bound
    else if level == 0 then Floor bound
    else Left bound
