-- The verdict on a leased square.
use Rattle.std.specs.Prelude.{nat_lt, ◌==◌, ℤ, pos, ◌+ℤ◌, ◌-ℤ◌, Bool, true}
use Rattle.std.specs.Prelude.{false, if◌then◌else◌, not, ◌&&◌, Option, None, Some}
use Rattle.std.specs.Int.{int_max}
use Rattle.siting_definitions.specs.Instance.{weight}
use Rattle.siting_definitions.specs.Bounds.{coarse_of, fine_of}
use Rattle.siting_definitions.specs.Excluded.{is_excluded}
use Rattle.siting_definitions.specs.Marks.{reaches}
use Rattle.siting_definitions.specs.Square.{Square}
use Rattle.bound_heap.specs.declared.entry.Entry.{Entry}
use Rattle.pool_core.specs.declared.verdict.Bounds.{Bounds}
use Rattle.pool_core.specs.declared.verdict.Bounds.TheVariants as bounds
use Rattle.pool_core.specs.declared.verdict.Finding.{Finding}
use Rattle.pool_core.specs.declared.verdict.Finding.TheVariants.{Excluded, Bounded}
use Rattle.pool_core.specs.declared.verdict.Finding.TheVariants.{Raise, Part, Floor}
use Rattle.pool_core.specs.Job.{Job}

-- The finding on a square whose bound wasn't raised, where c is at most its fine bound f, and less
-- by less than the weight W: the gap settles it, or not even a fine bound would settle it and it is
-- to be split, or its fine bound is to decide.
abbrev pub finding_of_coarse : Job → Square → ℤ → ℤ → Option ℤ → Finding
finding_of_coarse j s c f seen =
    if reaches seen (c +ℤ j.gap) then Bounded c
    else if nat_lt 0 s.level
    && not (reaches seen (((c +ℤ pos (weight j.instance.points)) -ℤ pos 1) +ℤ j.gap)) then Part c
    else Raise f

-- the finding on a square with its fine bound b
abbrev pub finding_of_fine : Job → Square → ℤ → Option ℤ → Finding
finding_of_fine j s b seen =
    if reaches seen (b +ℤ j.gap) then Bounded b
    else if s.level == 0 then Floor b
    else Part b

-- the finding on an entry, after `seen` was seen of the incumbent
unfoldable pub finding_of : Job → Entry → Option ℤ → Finding
finding_of j e seen =
    if is_excluded j.instance e.square then Excluded
    else if e.raised then finding_of_fine j e.square e.bound seen
    else
    finding_of_coarse j e.square (int_max e.bound (coarse_of j.instance e.square))
    (fine_of j.instance e.square) seen

-- what is known of an entry's square before it is judged: that it is excluded, or its raised bound,
-- or its fine bound and the greater of its own bound and the coarse one
unfoldable pub bounds_of : Job → Entry → Bounds
bounds_of j e =
    if is_excluded j.instance e.square then bounds.Excluded
    else if e.raised then bounds.Raised e.bound
    else bounds.Both (int_max e.bound (coarse_of j.instance e.square)) (fine_of j.instance e.square)

-- the fine bound among these, which a raised one is
abbrev pub fine_in : Bounds → Option ℤ
fine_in bounds.Excluded = None
fine_in (bounds.Raised b) = Some b
fine_in (bounds.Both coarse fine) = Some fine

-- the finding on a square with these bounds
abbrev pub finding_by : Job → Square → Bounds → Option ℤ → Finding
finding_by j s bounds.Excluded seen = Excluded
finding_by j s (bounds.Raised b) seen = finding_of_fine j s b seen
finding_by j s (bounds.Both c f) seen = finding_of_coarse j s c f seen

-- whether the finding is that the square is to be split
abbrev pub is_part : Finding → Bool
is_part Excluded = false
is_part (Bounded b) = false
is_part (Raise b) = false
is_part (Part b) = true
is_part (Floor b) = false
