-- The centre site of a leased square, before it is priced.
use Rattle.std.specs.Prelude.{ℤ, Bool, false, not, Option, Some, None}
use Rattle.siting_definitions.specs.Marks.{reaches}
use Rattle.pool_core.specs.declared.verdict.Bounds.{Bounds}
use Rattle.pool_core.specs.Verdict.{fine_in}

-- whether a square with this fine bound, or with none where it is excluded, may have a site that
-- costs less than what was seen
abbrev pub may_hold_cheaper : Option ℤ → Option ℤ → Bool
may_hold_cheaper None seen = false
may_hold_cheaper (Some fine) seen = not (reaches seen fine)

-- whether the centre site of a square with these bounds may cost less than what was seen
abbrev pub may_be_cheaper : Bounds → Option ℤ → Bool
may_be_cheaper bounds seen = may_hold_cheaper (fine_in bounds) seen
