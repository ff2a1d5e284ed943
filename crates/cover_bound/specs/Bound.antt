-- The bound of an answer, of one point.
use Rattle.std.specs.Prelude.{ℤ, MatchOption}
use Rattle.siting_definitions.specs.Point.{Point}
use Rattle.siting_definitions.specs.Answer.{Head}
use Rattle.siting_definitions.specs.Cost.{CostAtLeast}

-- the answer has a bound, and p costs no less, by its instance
abbrev pub IsBoundedBy : Head → Point → Type 0
IsBoundedBy h p = MatchOption h.bound ⊥ (λ (b : ℤ). CostAtLeast h.instance p b)
