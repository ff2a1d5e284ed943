-- What an answer claims of its instance, over all permitted rational points.
use Rattle.std.specs.Prelude.{ℤ, ◌-ℤ◌, ◌≤ℤ◌, IsTrue, ◌↔◌, Option, Some, None, MatchOption, ⊤}
use Rattle.siting_definitions.specs.Point.{Point, point_of}
use Rattle.siting_definitions.specs.Instance.{Instance}
use Rattle.siting_definitions.specs.Permitted.{permits}
use Rattle.siting_definitions.specs.Cost.{CostAtLeast, CostAtMost}
use Rattle.siting_definitions.specs.Answer.{Best, Head, is_solved}

-- no permitted rational point costs less than b
abbrev pub IsBound : Instance → ℤ → Type 0
IsBound i b = (p : Point) → IsTrue (permits i p) → CostAtLeast i p b

-- no rational point is permitted
abbrev pub IsNowhere : Instance → Type 0
IsNowhere i = (p : Point) → ¬ (IsTrue (permits i p))

-- the site is permitted, and its cost lies between the two numbers
pub record IsEnclosed (i : Instance) (b : Best) : Type 0 where
  pub permitted : IsTrue (permits i (point_of b.site))
  pub lower : CostAtLeast i (point_of b.site) b.lower
  pub upper : CostAtMost i (point_of b.site) b.upper

-- cost and bound are numbers, and the upper cost exceeds the bound by at most the gap
abbrev pub IsWithinGap : ℤ → Option Best → Option ℤ → Type 0
IsWithinGap gap None bound = ⊥
IsWithinGap gap (Some best) None = ⊥
IsWithinGap gap (Some best) (Some b) = (best.upper -ℤ b) ≤ℤ gap

-- what a head says of its instance is true, and it says `solved` exactly where the gap is met
pub record Claims (h : Head) : Type 0 where
  pub site : MatchOption h.best ⊤ (IsEnclosed h.instance)
  pub bound : MatchOption h.bound (IsNowhere h.instance) (IsBound h.instance)
  pub solved : IsTrue (is_solved h.word) ↔ IsWithinGap h.gap h.best h.bound
