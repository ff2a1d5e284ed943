use Rattle.std.proofs.Common.{◌≡◌, ℤ, true, Option, Some, None, MatchOption, ◌∙◌, ap}
use Rattle.siting_definitions.specs.Point.{Point}
use Rattle.siting_definitions.specs.Instance.{Instance}
use Rattle.siting_definitions.specs.Permitted.{permits}
use Rattle.siting_definitions.specs.Cost.{CostAtLeast}
use Rattle.siting_definitions.specs.Claims.{IsBound, IsNowhere}
use Rattle.cover_check.proofs.CoverLaw.{cover_permits}
use Rattle.cover_bound.proofs.laws.an_answer_bounds_what_is_wanted.Goals as goal

-- a bound of an instance is one of each permitted point
bounded : (i : Instance) (p : Point) (bound : Option ℤ) → permits i p ≡ true → MatchOption bound (IsNowhere i) (IsBound i) → MatchOption bound ⊥ (λ (b : ℤ). CostAtLeast i p b)
bounded i p None permitted nowhere = nowhere p permitted
bounded i p (Some b) permitted bound = bound p permitted

pub returns : goal.returns
returns c = λ h cover p claims same lawful covers within limit.
    bounded h.instance p h.bound (ap (λ (i : Instance). permits i p) same ∙ cover_permits cover p lawful covers within limit) claims.bound
