-- The first of least cost.
use Rattle.std.specs.Prelude.{◌≡◌, ℤ, ◌≤ℤ◌, ◌<ℤ◌, List, ◌∷◌, ◌++◌, All}
use Rattle.siting_definitions.specs.Point.{Pt}

-- z stands in the list, each site before it costs more, and none after it costs less
pub record IsFirstOfLeast (cost : Pt → ℤ) (zs : List Pt) (z : Pt) : Type 0 where
  pub before : List Pt
  pub after : List Pt
  pub whole : zs ≡ before ++ z ∷ after
  pub dearer : All (λ y. cost z <ℤ cost y) before
  pub least : All (λ y. cost z ≤ℤ cost y) after
