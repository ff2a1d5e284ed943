-- How steep the cost is.
use Rattle.std.specs.Prelude.{ℕ, max, List, [], ◌∷◌, unsigned_abs}
use Rattle.siting_definitions.specs.declared.Kind.{Kind}
use Rattle.siting_definitions.specs.declared.Kind.TheVariants.{Sum, Max}
use Rattle.siting_definitions.specs.Instance.{DemandPt, Instance, weight}

-- the greatest of the weights' sizes, and 0 of no points
abbrev pub heaviest : List DemandPt → ℕ
heaviest [] = 0
heaviest (d ∷ ds) = max (unsigned_abs d.w) (heaviest ds)

abbrev pub steepness_by : Kind → List DemandPt → ℕ
steepness_by Sum ds = weight ds
steepness_by Max ds = heaviest ds

-- by how many cost units the costs of two points a grid unit apart differ at most
unfoldable pub steepness_of : Instance → ℕ
steepness_of i = steepness_by i.kind i.points
