-- What the code computes of the steepness.
use Rattle.std.proofs.Common.{◌≡◌, ℕ, ◌≤◌, List, [], ◌∷◌, ap, ◌∙◌, arith}
use Rattle.std.proofs.lemmas.List.Elements.{All-head, All-tail}
use Rattle.std.specs.Prelude.{All}
use Rattle.siting_definitions.specs.declared.TheConstants.{WEIGHT_LIMIT}
use Rattle.siting_definitions.specs.declared.Kind.{Kind}
use Rattle.siting_definitions.specs.declared.Kind.TheVariants.{Sum, Max}
use Rattle.siting_definitions.specs.Instance.{DemandPt, Instance, IsDemandPt, IsInstance, weight}
use Rattle.objectives.specs.Steepness.{heaviest, steepness_by, steepness_of}

heaviest-small : (ds : List DemandPt) → All IsDemandPt ds → heaviest ds ≤ WEIGHT_LIMIT
heaviest-small [] all = omega arith
heaviest-small (d ∷ ds) all =
    omega (arith, (All-head IsDemandPt d ds all).w, heaviest-small ds (All-tail IsDemandPt d ds all))

-- the steepness of an instance is within the limit of the weights
pub steepness-small : (i : Instance) → IsInstance i → steepness_of i ≤ WEIGHT_LIMIT
unfolding steepness_of
steepness-small i limits = by_kind i.kind i.points limits.weight limits.points
  where
    by_kind : (kind : Kind) (ds : List DemandPt) → weight ds ≤ WEIGHT_LIMIT → All IsDemandPt ds
        → steepness_by kind ds ≤ WEIGHT_LIMIT
    by_kind Sum ds light all = light
    by_kind Max ds light all = heaviest-small ds all

-- what is computed of the sum's steepness
pub steepness-sum : (i : Instance) (n : ℕ) → Sum ≡ i.kind → n ≡ weight i.points → n ≡ steepness_of i
unfolding steepness_of
steepness-sum i n kind is = is ∙ ap (λ kind. steepness_by kind i.points) kind

-- what is computed of the steepness of the greatest term
pub steepness-max : (i : Instance) (ds : List DemandPt) (n : ℕ) → Max ≡ i.kind → ds ≡ i.points
    → n ≡ heaviest ds → n ≡ steepness_of i
unfolding steepness_of
steepness-max i ds n kind points is =
    is ∙ ap heaviest points ∙ ap (λ kind. steepness_by kind i.points) kind
