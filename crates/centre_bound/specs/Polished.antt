-- The least centre bound of an answer's leaves, and what it is of the answer.
use Rattle.std.specs.Prelude.{◌≡◌, ℤ, ◌≤ℤ◌, List, [], ◌∷◌, All, Option, Some, None, option_map}
use Rattle.std.specs.Prelude.{MatchOption, ⊤}
use Rattle.siting_definitions.specs.Instance.{Instance}
use Rattle.siting_definitions.specs.Bounds.{fine_of}
use Rattle.siting_definitions.specs.Marks.{lesser, bound_of}
use Rattle.siting_definitions.specs.Claims.{IsBound}
use Rattle.discard_log.specs.declared.node.Node.{Node}
use Rattle.centre_bound.specs.Cut.{centre_bound_of}

-- where the node's mark gives a bound, it is the fine bound of its square
abbrev pub HasFineBound : Instance → Node → Type 0
HasFineBound i n = MatchOption (bound_of n.mark) ⊤ (λ bound. bound ≡ fine_of i n.square)

-- each of them has
abbrev pub HaveFineBounds : Instance → List Node → Type 0
HaveFineBounds i ns = All (HasFineBound i) ns

-- the centre bound of a leaf that isn't excluded, and none of any other node
abbrev pub leaf_bound : Instance → Node → Option ℤ
leaf_bound i n = option_map (λ bound. centre_bound_of i n.square) (bound_of n.mark)

-- the least centre bound of the leaves that aren't excluded, or none where all are
abbrev pub least_centre_bound : Instance → List Node → Option ℤ
least_centre_bound i [] = None
least_centre_bound i (n ∷ ns) = lesser (leaf_bound i n) (least_centre_bound i ns)

-- a bound over all permitted points that is at least the former one; or neither is there
abbrev pub IsPolished : Instance → Option ℤ → Option ℤ → Type 0
IsPolished i None None = ⊤
IsPolished i None (Some p) = ⊥
IsPolished i (Some b) None = ⊥
IsPolished i (Some b) (Some p) = (b ≤ℤ p) × IsBound i p
