-- Tests of the edges of a polygon, in loops over the places of the edges.
use Rattle.std.proofs.Common.{◌≡◌, ℕ, ◌+◌, ◌<◌, ◌≤◌, Bool, true, false, List, length, take, ◌∙◌, ap, subst, arith, take_all}
use Rattle.std.specs.List.{list_any}
use Rattle.std.proofs.lemmas.Bool.{or_from}
use Rattle.std.proofs.lemmas.List.Folds.{list_any_more, list_any_at}
use Rattle.siting_definitions.specs.Point.{Place}
use Rattle.siting_definitions.specs.Polygon.{edges, vertex, next_of, origin}
use Rattle.convex_region.proofs.Edges.{length-edges, edge_at}
use Rattle.edge_chain.specs.Chain.{Edge}

-- an edge that passes
pub some_edge : (test : Edge → Bool) (vs : List Place) (i : ℕ) → i < length vs → test (vertex vs i, vertex vs (next_of (length vs) i)) ≡ true → list_any test (edges vs) ≡ true
some_edge test vs i h here = list_any_at test (edges vs) i (origin, origin) (omega (arith, length-edges vs)) (ap test (edge_at vs i h) ∙ here)

-- one edge more that fails
pub none_more : (test : Edge → Bool) (vs : List Place) (i : ℕ) → i < length vs → list_any test (take i (edges vs)) ≡ false → test (vertex vs i, vertex vs (next_of (length vs) i)) ≡ false → list_any test (take (i + 1) (edges vs)) ≡ false
none_more test vs i h before here =
    list_any_more test (edges vs) i (origin, origin) (omega (arith, length-edges vs)) ∙ or_from _ _ before (ap test (edge_at vs i h) ∙ here)

-- all have failed
pub none_at_all : (test : Edge → Bool) (vs : List Place) (n : ℕ) → length vs ≤ n → list_any test (take n (edges vs)) ≡ false → list_any test (edges vs) ≡ false
none_at_all test vs n h none = subst (λ (es : List Edge). list_any test es ≡ false) (take_all n (edges vs) (omega (arith, length-edges vs))) none
