-- Edges that are gathered one after another.
use Rattle.std.proofs.Common.{◌≡◌, ℕ, ◌+◌, ◌<◌, ◌≤◌, List, [], ◌∷◌, ◌++◌, length, take, sym, ap, ◌∙◌, append_assoc, arith, take_all}
use Rattle.std.proofs.lemmas.List.{take_more}
use Rattle.siting_definitions.specs.Point.{Place}
use Rattle.siting_definitions.specs.Polygon.{edges, vertex, next_of, origin}
use Rattle.convex_region.proofs.Edges.{length-edges, edge_at}
use Rattle.edge_chain.specs.Chain.{Edge}

-- one edge of a ring more
pub ring_more : (vs : List Place) (i : ℕ) (first now next : List Edge) (e : Edge) → i < length vs → e ≡ (vertex vs i, vertex vs (next_of (length vs) i)) → now ≡ first ++ take i (edges vs) → next ≡ now ++ e ∷ [] → next ≡ first ++ take (i + 1) (edges vs)
ring_more vs i first now next e h at before pushed =
    pushed
    ∙ ap (λ (es : List Edge). es ++ e ∷ []) before
    ∙ append_assoc first (take i (edges vs)) (e ∷ [])
    ∙ ap (λ (d : Edge). first ++ (take i (edges vs) ++ d ∷ [])) (at ∙ sym (edge_at vs i h))
    ∙ ap (λ (es : List Edge). first ++ es) (sym (take_more (edges vs) i (origin, origin) (omega (arith, length-edges vs))))

-- all edges of a ring
pub ring_whole : (vs : List Place) (n : ℕ) (first now : List Edge) → length vs ≤ n → now ≡ first ++ take n (edges vs) → now ≡ first ++ edges vs
ring_whole vs n first now h before =
    before ∙ ap (λ (es : List Edge). first ++ es) (take_all n (edges vs) (omega (arith, length-edges vs)))
