-- Vertices that needn't be priced.
use Rattle.std.proofs.Common.{◌≡◌, ℤ, ◌≤ℤ◌, true, false, cond, IsTrue, List, [], ◌∷◌, Option, Some, All, refl, sym, ap, subst, ◌∙◌}
use Rattle.std.specs.Prelude.{int_le}
use Rattle.std.specs.List.{fold}
use Rattle.std.proofs.lemmas.List.Elements.{All-head, All-tail, All-weaker}
use Rattle.siting_definitions.specs.Point.{Place, Pt, grid, point_of}
use Rattle.siting_definitions.specs.Instance.{Instance}
use Rattle.siting_definitions.specs.Permitted.{permits}
use Rattle.siting_definitions.specs.Square.{Square, holds_closed}
use Rattle.siting_definitions.specs.Bounds.{fine_of, upper_of}
use Rattle.siting_definitions.proofs.Integers.{le_trans_ℤ, le-int_le, int_le-true}
use Rattle.objectives.proofs.BoundLemmas.{fine_of-bounds, upper_of-bounds}
use Rattle.objectives.proofs.CostOrder.{cost_order}
use Rattle.candidate_sites.specs.Cheaper.{cheaper_site, cheaper_vertex}

-- no place in a closed square costs less than the square's fine bound
pub bounded_vertices : (i : Instance) (s : Square) (bound : ℤ) (vs : List Place) → bound ≡ fine_of i s → All (λ v. IsTrue (holds_closed s (point_of (grid v)))) vs → All (λ v. bound ≤ℤ upper_of i (grid v)) vs
bounded_vertices i s bound vs own held =
    All-weaker (λ v. IsTrue (holds_closed s (point_of (grid v)))) (λ v. bound ≤ℤ upper_of i (grid v))
    (λ v h.
    subst (λ b. b ≤ℤ upper_of i (grid v)) (sym own)
    (cost_order i (point_of (grid v)) (fine_of i s) (upper_of i (grid v)) (fine_of-bounds i s (point_of (grid v)) h) (upper_of-bounds i (grid v))))
    vs held

-- a site that costs no less than what was found changes nothing, permitted or not
pub cheaper_site-dear : (i : Instance) (b : Pt × ℤ) (z : Pt) → b.1 ≤ℤ upper_of i z → cheaper_site i (Some b) z ≡ Some b
cheaper_site-dear i b z dear =
    ap (λ t. cond (permits i (point_of z)) (cond t (Some b) (Some (z, upper_of i z))) (Some b)) (le-int_le b.1 (upper_of i z) dear)
    ∙ elim (permits i (point_of z)) as (λ t. cond t (Some b) (Some b) ≡ Some b) [ true ↦ refl | false ↦ refl ]

-- nor do several vertices
fold-dear : (i : Instance) (b : Pt × ℤ) (vs : List Place) → All (λ v. b.1 ≤ℤ upper_of i (grid v)) vs → fold (cheaper_vertex i) (Some b) vs ≡ Some b
fold-dear i b [] dear = refl
fold-dear i b (v ∷ vs) dear =
    let P : Place → Type 0 = λ v. b.1 ≤ℤ upper_of i (grid v) in
    ap (λ f. fold (cheaper_vertex i) f vs) (cheaper_site-dear i b (grid v) (All-head P v vs dear))
    ∙ fold-dear i b vs (All-tail P v vs dear)

-- vertices that cost at least a bound change nothing where the bound is at least the cost of what was found
pub fold-bounded : (i : Instance) (found : Option (Pt × ℤ)) (b : Pt × ℤ) (bound : ℤ) (vs : List Place) → found ≡ Some b → int_le b.1 bound ≡ true → All (λ v. bound ≤ℤ upper_of i (grid v)) vs → fold (cheaper_vertex i) found vs ≡ found
fold-bounded i found b bound vs some reached bounded =
    ap (λ f. fold (cheaper_vertex i) f vs) some
    ∙ fold-dear i b vs
    (All-weaker (λ v. bound ≤ℤ upper_of i (grid v)) (λ v. b.1 ≤ℤ upper_of i (grid v))
    (λ v h. le_trans_ℤ b.1 bound (upper_of i (grid v)) (int_le-true b.1 bound reached) h) vs bounded)
    ∙ sym some
