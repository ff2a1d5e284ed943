-- The opening: the cheapest of the permitted vertices, with what its contract says of it.
use Rattle.std.proofs.Common.{◌≡◌, ℤ, Bool, true, false, cond, List, [], ◌∷◌, ◌++◌, map, Option, Some, None, All, ℕ, ◌+◌, ◌<◌, ◌≤◌, length, take, take_all, get_or, IfSome, IsTrue, MatchOption, refl, sym, ap, ◌∙◌, subst, arith}
use Rattle.std.specs.Prelude.{⊤, unsigned_abs, ◌^◌}
use Rattle.std.specs.Option.{option_map}
use Rattle.std.specs.List.{fold, filter}
use Rattle.std.proofs.lemmas.List.Folds.{fold-map}
use Rattle.std.proofs.lemmas.List.Sums.{fold-append, fold_more}
use Rattle.std.proofs.lemmas.List.Elements.{All-nil, All-cons, All-append, All-weaker, All-map, All-filter}
use Rattle.siting_definitions.specs.Point.{Place, Pt, grid, point_of}
use Rattle.siting_definitions.specs.Polygon.{vertex, origin}
use Rattle.site_model.proofs.Vertices.{places_of, vertices-more}
use Rattle.siting_definitions.specs.Instance.{Instance, IsInstance, IsPlace}
use Rattle.siting_definitions.specs.Permitted.{permits}
use Rattle.siting_definitions.specs.Bounds.{upper_of}
use Rattle.siting_definitions.specs.Sites.{candidates, opening_of, vertices}
use Rattle.objectives.proofs.SiteSizes.{IsWithinReach, upper_of-size}
use Rattle.candidate_sites.specs.Cheaper.{cheaper_of, cheaper_site, cheaper_vertex}
use Rattle.candidate_sites.proofs.CheapestLemmas.{fold-cheaper_of-none, cheapest-none, cheapest-first, cheapest-all}
use Rattle.candidate_sites.specs.First.{IsFirstOfLeast}
use borrow.Author.Differences.{ints}

-- sites that aren't permitted change nothing
fold-cheaper_site : (i : Instance) (best : Option (Pt × ℤ)) (zs : List Pt) → fold (cheaper_site i) best zs ≡ fold (cheaper_of (upper_of i)) best (filter (λ z. permits i (point_of z)) zs)
fold-cheaper_site i best [] = refl
fold-cheaper_site i best (z ∷ zs) =
    let rest : List Pt = filter (λ y. permits i (point_of y)) zs in
    fold-cheaper_site i (cheaper_site i best z) zs
    ∙ elim (permits i (point_of z)) as (λ t. fold (cheaper_of (upper_of i)) (cond t (cheaper_of (upper_of i) best z) best) rest ≡ fold (cheaper_of (upper_of i)) best (cond t (z ∷ rest) rest)) [ true ↦ refl | false ↦ refl ]

-- the cheapest of all vertices
vertices-cheapest : (i : Instance) → fold (cheaper_vertex i) (fold (cheaper_vertex i) None (vertices i.permitted)) (vertices i.forbidden) ≡ option_map (λ z. (z, upper_of i z)) (opening_of i)
unfolding opening_of
vertices-cheapest i =
    sym (fold-append (cheaper_vertex i) None (vertices i.permitted) (vertices i.forbidden))
    ∙ sym (fold-map (cheaper_site i) grid None (vertices i.permitted ++ vertices i.forbidden))
    ∙ fold-cheaper_site i None (map grid (vertices i.permitted ++ vertices i.forbidden))
    ∙ fold-cheaper_of-none (upper_of i) (candidates i)

-- the opening is the first candidate of least upper cost
pub opening-first : (i : Instance) (z : Pt) → opening_of i ≡ Some z → IsFirstOfLeast (upper_of i) (candidates i) z
unfolding opening_of
opening-first i z h = cheapest-first (upper_of i) (candidates i) z h

-- where there is none, there is no candidate
pub opening-none : (i : Instance) → opening_of i ≡ None → candidates i ≡ []
unfolding opening_of
opening-none i h = cheapest-none (upper_of i) (candidates i) h

-- ---- what holds of each candidate holds of the opening
filter-passes : (p : Pt → Bool) (zs : List Pt) → All (λ y. p y ≡ true) (filter p zs)
filter-passes p [] = All-nil (λ y. p y ≡ true)
filter-passes p (z ∷ zs) = filtered p z zs (p z) refl (filter-passes p zs)
  where
    filtered : (p : Pt → Bool) (z : Pt) (zs : List Pt) (b : Bool) → p z ≡ b → All (λ y. p y ≡ true) (filter p zs) → All (λ y. p y ≡ true) (cond b (z ∷ filter p zs) (filter p zs))
    filtered p z zs true h all = All-cons (λ y. p y ≡ true) z (filter p zs) h all
    filtered p z zs false h all = all

-- the opening is permitted
opening-permitted : (i : Instance) → MatchOption (opening_of i) ⊤ (λ z. permits i (point_of z) ≡ true)
unfolding opening_of
opening-permitted i =
    let test : Pt → Bool = λ z. permits i (point_of z) in
    cheapest-all (λ z. test z ≡ true) (upper_of i) (candidates i) (filter-passes test (map grid (vertices i.permitted ++ vertices i.forbidden)))

-- ---- how great its cost is
-- a vertex lies within 65536 * 1000000 on both axes
IsVertex : Pt → Type 0
IsVertex z = IsWithinReach z 65536000000 200000000000

grid-vertex : (v : Place) → IsPlace v → IsVertex (grid v)
unfolding IsVertex
grid-vertex v h = record { x = omega (arith, ints, h.x); y = omega (arith, ints, h.y); diagonal = omega arith }

-- the opening is a vertex of a polygon
opening-vertex : (i : Instance) → IsInstance i → MatchOption (opening_of i) ⊤ IsVertex
unfolding opening_of
opening-vertex i lawful =
    let places = vertices i.permitted ++ vertices i.forbidden in
    cheapest-all IsVertex (upper_of i) (candidates i)
    (All-filter (λ z. permits i (point_of z)) IsVertex (map grid places)
    (All-map IsVertex grid places
    (All-weaker IsPlace (λ v. IsVertex (grid v)) grid-vertex places
    (All-append IsPlace (vertices i.permitted) (vertices i.forbidden) (places_of i.permitted lawful.permitted) (places_of i.forbidden lawful.forbidden)))))

vertex_cost-small : (i : Instance) (z : Pt) → IsInstance i → IsVertex z → unsigned_abs (upper_of i z) ≤ 2 ^ 62
unfolding IsVertex
vertex_cost-small i z lawful vertex = omega (arith, upper_of-size i z 65536000000 200000000000 lawful vertex)

-- the cost of a vertex
pub small_vertex : (i : Instance) (v : Place) → IsInstance i → IsPlace v → unsigned_abs (upper_of i (grid v)) ≤ 2 ^ 62
small_vertex i v lawful place = vertex_cost-small i (grid v) lawful (grid-vertex v place)

-- ---- the answers
abbrev with_cost : Instance → Option Pt → Option (Pt × ℤ)
with_cost i o = option_map (λ z. (z, upper_of i z)) o

-- from the opening with its cost, as the code has them: the site
pub site-answer : (i : Instance) (r : Option (Pt × ℤ)) (o : Option Pt) → r ≡ with_cost i o → option_map (λ (b : Pt × ℤ). b.0) r ≡ o
site-answer i r o same = ap (option_map (λ (b : Pt × ℤ). b.0)) same ∙ of_pair i o
  where
    of_pair : (i : Instance) (o : Option Pt) → option_map (λ (b : Pt × ℤ). b.0) (with_cost i o) ≡ o
    of_pair i None = refl
    of_pair i (Some z) = refl

-- its cost
pub cost-answer : (i : Instance) (r : Option (Pt × ℤ)) (o : Option Pt) → r ≡ with_cost i o → option_map (λ (b : Pt × ℤ). b.1) r ≡ option_map (upper_of i) o
cost-answer i r o same = ap (option_map (λ (b : Pt × ℤ). b.1)) same ∙ of_pair i o
  where
    of_pair : (i : Instance) (o : Option Pt) → option_map (λ (b : Pt × ℤ). b.1) (with_cost i o) ≡ option_map (upper_of i) o
    of_pair i None = refl
    of_pair i (Some z) = refl

-- what holds of an opening, if there is one, with its cost
of_opening : (i : Instance) (P : Pt × ℤ → Type 0) (o : Option Pt) → MatchOption o ⊤ (λ z. P (z, upper_of i z)) → IfSome (with_cost i o) P
of_opening i P None h = tt
of_opening i P (Some z) h = h

-- that it is permitted
pub permitted-answer : (i : Instance) (r : Option (Pt × ℤ)) → r ≡ with_cost i (opening_of i) → IfSome r (λ (b : Pt × ℤ). IsTrue (permits i (point_of b.0)))
permitted-answer i r same =
    let P : Pt × ℤ → Type 0 = λ b. IsTrue (permits i (point_of b.0)) in
    subst (λ q. IfSome q P) (sym same) (of_opening i P (opening_of i) (opening-permitted i))

-- and how great the cost can be
pub small-answer : (i : Instance) (r : Option (Pt × ℤ)) → IsInstance i → r ≡ with_cost i (opening_of i) → IfSome r (λ (b : Pt × ℤ). unsigned_abs b.1 ≤ 2 ^ 62)
small-answer i r lawful same =
    let P : Pt × ℤ → Type 0 = λ b. unsigned_abs b.1 ≤ 2 ^ 62 in
    subst (λ q. IfSome q P) (sym same) (of_opening i P (opening_of i) (priced (opening_of i) (opening-vertex i lawful)))
  where
    priced : (o : Option Pt) → MatchOption o ⊤ IsVertex → MatchOption o ⊤ (λ z. unsigned_abs (upper_of i z) ≤ 2 ^ 62)
    priced None h = tt
    priced (Some z) h = vertex_cost-small i z lawful h

-- the cheapest of the permitted polygons' vertices, and then of all, from a start from which the same is found as from nothing
pub opening_found : (i : Instance) (ps qs : List (List Place)) (start a b : Option (Pt × ℤ)) → ps ≡ i.permitted → qs ≡ i.forbidden → fold (cheaper_vertex i) start (vertices i.permitted ++ vertices i.forbidden) ≡ fold (cheaper_vertex i) None (vertices i.permitted ++ vertices i.forbidden) → a ≡ fold (cheaper_vertex i) start (vertices ps) → b ≡ fold (cheaper_vertex i) a (vertices qs) → b ≡ with_cost i (opening_of i)
opening_found i ps qs start a b permitted forbidden same first all =
    all
    ∙ ap (λ f. fold (cheaper_vertex i) f (vertices qs)) (first ∙ ap (λ us. fold (cheaper_vertex i) start (vertices us)) permitted)
    ∙ ap (λ us. fold (cheaper_vertex i) (fold (cheaper_vertex i) start (vertices i.permitted)) (vertices us)) forbidden
    ∙ sym (fold-append (cheaper_vertex i) start (vertices i.permitted) (vertices i.forbidden))
    ∙ same
    ∙ fold-append (cheaper_vertex i) None (vertices i.permitted) (vertices i.forbidden)
    ∙ vertices-cheapest i

-- ---- one vertex more, and one polygon more
pub vertex_more : (i : Instance) (first found next : Option (Pt × ℤ)) (vs : List Place) (k : ℕ) (z : Pt) → k < length vs → found ≡ fold (cheaper_vertex i) first (take k vs) → z ≡ grid (vertex vs k) → next ≡ cheaper_site i found z → next ≡ fold (cheaper_vertex i) first (take (k + 1) vs)
vertex_more i first found next vs k z within before at now =
    now
    ∙ ap (λ f. cheaper_site i f z) before
    ∙ ap (cheaper_site i (fold (cheaper_vertex i) first (take k vs))) at
    ∙ sym (fold_more (cheaper_vertex i) first vs k origin within)

-- when all vertices of a polygon were tried
pub vertex_all : (i : Instance) (first found : Option (Pt × ℤ)) (vs : List Place) (k : ℕ) → length vs ≤ k → found ≡ fold (cheaper_vertex i) first (take k vs) → found ≡ fold (cheaper_vertex i) first vs
vertex_all i first found vs k whole before = before ∙ ap (fold (cheaper_vertex i) first) (take_all k vs whole)

-- one polygon more
pub polygon_more : (i : Instance) (first found next : Option (Pt × ℤ)) (ps : List (List Place)) (k : ℕ) (p : List Place) → k < length ps → found ≡ fold (cheaper_vertex i) first (vertices (take k ps)) → p ≡ get_or ps k p → next ≡ fold (cheaper_vertex i) found p → next ≡ fold (cheaper_vertex i) first (vertices (take (k + 1) ps))
polygon_more i first found next ps k p within before at now =
    now
    ∙ ap (λ f. fold (cheaper_vertex i) f p) before
    ∙ sym (fold-append (cheaper_vertex i) first (vertices (take k ps)) p)
    ∙ ap (λ us. fold (cheaper_vertex i) first (vertices (take k ps) ++ us)) at
    ∙ ap (fold (cheaper_vertex i) first) (sym (vertices-more ps k p within))

-- when all polygons were tried
pub polygon_all : (i : Instance) (first found : Option (Pt × ℤ)) (ps : List (List Place)) (k : ℕ) → length ps ≤ k → found ≡ fold (cheaper_vertex i) first (vertices (take k ps)) → found ≡ fold (cheaper_vertex i) first (vertices ps)
polygon_all i first found ps k whole before = before ∙ ap (λ qs. fold (cheaper_vertex i) first (vertices qs)) (take_all k ps whole)
