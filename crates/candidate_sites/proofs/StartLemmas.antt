-- The search for the opening begins at a cost just above that of some permitted vertex, and finds what it finds from nothing.
use Rattle.std.proofs.Common.{◌≡◌, ℕ, zero, suc, ◌+◌, ◌<◌, ◌≤◌, ℤ, pos, ◌+ℤ◌, ◌≤ℤ◌, ◌<ℤ◌, Bool, true, false, cond, List, [], ◌∷◌, ◌++◌, length, take, take_all, get_or, Option, Some, None, All, IfSome, unsigned_abs, refl, sym, ap, ◌∙◌, subst, ◌⊎◌, inl, inr, ⊎_elim, arith, length-append}
use Rattle.std.specs.Prelude.{int_le, nat_lt, ◌^◌}
use Rattle.std.specs.List.{fold}
use Rattle.std.proofs.lemmas.Int.{by_lt_z}
use Rattle.std.proofs.lemmas.Bool.Decides.{nat_tests}
use Rattle.std.proofs.lemmas.List.{get_or_append_left, get_or-append-add}
use Rattle.std.proofs.lemmas.List.Sums.{fold_more}
use Rattle.std.proofs.lemmas.List.Elements.{All-append, All-get_or}
use Rattle.siting_definitions.specs.Point.{Place, Pt, grid, point_of}
use Rattle.siting_definitions.specs.Polygon.{vertex, origin}
use Rattle.siting_definitions.specs.Instance.{Instance, IsInstance, IsPlace}
use Rattle.siting_definitions.specs.Permitted.{permits}
use Rattle.siting_definitions.specs.Bounds.{upper_of}
use Rattle.siting_definitions.specs.Sites.{vertices}
use Rattle.siting_definitions.proofs.Integers.{lt-int_le}
use Rattle.site_model.proofs.Vertices.{places_of}
use Rattle.candidate_sites.specs.Cheaper.{cheaper_of, cheaper_vertex}
use Rattle.candidate_sites.specs.Start.{cheaper_start, one_dearer}
use Rattle.candidate_sites.specs.declared.cheapest.TheConstants.{MANY_VERTICES}
use Rattle.candidate_sites.proofs.SkipLemmas.{cheaper_site-dear}
use Rattle.candidate_sites.proofs.OpeningLemmas.{small_vertex}
use borrow.Author.Differences.{ints}

-- some permitted place of the list has this upper cost
pub record IsCostOfOne (i : Instance) (vs : List Place) (cost : ℤ) : Type 0 where
  pub index : ℕ
  pub within : index < length vs
  pub permitted : permits i (point_of (grid (vertex vs index))) ≡ true
  pub own : cost ≡ upper_of i (grid (vertex vs index))

-- ---- from a cost above that of some permitted place
-- a place that is cheaper than what was found is found from it as from nothing
cheaper_vertex-less : (i : Instance) (b : Pt × ℤ) (v : Place) → permits i (point_of (grid v)) ≡ true → upper_of i (grid v) <ℤ b.1 → cheaper_vertex i (Some b) v ≡ cheaper_vertex i None v
cheaper_vertex-less i b v allowed less =
    ap (λ t. cond t (cond (int_le b.1 (upper_of i (grid v))) (Some b) (Some (grid v, upper_of i (grid v)))) (Some b)) allowed
    ∙ ap (λ t. cond t (Some b) (Some (grid v, upper_of i (grid v)))) (lt-int_le b.1 (upper_of i (grid v)) less)
    ∙ ap (λ t. cond t (Some (grid v, upper_of i (grid v))) None) (sym allowed)

-- from a cost above that of a permitted place of the list, the same is found as from nothing
fold-from : (i : Instance) (vs : List Place) (k : ℕ) (b : Pt × ℤ) → k < length vs → permits i (point_of (grid (vertex vs k))) ≡ true → upper_of i (grid (vertex vs k)) <ℤ b.1 → fold (cheaper_vertex i) (Some b) vs ≡ fold (cheaper_vertex i) None vs
fold-from i [] k b within allowed less = absurd (omega arith)
fold-from i (v ∷ vs) zero b within allowed less = ap (λ f. fold (cheaper_vertex i) f vs) (cheaper_vertex-less i b v allowed less)
fold-from i (v ∷ vs) (suc k) b within allowed less =
    let later : k < length vs = omega arith in
    let same = fold-from i vs k b later allowed less in
    by_permits (permits i (point_of (grid v))) refl
    (λ here.
    by_lt_z (upper_of i (grid v)) b.1
    (λ below. ap (λ f. fold (cheaper_vertex i) f vs) (cheaper_vertex-less i b v here below))
    (λ above.
    let found : Pt × ℤ = (grid v, upper_of i (grid v)) in
    let under : upper_of i (grid (vertex vs k)) <ℤ found.1 = lt_le (upper_of i (grid (vertex vs k))) b.1 found.1 less above in
    ap (λ f. fold (cheaper_vertex i) f vs) (cheaper_site-dear i b (grid v) above)
    ∙ same
    ∙ sym (fold-from i vs k found later allowed under)
    ∙ ap (λ t. fold (cheaper_vertex i) (cond t (Some found) None) vs) (sym here)))
    (λ barred.
    ap (λ t. fold (cheaper_vertex i) (cond t (cheaper_of (upper_of i) (Some b) (grid v)) (Some b)) vs) barred
    ∙ same
    ∙ ap (λ t. fold (cheaper_vertex i) (cond t (Some (grid v, upper_of i (grid v))) None) vs) (sym barred))
  where
    lt_le : (a b c : ℤ) → a <ℤ b → b ≤ℤ c → a <ℤ c
    lt_le a b c h k = omega (arith, ints)

    by_permits : {P : Type 0} (t : Bool) → permits i (point_of (grid v)) ≡ t → (permits i (point_of (grid v)) ≡ true → P) → (permits i (point_of (grid v)) ≡ false → P) → P
    by_permits true e f g = f e
    by_permits false e f g = g e

-- one more than the cost of a permitted place is such a cost
pub found_from : (i : Instance) (vs : List Place) (found : Option (Pt × ℤ)) → IfSome found (λ b. IsCostOfOne i vs b.1) → fold (cheaper_vertex i) (one_dearer found) vs ≡ fold (cheaper_vertex i) None vs
found_from i vs None priced = refl
found_from i vs (Some b) priced = fold-from i vs priced.index (b.0, b.1 +ℤ pos 1) priced.within priced.permitted (omega (arith, ints, priced.own))

-- ---- what is tried is a permitted vertex with its cost
-- among more places
priced_left : (i : Instance) (us vs : List Place) (cost : ℤ) → IsCostOfOne i us cost → IsCostOfOne i (us ++ vs) cost
priced_left i us vs cost p =
    let same = get_or_append_left us vs origin p.index p.within in
    record {
      index = p.index;
      within = omega (arith, p.within, length-append us vs);
      permitted = ap (λ v. permits i (point_of (grid v))) same ∙ p.permitted;
      own = p.own ∙ ap (λ v. upper_of i (grid v)) (sym same);
    }

priced_right : (i : Instance) (us vs : List Place) (cost : ℤ) → IsCostOfOne i vs cost → IsCostOfOne i (us ++ vs) cost
priced_right i us vs cost p =
    let same = get_or-append-add us vs p.index origin in
    record {
      index = length us + p.index;
      within = omega (arith, p.within, length-append us vs);
      permitted = ap (λ v. permits i (point_of (grid v))) same ∙ p.permitted;
      own = p.own ∙ ap (λ v. upper_of i (grid v)) (sym same);
    }

-- what comes of one vertex: what was found, or that vertex
tried_vertex : (i : Instance) (found : Option (Pt × ℤ)) (vs : List Place) (b : Pt × ℤ) → 0 < length vs → cheaper_vertex i found (vertex vs 0) ≡ Some b → (found ≡ Some b) ⊎ IsCostOfOne i vs b.1
tried_vertex i found vs b some is = by_permits (permits i (point_of (grid (vertex vs 0)))) refl is
  where
    here : permits i (point_of (grid (vertex vs 0))) ≡ true → Some (grid (vertex vs 0), upper_of i (grid (vertex vs 0))) ≡ Some b → IsCostOfOne i vs b.1
    here allowed same = record { index = 0; within = some; permitted = allowed; own = cc }

    by_cost : (t : Bool) (f : Pt × ℤ) → permits i (point_of (grid (vertex vs 0))) ≡ true → found ≡ Some f → cond t (Some f) (Some (grid (vertex vs 0), upper_of i (grid (vertex vs 0)))) ≡ Some b → (found ≡ Some b) ⊎ IsCostOfOne i vs b.1
    by_cost true f allowed at same = inl (at ∙ same)
    by_cost false f allowed at same = inr (here allowed same)

    by_found : (f : Option (Pt × ℤ)) → permits i (point_of (grid (vertex vs 0))) ≡ true → found ≡ f → cheaper_of (upper_of i) f (grid (vertex vs 0)) ≡ Some b → (found ≡ Some b) ⊎ IsCostOfOne i vs b.1
    by_found None allowed at same = inr (here allowed same)
    by_found (Some f) allowed at same = by_cost (int_le f.1 (upper_of i (grid (vertex vs 0)))) f allowed at same

    by_permits : (t : Bool) → permits i (point_of (grid (vertex vs 0))) ≡ t → cond t (cheaper_of (upper_of i) found (grid (vertex vs 0))) found ≡ Some b → (found ≡ Some b) ⊎ IsCostOfOne i vs b.1
    by_permits true allowed same = by_found found allowed refl same
    by_permits false barred same = inl same

-- of one polygon
tried_polygon : (i : Instance) (found : Option (Pt × ℤ)) (vs : List Place) (b : Pt × ℤ) → cheaper_start i found vs ≡ Some b → (found ≡ Some b) ⊎ IsCostOfOne i vs b.1
tried_polygon i found vs b is = by_length (nat_lt (length vs) MANY_VERTICES) refl is
  where
    many : (n : ℕ) → nat_lt n 16 ≡ false → 0 < n
    many n h = grind (arith, nat_tests)

    by_length : (t : Bool) → nat_lt (length vs) MANY_VERTICES ≡ t → cond t found (cheaper_vertex i found (vertex vs 0)) ≡ Some b → (found ≡ Some b) ⊎ IsCostOfOne i vs b.1
    by_length true few same = inl same
    by_length false enough same = tried_vertex i found vs b (many (length vs) enough) same

-- of several
pub tried_polygons : (i : Instance) (found : Option (Pt × ℤ)) (ps : List (List Place)) (b : Pt × ℤ) → fold (cheaper_start i) found ps ≡ Some b → (found ≡ Some b) ⊎ IsCostOfOne i (vertices ps) b.1
tried_polygons i found [] b is = inl is
tried_polygons i found (vs ∷ ps) b is =
    ⊎_elim
    (λ first.
    ⊎_elim (λ before. inl before) (λ here. inr (priced_left i vs (vertices ps) b.1 here)) (tried_polygon i found vs b first))
    (λ later. inr (priced_right i vs (vertices ps) b.1 later))
    (tried_polygons i (cheaper_start i found vs) ps b is)

-- of the permitted polygons, and then of the forbidden ones
pub tried_all : (i : Instance) (ps qs : List (List Place)) (first found : Option (Pt × ℤ)) → ps ≡ i.permitted → qs ≡ i.forbidden → first ≡ fold (cheaper_start i) None ps → found ≡ fold (cheaper_start i) first qs → IfSome found (λ b. IsCostOfOne i (vertices i.permitted ++ vertices i.forbidden) b.1)
tried_all i ps qs first None permitted forbidden before all = tt
tried_all i ps qs first (Some b) permitted forbidden before all =
    ⊎_elim
    (λ earlier.
    ⊎_elim (λ none. absurd (cc)) (λ here. priced_left i (vertices i.permitted) (vertices i.forbidden) b.1 here)
    (tried_polygons i None i.permitted b (ap (fold (cheaper_start i) None) (sym permitted) ∙ sym before ∙ earlier)))
    (λ later. priced_right i (vertices i.permitted) (vertices i.forbidden) b.1 later)
    (tried_polygons i first i.forbidden b (ap (fold (cheaper_start i) first) (sym forbidden) ∙ sym all))

-- the cost of a vertex is far from the ends of 64 bits
pub priced_small : (i : Instance) (found : Option (Pt × ℤ)) → IsInstance i → IfSome found (λ b. IsCostOfOne i (vertices i.permitted ++ vertices i.forbidden) b.1) → IfSome found (λ b. unsigned_abs b.1 ≤ 2 ^ 62)
priced_small i None lawful priced = tt
priced_small i (Some b) lawful priced =
    let vs = vertices i.permitted ++ vertices i.forbidden in
    let places : All IsPlace vs = All-append IsPlace (vertices i.permitted) (vertices i.forbidden) (places_of i.permitted lawful.permitted) (places_of i.forbidden lawful.forbidden) in
    subst (λ c. unsigned_abs c ≤ 2 ^ 62) (sym priced.own) (small_vertex i (vertex vs priced.index) lawful (All-get_or IsPlace vs priced.index origin priced.within places))

-- ---- one polygon more
pub start_more : (i : Instance) (first found next : Option (Pt × ℤ)) (ps : List (List Place)) (k : ℕ) (p : List Place) → k < length ps → found ≡ fold (cheaper_start i) first (take k ps) → p ≡ get_or ps k p → next ≡ cheaper_start i found p → next ≡ fold (cheaper_start i) first (take (k + 1) ps)
start_more i first found next ps k p within before at now =
    now
    ∙ ap (λ f. cheaper_start i f p) before
    ∙ ap (cheaper_start i (fold (cheaper_start i) first (take k ps))) at
    ∙ sym (fold_more (cheaper_start i) first ps k p within)

-- when all polygons were tried
pub start_all : (i : Instance) (first found : Option (Pt × ℤ)) (ps : List (List Place)) (k : ℕ) → length ps ≤ k → found ≡ fold (cheaper_start i) first (take k ps) → found ≡ fold (cheaper_start i) first ps
start_all i first found ps k whole before = before ∙ ap (fold (cheaper_start i) first) (take_all k ps whole)
