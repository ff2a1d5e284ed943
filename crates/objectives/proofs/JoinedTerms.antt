-- What is joined over demand points is the total of the definition of cost.
use Rattle.std.proofs.Common.{◌≡◌, ℕ, ℤ, pos, ◌+ℤ◌, ◌*ℤ◌, List, [], ◌∷◌, map, fold, None, Some, refl, sym, ap, ◌∙◌}
use Rattle.std.specs.Prelude.{unwrap_or, unsigned_abs, sum_by}
use Rattle.std.proofs.lemmas.List.Sums.{fold_more, sum_by_more}
use Rattle.objectives.proofs.Sizes.{step_small}
use Rattle.std.specs.Int.{int_max}
use Rattle.siting_definitions.specs.declared.Kind.TheVariants.{Sum, Max}
use Rattle.std.proofs.Common.{Option, ◌+◌, ◌*◌, ◌<◌, ◌≤◌, length, take, get_or, arith}
use Rattle.siting_definitions.specs.Instance.{DemandPt, Instance}
use Rattle.siting_definitions.specs.Cost.{terms, total, total_of}
use Rattle.objectives.specs.Totals.{sum_joined, max_joined, joined_at, size_of, IsTotal}
use Rattle.objectives.specs.TotalLaws.{zero_more}

sum_at : (f : DemandPt → ℕ) (t : ℤ) (ds : List DemandPt) → fold (joined_at sum_joined f) (Some t) ds ≡ Some (fold ◌+ℤ◌ t (terms ds (map f ds)))
sum_at f t [] = refl
sum_at f t (d ∷ ds) = sum_at f (t +ℤ d.w *ℤ pos (f d)) ds

max_at : (f : DemandPt → ℕ) (t : ℤ) (ds : List DemandPt) → fold (joined_at max_joined f) (Some t) ds ≡ Some (fold int_max t (terms ds (map f ds)))
max_at f t [] = refl
max_at f t (d ∷ ds) = max_at f (int_max t (d.w *ℤ pos (f d))) ds

pub sum_of_terms : (f : DemandPt → ℕ) (ds : List DemandPt) → unwrap_or (fold (joined_at sum_joined f) None ds) (pos 0) ≡ total Sum (terms ds (map f ds))
sum_of_terms f [] = refl
sum_of_terms f (d ∷ ds) =
    ap (λ o. unwrap_or o (pos 0)) (sum_at f (d.w *ℤ pos (f d)) ds) ∙ ap (λ z. fold ◌+ℤ◌ z (terms ds (map f ds))) (sym (zero_more (d.w *ℤ pos (f d))))

pub greatest_of_terms : (f : DemandPt → ℕ) (ds : List DemandPt) → unwrap_or (fold (joined_at max_joined f) None ds) (pos 0) ≡ total Max (terms ds (map f ds))
greatest_of_terms f [] = refl
greatest_of_terms f (d ∷ ds) = ap (λ o. unwrap_or o (pos 0)) (max_at f (d.w *ℤ pos (f d)) ds)

-- the sum over all points is the total of a sum
pub sum_total : (i : Instance) (f : DemandPt → ℕ) (ds : List DemandPt) (t : ℤ) → Sum ≡ i.kind → ds ≡ i.points → t ≡ unwrap_or (fold (joined_at sum_joined f) None ds) (pos 0) → t ≡ total_of i (map f i.points)
unfolding total_of
sum_total i f ds t kind points e =
    e ∙ ap (λ ds. unwrap_or (fold (joined_at sum_joined f) None ds) (pos 0)) points ∙ sum_of_terms f i.points
    ∙ ap (λ k. total k (terms i.points (map f i.points))) kind

-- and the greatest is that of a greatest
pub greatest_total : (i : Instance) (f : DemandPt → ℕ) (ds : List DemandPt) (t : ℤ) → Max ≡ i.kind → ds ≡ i.points → t ≡ unwrap_or (fold (joined_at max_joined f) None ds) (pos 0) → t ≡ total_of i (map f i.points)
unfolding total_of
greatest_total i f ds t kind points e =
    e ∙ ap (λ ds. unwrap_or (fold (joined_at max_joined f) None ds) (pos 0)) points ∙ greatest_of_terms f i.points
    ∙ ap (λ k. total k (terms i.points (map f i.points))) kind

-- ---- a step of the loop
pub joined_more : (joined : Option ℤ → ℤ → ℕ → ℤ) (f : DemandPt → ℕ) (ds : List DemandPt) (i : ℕ) (d : DemandPt) (so_far : Option ℤ) (w t : ℤ) (r : ℕ) → i < length ds → d ≡ get_or ds i d → w ≡ d.w → r ≡ f d → so_far ≡ fold (joined_at joined f) None (take i ds) → t ≡ joined so_far w r → Some t ≡ fold (joined_at joined f) None (take (i + 1) ds)
joined_more joined f ds i d so_far w t r within at weight radius before e =
    let s = fold (joined_at joined f) None (take i ds) in
    ap Some (e ∙ ap (λ s. joined s w r) before ∙ ap (λ w. joined s w r) weight ∙ ap (λ r. joined s d.w r) radius)
    ∙ ap (λ (d : DemandPt). joined_at joined f s d) at
    ∙ sym (fold_more (joined_at joined f) None ds i d within)

-- it stays within the sizes of the weights times the limit of the radii
pub joined_small : (joined : Option ℤ → ℤ → ℕ → ℤ) (ds : List DemandPt) (i : ℕ) (d : DemandPt) (so_far : Option ℤ) (w t : ℤ) (r limit : ℕ) → IsTotal joined → i < length ds → d ≡ get_or ds i d → w ≡ d.w → r ≤ limit → size_of so_far ≤ sum_by (λ (d : DemandPt). unsigned_abs d.w) (take i ds) * limit → t ≡ joined so_far w r → unsigned_abs t ≤ sum_by (λ (d : DemandPt). unsigned_abs d.w) (take (i + 1) ds) * limit
joined_small joined ds i d so_far w t r limit law within at weight short before e =
    let size : DemandPt → ℕ = λ (d : DemandPt). unsigned_abs d.w in
    let more = sum_by_more size ds i d within ∙ ap (λ (d : DemandPt). sum_by size (take i ds) + size d) (sym at) ∙ ap (λ w. sum_by size (take i ds) + unsigned_abs w) (sym weight) in
    step_small (size_of so_far) (unsigned_abs t) (sum_by size (take i ds)) (unsigned_abs w) limit r (sum_by size (take (i + 1) ds)) before (rw e (law.grows_by so_far w r)) short more

-- none is 0
pub unwrap_small : (o : Option ℤ) → unsigned_abs (unwrap_or o (pos 0)) ≤ size_of o
unwrap_small None = omega arith
unwrap_small (Some t) = omega arith
