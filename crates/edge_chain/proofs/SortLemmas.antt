-- A sorted list is told by its elements.
use Rattle.std.proofs.Common.{◌≡◌, suc, ◌+◌, Bool, true, false, List, [], ◌∷◌, refl, sym, ◌∙◌, ap, subst, Decides, add-one, arith}
use Rattle.std.specs.Cmp.{IsTotalOrder}
use Rattle.std.specs.declared.cmp.Ordering.{Ordering}
use Rattle.std.specs.declared.cmp.Ordering.TheVariants.{Less, Equal, Greater}
use Rattle.std.specs.Ordering.{is_lt, is_eq, ordering_reverse}
use Rattle.std.specs.List.Sorted.{IsSortedBy, IsSortedByKey}
use Rattle.std.proofs.lemmas.Bool.{true≢false}
use Rattle.std.proofs.lemmas.Cmp.{tied_itself}
use Rattle.std.proofs.lemmas.List.Sorted.{ranks_by, sorted_far}
use Rattle.dyadic_square.proofs.Bag.{total, SameTotals, length-SameTotals, contains_from_totals, SameTotals-rest}

-- neither of two is before the other: they tie
tie : (r s : Ordering) → r ≡ ordering_reverse s → is_lt r ≡ false → is_lt s ≡ false → r ≡ Equal
tie Less s law h k = absurd (true≢false h)
tie Equal s law h k = refl
tie Greater Less law h k = absurd (true≢false k)
tie Greater Equal law h k = law
tie Greater Greater law h k = absurd (true≢false (ap is_lt (sym law)))

is_tie : (r : Ordering) → is_eq r ≡ true → r ≡ Equal
is_tie Less h = absurd (true≢false (sym h))
is_tie Equal h = refl
is_tie Greater h = absurd (true≢false (sym h))

sorted-tail : {X : Type 0} (lt : X → X → Bool) (x : X) (xs : List X) → IsSortedBy lt (x ∷ xs) → IsSortedBy lt xs
sorted-tail lt x xs h k d low high =
    let e = h (suc k) d (omega arith) (omega arith) in rw (add-one k) (rw (add-one (suc k)) at e)

-- two sorted lists with the same elements are the same, where what ties is the same
pub sorted_unique : {X K : Type 0} (key : X → K) (R : K → K → Ordering) → IsTotalOrder R → ((x y : X) → R (key x) (key y) ≡ Equal → x ≡ y) → (xs ys : List X) → IsSortedByKey key R xs → IsSortedByKey key R ys → SameTotals xs ys → xs ≡ ys
sorted_unique key R o ties [] [] sx sy s = refl
sorted_unique key R o ties [] (y ∷ ys) sx sy s = absurd (omega (arith, length-SameTotals [] (y ∷ ys) s))
sorted_unique key R o ties (x ∷ xs) [] sx sy s = absurd (omega (arith, length-SameTotals (x ∷ xs) [] s))
sorted_unique {X} key R o ties (x ∷ xs) (y ∷ ys) sx sy s =
    let lt : X → X → Bool = λ a b. is_lt (R (key a) (key b)) in
    let same : X → X → Bool = λ a b. is_eq (R (key a) (key b)) in
    let decides : (a b : X) → Decides (same a b) (a ≡ b) = λ a b. (λ e. ties a b (is_tie _ e), λ e. subst (λ c. is_eq (R (key a) (key c)) ≡ true) e (ap is_eq (tied_itself o (key a)))) in
    let here = contains_from_totals same decides x xs (y ∷ ys) s in
    let there = contains_from_totals same decides y ys (x ∷ xs) (λ f. sym (s f)) in
    let x_late : lt x y ≡ false = subst (λ z. lt z y ≡ false) here.2 (sorted_far lt (ranks_by o key) (y ∷ ys) sy 0 here.0 x (omega arith) here.1) in
    let y_late : lt y x ≡ false = subst (λ z. lt z x ≡ false) there.2 (sorted_far lt (ranks_by o key) (x ∷ xs) sx 0 there.0 y (omega arith) there.1) in
    let head : x ≡ y = ties x y (tie (R (key x) (key y)) (R (key y) (key x)) (o.antisymm (key x) (key y)) x_late y_late) in
    let rest : SameTotals xs ys = SameTotals-rest x xs ys (λ f. s f ∙ ap (λ z. f z + total f ys) (sym head)) in
    let tail : xs ≡ ys = sorted_unique key R o ties xs ys (sorted-tail lt x xs sx) (sorted-tail lt y ys sy) rest in
    cc
