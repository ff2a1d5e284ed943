-- Edges cancel where the sorted edges are the sorted reversed edges.
use Rattle.std.proofs.Common.{◌≡◌, ℤ, List, map, refl, sym, ◌∙◌, ap, subst, arith}
use Rattle.std.specs.Cmp.{IsTotalOrder}
use Rattle.std.specs.declared.cmp.Ordering.{Ordering}
use Rattle.std.specs.declared.cmp.Ordering.TheVariants.{Less, Equal, Greater}
use Rattle.std.specs.Ordering.{int_cmp, ordering_then}
use Rattle.std.specs.List.Sorted.{IsPermutation, IsSortedByKey}
use Rattle.std.proofs.lemmas.Int.{ints}
use Rattle.std.proofs.lemmas.Cmp.{int_cmp_total, on_total, then_total}
use Rattle.std.proofs.lemmas.List.Sorted.{IsPermutation-sym, IsPermutation-trans}
use Rattle.siting_definitions.specs.Point.{Place}
use Rattle.edge_chain.specs.Chain.{Edge, reversed, Cancel}
use Rattle.edge_chain.specs.Order.{key, edge_cmp}
use Rattle.edge_chain.proofs.SortLemmas.{sorted_unique}
use Rattle.dyadic_square.proofs.Bag.{totals_from_permutation}

abbrev Key : Type 0
Key = ℤ × ℤ × ℤ × ℤ

edge_cmp_total : IsTotalOrder edge_cmp
edge_cmp_total =
    then_total (then_total (then_total (on_total (λ (k : Key). k.0) int_cmp_total) (on_total (λ (k : Key). k.1) int_cmp_total)) (on_total (λ (k : Key). k.2) int_cmp_total))
    (on_total (λ (k : Key). k.3) int_cmp_total)

then_parts : (r s : Ordering) → ordering_then r s ≡ Equal → (r ≡ Equal) × (s ≡ Equal)
then_parts Less s h = cc
then_parts Equal s h = (refl, h)
then_parts Greater s h = cc

int_tie : (a b : ℤ) → int_cmp a b ≡ Equal → a ≡ b
int_tie a b h = grind (arith, ints)

pub same_key : (x y : Edge) → edge_cmp (key x) (key y) ≡ Equal → x ≡ y
same_key x y h =
    let third = then_parts _ (int_cmp x.1.y y.1.y) h in
    let second = then_parts _ (int_cmp x.1.x y.1.x) third.0 in
    let first = then_parts (int_cmp x.0.x y.0.x) (int_cmp x.0.y y.0.y) second.0 in
    let a = int_tie x.0.x y.0.x first.0 in
    let b = int_tie x.0.y y.0.y first.1 in
    let c = int_tie x.1.x y.1.x second.1 in
    let d = int_tie x.1.y y.1.y third.1 in
    ap (λ z. edge_by z x.0.y x.1.x x.1.y) a ∙ ap (λ z. edge_by y.0.x z x.1.x x.1.y) b ∙ ap (λ z. edge_by y.0.x y.0.y z x.1.y) c ∙ ap (λ z. edge_by y.0.x y.0.y y.1.x z) d
  where
    place_by : ℤ → ℤ → Place
    place_by x y = record { x = x; y = y }

    edge_by : ℤ → ℤ → ℤ → ℤ → Edge
    edge_by a b c d = (place_by a b, place_by c d)

-- the two sorted lists are the same exactly where the edges cancel
pub cancel_by_sort : (es back xs ys : List Edge) → back ≡ map reversed es → IsPermutation es xs → IsPermutation back ys → IsSortedByKey key edge_cmp xs → IsSortedByKey key edge_cmp ys → (xs ≡ ys → Cancel es) × (Cancel es → xs ≡ ys)
cancel_by_sort es back xs ys is px py sx sy = (
  λ same. subst (λ zs. IsPermutation es zs) is (IsPermutation-trans es xs back px (subst (λ zs. IsPermutation zs back) (sym same) (IsPermutation-sym back ys py))),
  λ cancels. sorted_unique key edge_cmp edge_cmp_total same_key xs ys sx sy
      (totals_from_permutation xs ys (IsPermutation-trans xs es ys (IsPermutation-sym es xs px) (IsPermutation-trans es back ys (subst (λ zs. IsPermutation es zs) (sym is) cancels) py))),
)
