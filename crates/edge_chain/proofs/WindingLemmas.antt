-- Windings as counts: of chains taken together, reversed, reordered and cancelling.
use Rattle.std.proofs.Common.{◌≡◌, ℕ, ◌+◌, Bool, cond, List, ◌++◌, map, count_by, pos, ◌+ℤ◌, ◌-ℤ◌, neg_ℤ, refl, arith}
use Rattle.std.specs.List.{sum_by}
use Rattle.std.specs.List.Sorted.{IsPermutation}
use Rattle.std.proofs.lemmas.Int.{ints}
use Rattle.std.proofs.lemmas.List.Sums.{sum_by-append}
use Rattle.std.proofs.lemmas.List.Folds.{fold-map}
use Rattle.std.proofs.lemmas.List.Sorted.{sum_by-IsPermutation}
use Rattle.siting_definitions.specs.Point.{Point}
use Rattle.edge_chain.specs.Chain.{Edge, reversed, rises, winding, Cancel}

-- the sum over a list that was mapped
pub sum_by-map : {X Y : Type 0} (f : Y → ℕ) (h : X → Y) (xs : List X) → sum_by f (map h xs) ≡ sum_by (λ x. f (h x)) xs
sum_by-map f h xs = fold-map (λ (a : ℕ) y. a + f y) h 0 xs

-- 1 for true, 0 for false
abbrev pub once : Bool → ℕ
once b = cond b 1 0

-- how many edges rise past p, and how many fall
abbrev pub rising : List Edge → Point → ℕ
rising es p = count_by (λ (e : Edge). rises e p) es

abbrev pub falling : List Edge → Point → ℕ
falling es p = count_by (λ (e : Edge). rises (reversed e) p) es

pub winding_is : (es : List Edge) (p : Point) → winding es p ≡ pos (rising es p) -ℤ pos (falling es p)
unfolding winding
winding_is es p = refl

pub winding-append : (xs ys : List Edge) (p : Point) → winding (xs ++ ys) p ≡ winding xs p +ℤ winding ys p
winding-append xs ys p =
    let r = sum_by-append (λ (e : Edge). once (rises e p)) xs ys in
    let f = sum_by-append (λ (e : Edge). once (rises (reversed e) p)) xs ys in
    omega (arith, ints, winding_is (xs ++ ys) p, winding_is xs p, winding_is ys p, r, f)

pub winding-reversed : (es : List Edge) (p : Point) → winding (map reversed es) p ≡ neg_ℤ (winding es p)
winding-reversed es p =
    let r = sum_by-map (λ (e : Edge). once (rises e p)) reversed es in
    let f = sum_by-map (λ (e : Edge). once (rises (reversed e) p)) reversed es in
    omega (arith, ints, winding_is (map reversed es) p, winding_is es p, r, f)

pub winding-permutation : (xs ys : List Edge) (p : Point) → IsPermutation xs ys → winding ys p ≡ winding xs p
winding-permutation xs ys p h =
    let r = sum_by-IsPermutation (λ (e : Edge). once (rises e p)) xs ys h in
    let f = sum_by-IsPermutation (λ (e : Edge). once (rises (reversed e) p)) xs ys h in
    omega (arith, ints, winding_is ys p, winding_is xs p, r, f)

pub winding-cancel : (es : List Edge) (p : Point) → Cancel es → winding es p ≡ pos 0
winding-cancel es p h = omega (arith, ints, winding-reversed es p, winding-permutation es (map reversed es) p h)
