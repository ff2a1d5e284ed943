-- What the heap hands out first has the least bound.
use Rattle.std.proofs.Common.{◌≡◌, ℤ, ◌≤ℤ◌, false, List, [], ◌∷◌, map, All, arith}
use borrow.Author.Differences.{ints}
use Rattle.std.specs.Ordering.{int_cmp, is_lt}
use Rattle.std.specs.BinaryHeap.{IsUpperBound}
use Rattle.std.proofs.lemmas.List.Elements.{All-nil, All-cons}
use Rattle.bound_heap.specs.declared.entry.Entry.{Entry}
use Rattle.bound_heap.specs.declared.ranked.Ranked.{Ranked}
use Rattle.bound_heap.specs.Ranks.{by_bound}

at_most : (a b : ℤ) → is_lt (int_cmp b a) ≡ false → a ≤ℤ b
at_most a b h = grind (arith, ints)

-- the highest in rank has the least bound
pub least : (r : Ranked) (rs : List Ranked) → IsUpperBound by_bound r rs → All (λ (other : Entry). r.entry.bound ≤ℤ other.bound) (map (λ (q : Ranked). q.entry) rs)
least r [] h = All-nil (λ (other : Entry). r.entry.bound ≤ℤ other.bound)
least r (q ∷ rs) h =
    All-cons (λ (other : Entry). r.entry.bound ≤ℤ other.bound) q.entry (map (λ (p : Ranked). p.entry) rs)
    (at_most r.entry.bound q.entry.bound h.0) (least r rs h.1)
