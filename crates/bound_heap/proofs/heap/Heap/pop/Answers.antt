use Rattle.std.proofs.lemmas.List.Sorted.{IsPermutation-map}
use Rattle.bound_heap.specs.declared.ranked.Ranked.{Ranked}
use Rattle.bound_heap.proofs.Least.{least}
use Rattle.bound_heap.proofs.heap.Heap.pop.Goals as goal

pub returns-clause-entries : goal.returns-clause-entries
returns-clause-entries c = rw (← c.self.view_is) (IsPermutation-map (λ (r : Ranked). r.entry) _ _ c.in_ok-top.ensures.permutation)

pub returns-clause-least : goal.returns-clause-least
returns-clause-least c = rw (← c.self.view_is) (least c.in_ok-top.top _ (c.in_ok-top.ensures.heap_order c.self.invariant.0).1)
