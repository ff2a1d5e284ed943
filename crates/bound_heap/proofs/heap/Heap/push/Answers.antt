use Rattle.std.proofs.lemmas.List.Sorted.{IsPermutation-map}
use Rattle.bound_heap.specs.declared.ranked.Ranked.{Ranked}
use Rattle.bound_heap.proofs.heap.Heap.push.Goals as goal

pub returns-clause-entries : goal.returns-clause-entries
returns-clause-entries c = rw (← c.self.view_is) (IsPermutation-map (λ (r : Ranked). r.entry) _ _ c.in-Ok.ensures.permutation)
