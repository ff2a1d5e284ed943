-- How the heap ranks entries.
use Rattle.std.specs.declared.cmp.Ordering.{Ordering}
use Rattle.std.specs.Ordering.{flip_args, int_cmp, on}
use Rattle.bound_heap.specs.declared.ranked.Ranked.{Ranked}

-- by the bound alone, the least highest
abbrev pub by_bound : Ranked → Ranked → Ordering
by_bound = flip_args (on (λ (r : Ranked). r.entry.bound) int_cmp)
