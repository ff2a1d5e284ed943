-- What contracts see of a heap: its entries, in an order that is free, and for how many more there
-- is room.
use Rattle.std.specs.Prelude.{ℕ, List}
use Rattle.bound_heap.specs.declared.entry.Entry.{Entry}

-- the entries, and the room for more
pub record HeapView : Type 0 where
  pub entries : List Entry
  pub spare : ℕ
