-- The order of edges by their coordinates.
use Rattle.std.specs.Prelude.{ℤ}
use Rattle.std.specs.declared.cmp.Ordering.{Ordering}
use Rattle.std.specs.Ordering.{int_cmp, ordering_then}
use Rattle.edge_chain.specs.Chain.{Edge}

-- the coordinates of an edge
abbrev pub key : Edge → ℤ × ℤ × ℤ × ℤ
key e = (e.0.x, e.0.y, e.1.x, e.1.y)

-- by the first coordinate in which they differ
abbrev pub edge_cmp : ℤ × ℤ × ℤ × ℤ → ℤ × ℤ × ℤ × ℤ → Ordering
edge_cmp a b =
    ordering_then
    (ordering_then (ordering_then (int_cmp a.0 b.0) (int_cmp a.1 b.1)) (int_cmp a.2 b.2))
    (int_cmp a.3 b.3)
