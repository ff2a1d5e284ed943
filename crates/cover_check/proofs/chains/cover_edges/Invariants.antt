use Rattle.std.proofs.Common.{◌≡◌, map, take}
use Rattle.edge_chain.specs.Triangle.{triangle_edges}
use Rattle.cover_check.specs.Cover.{Owned}
use Rattle.cover_check.proofs.chains.cover_edges.Given as goal

abbrev pub invariant-loop-owned : goal.invariant-loop-owned
invariant-loop-owned l = l.edges.items ≡ triangle_edges (map (λ (o : Owned). o.triangle) (take l.owned-index l.triangles))
