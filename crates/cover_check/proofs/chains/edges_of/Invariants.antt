use Rattle.std.proofs.Common.{◌≡◌, take}
use Rattle.edge_chain.specs.Chain.{edges_of}
use Rattle.cover_check.proofs.chains.edges_of.Given as goal

abbrev pub invariant-loop-ring : goal.invariant-loop-ring
invariant-loop-ring l = l.edges.items ≡ edges_of (take l.ring-index l.rings)
