use Rattle.std.proofs.Common.{◌≡◌, ◌++◌, map, take}
use Rattle.edge_chain.specs.Chain.{reversed}
use Rattle.cover_check.proofs.chains.push_reversed.Given as goal

abbrev pub invariant-loop-e : goal.invariant-loop-e
invariant-loop-e l = l.edges.items ≡ l.initial.edges.items ++ map reversed (take l.e-index l.others)
