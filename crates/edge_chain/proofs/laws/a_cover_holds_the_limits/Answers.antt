use Rattle.edge_chain.specs.Chain.{edges_of}
use Rattle.edge_chain.specs.Wanted.{IsWanted}
use Rattle.edge_chain.proofs.CoverLemmas.{covered_by}
use Rattle.edge_chain.proofs.LimitLemmas.{limit_held}
use Rattle.edge_chain.proofs.laws.a_cover_holds_the_limits.Goals as goal

pub returns : goal.returns
returns c =
    λ rings forbidden ts p cancel limit. limit_held ts (IsWanted (edges_of rings) (edges_of forbidden)) p (λ r at. covered_by rings ts r cancel at.inside) limit
