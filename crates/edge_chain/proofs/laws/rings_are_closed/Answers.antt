use Rattle.edge_chain.proofs.ClearLemmas.{rings_closed}
use Rattle.edge_chain.proofs.laws.rings_are_closed.Goals as goal

pub returns : goal.returns
returns c = rings_closed
