use Rattle.edge_chain.proofs.WindingLemmas.{winding-append}
use Rattle.edge_chain.proofs.laws.windings_add_up.Goals as goal

pub returns : goal.returns
returns c = winding-append
