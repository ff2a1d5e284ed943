use Rattle.edge_chain.proofs.WindingLemmas.{winding-reversed}
use Rattle.edge_chain.proofs.laws.reversed_edges_wind_back.Goals as goal

pub returns : goal.returns
returns c = winding-reversed
