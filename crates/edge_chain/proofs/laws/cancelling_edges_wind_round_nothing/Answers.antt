use Rattle.edge_chain.proofs.WindingLemmas.{winding-cancel}
use Rattle.edge_chain.proofs.laws.cancelling_edges_wind_round_nothing.Goals as goal

pub returns : goal.returns
returns c = winding-cancel
