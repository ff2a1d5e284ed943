use Rattle.edge_chain.proofs.ApartLemmas.{apart}
use Rattle.edge_chain.proofs.laws.a_point_apart_is_wound_round_by_nothing.Goals as goal

pub returns : goal.returns
returns c = apart
