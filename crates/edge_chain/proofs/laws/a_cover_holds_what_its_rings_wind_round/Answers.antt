use Rattle.edge_chain.proofs.CoverLemmas.{covered_by}
use Rattle.edge_chain.proofs.laws.a_cover_holds_what_its_rings_wind_round.Goals as goal

pub returns : goal.returns
returns c = covered_by
