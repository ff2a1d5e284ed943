use Rattle.edge_chain.proofs.ClearLemmas.{none_inside}
use Rattle.edge_chain.proofs.laws.an_unwanted_piece_holds_no_wanted_point.Goals as goal

pub returns : goal.returns
returns c = none_inside
