use Rattle.edge_chain.proofs.ClearLemmas.{constant, Balanced-from_closed}
use Rattle.edge_chain.proofs.laws.a_winding_is_constant_inside_a_piece.Goals as goal

pub returns : goal.returns
returns c = λ vs es p q piece closed clear hp hq. constant vs es p q piece (Balanced-from_closed es closed) clear hp hq
