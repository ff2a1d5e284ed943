use Rattle.edge_chain.proofs.PieceLemmas.{inner_point_inside}
use Rattle.edge_chain.proofs.laws.an_inner_point_lies_inside.Goals as goal

pub returns : goal.returns
returns c = inner_point_inside
