use Rattle.std.proofs.lemmas.Bool.{and_from}
use Rattle.edge_chain.proofs.CornerLemmas.{covers_with_corners}
use Rattle.edge_chain.proofs.laws.a_polygon_covers_a_triangle_by_its_corners.Goals as goal

pub returns : goal.returns
returns c = λ vs t p a b c turn held. covers_with_corners vs t p a b c (and_from _ _ turn held)
