use Rattle.std.proofs.lemmas.Bool.{and_from}
use Rattle.edge_chain.proofs.HalfPlaneLemmas.{held_with_corners}
use Rattle.edge_chain.proofs.laws.a_half_plane_holds_a_triangle_by_its_corners.Goals as goal

pub returns : goal.returns
returns c = λ h t p a b e turn held. held_with_corners h t p a b e (and_from _ _ turn held)
