use Rattle.std.proofs.Common.{◌∙◌, rules, w64, FitsSigned}
use Rattle.std.proofs.lemmas.Int.{to_z-of_z}
use Rattle.candidate_sites.proofs.SkipLemmas.{bounded_vertices}
use Rattle.candidate_sites.proofs.cheapest.bound_of.Goals as goal

pub returns : goal.returns
returns c =
    let fits : FitsSigned w64 c.fine.result = search rules in
    bounded_vertices c.args.instance.now c.square_round.result _ c.args.polygon.now (to_z-of_z w64 c.fine.result fits ∙ c.fine.ensures.value) c.square_round.ensures.vertices
