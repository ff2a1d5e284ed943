use Rattle.std.proofs.Common.{ap, ◌∙◌, ◌++◌}
use Rattle.std.specs.List.{fold}
use Rattle.siting_definitions.specs.Sites.{vertices}
use Rattle.candidate_sites.specs.Cheaper.{cheaper_vertex}
use Rattle.candidate_sites.proofs.StartLemmas.{found_from, tried_all, priced_small}
use Rattle.candidate_sites.proofs.start.start_of.Goals as goal

pub one_dearer-requires : goal.one_dearer-requires
one_dearer-requires c =
    priced_small c.args.instance.now c.cheapest_start.result c.points-points.ensures.limits
    (tried_all c.args.instance.now _ _ _ c.cheapest_start.result c.permitted.ensures c.forbidden.ensures c.cheapest_start-first.ensures c.cheapest_start.ensures)

pub returns : goal.returns
returns c =
    let i = c.args.instance.now in
    ap (λ f. fold (cheaper_vertex i) f (vertices i.permitted ++ vertices i.forbidden)) c.one_dearer.ensures
    ∙ found_from i (vertices i.permitted ++ vertices i.forbidden) c.cheapest_start.result
    (tried_all i _ _ _ c.cheapest_start.result c.permitted.ensures c.forbidden.ensures c.cheapest_start-first.ensures c.cheapest_start.ensures)
