use Rattle.candidate_sites.proofs.OpeningLemmas.{opening_found, site-answer, cost-answer, permitted-answer, small-answer}
use Rattle.candidate_sites.proofs.cheapest.opening.Goals as goal

pub returns-clause-site : goal.returns-clause-site
returns-clause-site c =
    site-answer c.args.instance.now _ _ (opening_found c.args.instance.now _ _ _ _ _ c.permitted.ensures c.forbidden.ensures c.start_of-start.ensures c.cheapest_of_polygons-found.ensures c.cheapest_of_polygons.ensures)

pub returns-clause-cost : goal.returns-clause-cost
returns-clause-cost c =
    cost-answer c.args.instance.now _ _ (opening_found c.args.instance.now _ _ _ _ _ c.permitted.ensures c.forbidden.ensures c.start_of-start.ensures c.cheapest_of_polygons-found.ensures c.cheapest_of_polygons.ensures)

pub returns-clause-permitted : goal.returns-clause-permitted
returns-clause-permitted c =
    permitted-answer c.args.instance.now _ (opening_found c.args.instance.now _ _ _ _ _ c.permitted.ensures c.forbidden.ensures c.start_of-start.ensures c.cheapest_of_polygons-found.ensures c.cheapest_of_polygons.ensures)

pub returns-clause-small : goal.returns-clause-small
returns-clause-small c =
    small-answer c.args.instance.now _ c.points-points.ensures.limits (opening_found c.args.instance.now _ _ _ _ _ c.permitted.ensures c.forbidden.ensures c.start_of-start.ensures c.cheapest_of_polygons-found.ensures c.cheapest_of_polygons.ensures)
