use Rattle.candidate_sites.proofs.StartLemmas.{start_more, start_all}
use Rattle.candidate_sites.proofs.start.cheapest_start.Goals as goal

pub loop-polygon-preserved : goal.loop-polygon-preserved
loop-polygon-preserved c =
    start_more c.args.instance.now c.args.found c.loop-polygon.cheapest _ c.args.polygons.now c.loop-polygon.polygon-index c.polygon-item.result c.loop-polygon-test.true
    c.loop-polygon.invariant c.polygon-item.is c.cheaper_start-cheapest.ensures

pub returns : goal.returns
returns c =
    start_all c.args.instance.now c.args.found c.loop-polygon.cheapest c.args.polygons.now c.loop-polygon.polygon-index c.loop-polygon-test.false c.loop-polygon.invariant
