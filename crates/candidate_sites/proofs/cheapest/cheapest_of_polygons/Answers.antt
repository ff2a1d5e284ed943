use Rattle.candidate_sites.proofs.OpeningLemmas.{polygon_more, polygon_all}
use Rattle.candidate_sites.proofs.cheapest.cheapest_of_polygons.Goals as goal

pub loop-polygon-preserved : goal.loop-polygon-preserved
loop-polygon-preserved c =
    polygon_more c.args.instance.now c.args.found c.loop-polygon.cheapest _ c.args.polygons.now c.loop-polygon.polygon-index c.polygon-item.result c.loop-polygon-test.true
    c.loop-polygon.invariant c.polygon-item.is c.cheapest_of_polygon-cheapest.ensures

pub returns : goal.returns
returns c =
    polygon_all c.args.instance.now c.args.found c.loop-polygon.cheapest c.args.polygons.now c.loop-polygon.polygon-index c.loop-polygon-test.false c.loop-polygon.invariant
