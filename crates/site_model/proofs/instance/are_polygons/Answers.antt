use Rattle.std.proofs.Common.{All, subst, take_all}
use Rattle.std.proofs.lemmas.List.Elements.{All-more}
use Rattle.siting_definitions.specs.Instance.{IsPolygon}
use Rattle.site_model.proofs.instance.are_polygons.Goals as goal

pub loop-polygon-preserved : goal.loop-polygon-preserved
loop-polygon-preserved c =
    All-more IsPolygon c.args.polygons.now c.loop-polygon.polygon-index c.polygon-item.result c.loop-polygon-test.true c.loop-polygon.invariant
    (subst IsPolygon c.polygon-item.is c.len-count.ensures.polygon)

pub returns : goal.returns
returns c =
    subst (λ vss. All IsPolygon vss) (take_all c.loop-polygon.polygon-index c.args.polygons.now c.loop-polygon-test.false) c.loop-polygon.invariant
