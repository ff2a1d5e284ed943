use Rattle.std.proofs.Common.{refl}
use Rattle.port_io.proofs.PutLemmas.{PutOn-next_item, PutOn-next_item_stop}
use Rattle.instance_text.specs.Written.{polygon_text}
use Rattle.instance_text.proofs.write.write_polygons.Goals as goal

pub loop-polygon-preserved : goal.loop-polygon-preserved
loop-polygon-preserved g c =
    PutOn-next_item (polygon_text c.args.word.now) c.args.polygons.now c.loop-polygon.polygon-index c.polygon-item.result c.polygon-item.is
    c.loop-polygon-test.true c.loop-polygon.invariant c.in_ok-write_polygon.ensures

pub returns-in_err-write_polygon : goal.returns-in_err-write_polygon
returns-in_err-write_polygon g c =
    PutOn-next_item_stop (polygon_text c.args.word.now) c.args.polygons.now c.loop-polygon.polygon-index c.polygon-item.result c.polygon-item.is
    c.loop-polygon-test.true refl c.from_residual.ensures.0 c.loop-polygon.invariant c.in_err-write_polygon.ensures
