use Rattle.std.proofs.Common.{refl}
use Rattle.port_io.proofs.PutLemmas.{PutOn-next_item, PutOn-next_item_stop}
use Rattle.instance_text.specs.Written.{point_text}
use Rattle.instance_text.proofs.write.write_points.Goals as goal

pub loop-point-preserved : goal.loop-point-preserved
loop-point-preserved g c =
    PutOn-next_item point_text c.args.points.now c.loop-point.point-index c.point-item.result c.point-item.is
    c.loop-point-test.true c.loop-point.invariant c.in_ok-write_point.ensures

pub returns-in_err-write_point : goal.returns-in_err-write_point
returns-in_err-write_point g c =
    PutOn-next_item_stop point_text c.args.points.now c.loop-point.point-index c.point-item.result c.point-item.is
    c.loop-point-test.true refl c.from_residual.ensures.0 c.loop-point.invariant c.in_err-write_point.ensures
