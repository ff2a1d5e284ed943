use Rattle.instance_text.proofs.Built.{polygon_of-built, polygon_of-dent}
use Rattle.instance_text.proofs.polygons.polygon_of.Goals as goal

pub returns-in-Ok : goal.returns-in-Ok
returns-in-Ok c = polygon_of-built _ _ c.in-Ok.ensures.0 c.in-Ok.ensures.1

pub returns-in-Err-NotConvex : goal.returns-in-Err-NotConvex
returns-in-Err-NotConvex c =
    let dent = rw c.in-Err-NotConvex.field-0-is at c.in-Err-NotConvex.ensures in
    polygon_of-dent _ _ _ dent.0 dent.1 dent.2
