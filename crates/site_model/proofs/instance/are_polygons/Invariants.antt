use Rattle.std.proofs.Common.{take, All}
use Rattle.siting_definitions.specs.Instance.{IsPolygon}
use Rattle.site_model.proofs.instance.are_polygons.Given as goal

abbrev pub invariant-loop-polygon : goal.invariant-loop-polygon
invariant-loop-polygon l = All IsPolygon (take l.polygon-index l.polygons)
