use Rattle.std.proofs.Common.{◌≡◌, take, All}
use Rattle.siting_definitions.specs.Instance.{IsPolygon}
use Rattle.siting_definitions.specs.Excluded.{box_of}
use Rattle.siting_definitions.specs.Sites.{vertices}
use Rattle.site_model.proofs.root.box_of_all.Given as goal

abbrev pub invariant-loop-i : goal.invariant-loop-i
invariant-loop-i l = (l.bounds ≡ box_of (vertices (take l.i l.polygons))) × All IsPolygon (take l.i l.polygons)
