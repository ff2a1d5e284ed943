use Rattle.std.proofs.Common.{◌≡◌, take}
use Rattle.cover_check.specs.Verdict.{fine_polygons}
use Rattle.cover_check.proofs.fine.fine_rings.Given as goal

abbrev pub invariant-loop-polygon : goal.invariant-loop-polygon
invariant-loop-polygon l = l.rings.items ≡ fine_polygons l.shift (take l.polygon-index l.polygons)
