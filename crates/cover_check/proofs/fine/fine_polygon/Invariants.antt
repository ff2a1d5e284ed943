use Rattle.std.proofs.Common.{◌≡◌, map, take}
use Rattle.cover_check.specs.Cover.{fine}
use Rattle.cover_check.proofs.fine.fine_polygon.Given as goal

abbrev pub invariant-loop-i : goal.invariant-loop-i
invariant-loop-i l = l.vertices.items ≡ map (fine l.shift) (take l.i l.polygon)
