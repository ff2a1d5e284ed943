use Rattle.std.proofs.Common.{◌≡◌, ◌≤◌, ◌*◌, unsigned_abs}
use Rattle.convex_region.proofs.Edges.{area_to}
use Rattle.convex_region.proofs.build.doubled_area.Given as goal

abbrev pub invariant-loop-i : goal.invariant-loop-i
invariant-loop-i l = (l.area ≡ area_to l.vertices l.i) × (unsigned_abs l.area ≤ 2000000000000 * l.i)
