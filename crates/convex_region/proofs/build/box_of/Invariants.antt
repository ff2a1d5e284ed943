use Rattle.std.proofs.Common.{take}
use Rattle.convex_region.proofs.Boxes.{IsBox}
use Rattle.convex_region.proofs.build.box_of.Given as goal

abbrev pub invariant-loop-v : goal.invariant-loop-v
invariant-loop-v l = IsBox l.initial.x0 l.initial.y0 (take l.v-index l.v-items) l.x0 l.y0 l.x1 l.y1
