use Rattle.std.proofs.Common.{◌≡◌, take}
use Rattle.std.specs.List.{fold}
use Rattle.candidate_sites.specs.Start.{cheaper_start}
use Rattle.candidate_sites.proofs.start.cheapest_start.Given as goal

abbrev pub invariant-loop-polygon : goal.invariant-loop-polygon
invariant-loop-polygon l = l.cheapest ≡ fold (cheaper_start l.instance) l.fn.found (take l.polygon-index l.polygons)
