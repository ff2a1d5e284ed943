use Rattle.std.proofs.Common.{◌≡◌, take}
use Rattle.std.specs.List.{fold}
use Rattle.siting_definitions.specs.Sites.{vertices}
use Rattle.candidate_sites.specs.Cheaper.{cheaper_vertex}
use Rattle.candidate_sites.proofs.cheapest.cheapest_of_polygons.Given as goal

abbrev pub invariant-loop-polygon : goal.invariant-loop-polygon
invariant-loop-polygon l = l.cheapest ≡ fold (cheaper_vertex l.instance) l.fn.found (vertices (take l.polygon-index l.polygons))
