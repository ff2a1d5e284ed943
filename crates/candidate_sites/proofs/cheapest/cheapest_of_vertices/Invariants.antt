use Rattle.std.proofs.Common.{◌≡◌, take}
use Rattle.std.specs.List.{fold}
use Rattle.candidate_sites.specs.Cheaper.{cheaper_vertex}
use Rattle.candidate_sites.proofs.cheapest.cheapest_of_vertices.Given as goal

abbrev pub invariant-loop-i : goal.invariant-loop-i
invariant-loop-i l = l.cheapest ≡ fold (cheaper_vertex l.instance) l.fn.found (take l.i l.polygon)
