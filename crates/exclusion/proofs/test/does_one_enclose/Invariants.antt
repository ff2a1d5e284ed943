use Rattle.std.proofs.Common.{◌≡◌, drop}
use Rattle.std.specs.List.{list_any}
use Rattle.siting_definitions.specs.Excluded.{encloses}
use Rattle.exclusion.proofs.test.does_one_enclose.Given as goal

abbrev pub invariant-loop-polygon : goal.invariant-loop-polygon
invariant-loop-polygon l = list_any (λ vs. encloses vs l.sq) (drop l.polygon-index l.polygons) ≡ list_any (λ vs. encloses vs l.sq) l.polygons
