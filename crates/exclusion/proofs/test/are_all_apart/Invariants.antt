use Rattle.std.proofs.Common.{◌≡◌, drop}
use Rattle.std.specs.List.{list_all}
use Rattle.siting_definitions.specs.Excluded.{is_apart}
use Rattle.exclusion.proofs.test.are_all_apart.Given as goal

abbrev pub invariant-loop-polygon : goal.invariant-loop-polygon
invariant-loop-polygon l = list_all (λ vs. is_apart vs l.sq) (drop l.polygon-index l.polygons) ≡ list_all (λ vs. is_apart vs l.sq) l.polygons
