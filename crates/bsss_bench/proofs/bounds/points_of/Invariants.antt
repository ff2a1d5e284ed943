use Rattle.std.proofs.Common.{◌≡◌, ◌≤◌, length}
use Rattle.std.specs.Prelude.{All, unsigned_abs}
use Rattle.siting_definitions.specs.Instance.{DemandPt}
use Rattle.bsss_bench.proofs.bounds.points_of.Given as goal

abbrev pub invariant-loop-row : goal.invariant-loop-row
invariant-loop-row l = record {
  count : length l.points.items ≡ l.row-index;
  small : All (λ (d : DemandPt). unsigned_abs d.w ≤ 3906) l.points.items;
}
