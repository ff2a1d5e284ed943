use Rattle.std.proofs.Common.{◌≡◌, ◌*◌, ◌≤◌, take, fold, None}
use Rattle.std.specs.Prelude.{unsigned_abs, sum_by}
use Rattle.siting_definitions.specs.Instance.{DemandPt}
use Rattle.objectives.specs.Totals.{joined_at, size_of}
use Rattle.objectives.proofs.passes.total_by.Given as goal

abbrev pub invariant-loop-point : goal.invariant-loop-point
invariant-loop-point g l = record {
  joined : l.so_far ≡ fold (joined_at g.T.Total.joined (g.R.Radii.radius_of l.radii)) None (take l.point-index l.points);
  small : size_of l.so_far ≤ sum_by (λ (d : DemandPt). unsigned_abs d.w) (take l.point-index l.points) * g.R.Radii.limit;
}
