use Rattle.std.proofs.Common.{◌≡◌, ◌*◌, ◌≤◌, take, fold, None}
use Rattle.std.specs.Prelude.{unsigned_abs, sum_by}
use Rattle.siting_definitions.specs.Instance.{DemandPt}
use Rattle.dist_bounds.specs.Limits.{longest}
use Rattle.objectives.specs.Totals.{joined_at, size_of}
use Rattle.objectives.proofs.passes.totals_by.Given as goal

abbrev pub invariant-loop-point : goal.invariant-loop-point
invariant-loop-point g l = record {
  first : l.first ≡ fold (joined_at g.T.Total.joined (g.R.TwoRadii.first_of l.radii)) None (take l.point-index l.points);
  second : l.second ≡ fold (joined_at g.T.Total.joined (g.R.TwoRadii.second_of l.radii)) None (take l.point-index l.points);
  first_small : size_of l.first ≤ sum_by (λ (d : DemandPt). unsigned_abs d.w) (take l.point-index l.points) * g.R.TwoRadii.first_limit;
  second_small : size_of l.second ≤ sum_by (λ (d : DemandPt). unsigned_abs d.w) (take l.point-index l.points) * (65536 * longest);
}
