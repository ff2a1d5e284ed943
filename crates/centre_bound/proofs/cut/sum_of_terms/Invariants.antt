use Rattle.std.proofs.Common.{◌≡◌, pos, take}
use Rattle.std.specs.Prelude.{unsigned_abs, sum_by}
use Rattle.siting_definitions.specs.Instance.{DemandPt}
use Rattle.centre_bound.specs.Terms.{sum_over, term_at, slope_of}
use Rattle.centre_bound.specs.Sizes.{IsSmall}
use Rattle.centre_bound.proofs.cut.sum_of_terms.Given as goal

abbrev pub invariant-loop-point : goal.invariant-loop-point
invariant-loop-point l = record {
  at_centre : l.sum.at_centre ≡ sum_over (term_at l.square l.centre) (take l.point-index l.points);
  right : l.sum.right ≡ sum_over (λ d. (slope_of l.square d).x) (take l.point-index l.points);
  upper : l.sum.upper ≡ sum_over (λ d. (slope_of l.square d).y) (take l.point-index l.points);
  small : IsSmall l.sum (pos (sum_by (λ (d : DemandPt). unsigned_abs d.w) (take l.point-index l.points)));
}
