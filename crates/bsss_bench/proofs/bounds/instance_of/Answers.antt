use Rattle.std.proofs.Common.{◌*◌, ◌≤◌, length, arith}
use Rattle.std.specs.Prelude.{unsigned_abs}
use Rattle.std.proofs.lemmas.List.Sums.{sum_by-le}
use Rattle.siting_definitions.specs.Instance.{DemandPt, weight}
use Rattle.bsss_bench.proofs.bounds.instance_of.Goals as goal

pub build-requires-2-clause-weight : goal.build-requires-2-clause-weight
unfolding weight
build-requires-2-clause-weight c =
    let points = c.in_ok-points.points.items in
    let all = sum_by-le (λ (d : DemandPt). unsigned_abs d.w) 3906 points c.in_ok-points.ensures.small in
    let few : length points * 3906 ≤ 4096 * 3906 = omega (arith, c.in_ok-points.ensures.count) in
    omega (arith, all, few)
