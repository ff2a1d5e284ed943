use Rattle.std.proofs.Common.{◌≡◌, ◌+◌, ◌≤◌, pos, w64, ap, ◌∙◌, subst, arith, rules}
use Rattle.std.proofs.lemmas.Int.{to_z_pos, ints}
use Rattle.std.proofs.lemmas.List.Elements.{All-more}
use Rattle.siting_definitions.specs.Instance.{IsDemandPt}
use Rattle.site_model.proofs.Weights.{w_of, weight_to, weight_to-more, weight_to-le, weight_to-all}
use Rattle.site_model.proofs.demand.weight_of.Goals as goal

sum_is : (c : goal.After-unsigned_abs-sum) → c.loop-point.sum + c.unsigned_abs-sum.result ≡ weight_to c.args.points.now (c.loop-point.point-index + 1)
sum_is c =
    weight_to-more c.args.points.now c.loop-point.point-index c.point-item.result c.loop-point.sum c.unsigned_abs-sum.result c.point.inside.w
    c.loop-point-test.true c.point-item.is c.loop-point.invariant.0 c.unsigned_abs-sum.ensures.value (search rules) (ap w_of c.point.view_is)

pub overflow_add-sum : goal.overflow_add-sum
overflow_add-sum c =
    let within : c.loop-point.sum + c.unsigned_abs-sum.result ≤ 16000000 = omega (arith, sum_is c, weight_to-le c.args.points.now (c.loop-point.point-index + 1)) in
    search rules

pub loop-point-preserved : goal.loop-point-preserved
loop-point-preserved c = (
  sum_is c,
  All-more IsDemandPt c.args.points.now c.loop-point.point-index c.point-item.result c.loop-point-test.true c.loop-point.invariant.1
      (subst IsDemandPt (c.point.view_is ∙ c.point-item.is) c.point.invariant),
)

pub overflow_cast-result : goal.overflow_cast-result
overflow_cast-result c =
    let within : c.loop-point.sum ≤ 16000000 = omega (arith, c.loop-point.invariant.0, weight_to-le c.args.points.now c.loop-point.point-index) in
    omega (arith, ints)

pub returns-clause-value : goal.returns-clause-value
returns-clause-value c =
    let whole = weight_to-all c.args.points.now c.loop-point.point-index c.loop-point-test.false in
    to_z_pos w64 c.loop-point.sum (omega (arith, c.loop-point.invariant.0, weight_to-le c.args.points.now c.loop-point.point-index))
    ∙ ap pos (c.loop-point.invariant.0 ∙ whole)
