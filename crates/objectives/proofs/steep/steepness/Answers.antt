use Rattle.std.proofs.Common.{◌≡◌, sym, ◌∙◌, arith}
use borrow.Author.Differences.{ints}
use Rattle.siting_definitions.specs.Instance.{weight}
use Rattle.objectives.proofs.SteepnessLemmas.{steepness-small, steepness-sum, steepness-max}
use Rattle.objectives.proofs.steep.steepness.Goals as goal

pub returns-in-Sum-clause-value : goal.returns-in-Sum-clause-value
returns-in-Sum-clause-value c =
    let size : c.unsigned_abs.result ≡ weight c.args.instance.now.points = omega (arith, ints, c.weight.ensures, c.unsigned_abs.ensures.value) in
    steepness-sum c.args.instance.now c.unsigned_abs.result (sym c.in-Sum.is ∙ c.kind.ensures) size

pub returns-in-Sum-clause-size : goal.returns-in-Sum-clause-size
returns-in-Sum-clause-size c = rw (returns-in-Sum-clause-value c) (steepness-small c.args.instance.now c.points-points.ensures.limits)

pub returns-in-Max-clause-value : goal.returns-in-Max-clause-value
returns-in-Max-clause-value c =
    steepness-max c.args.instance.now c.points-points.result.now c.heaviest.result (sym c.in-Max.is ∙ c.kind.ensures) c.points-points.ensures.value c.heaviest.ensures

pub returns-in-Max-clause-size : goal.returns-in-Max-clause-size
returns-in-Max-clause-size c = rw (returns-in-Max-clause-value c) (steepness-small c.args.instance.now c.points-points.ensures.limits)
