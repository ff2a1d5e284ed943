use Rattle.std.proofs.Common.{◌∙◌, sym}
use Rattle.objectives.proofs.Sizes.{weights_small}
use Rattle.objectives.proofs.JoinedTerms.{sum_total, greatest_total}
use Rattle.objectives.proofs.passes.totals_of.Goals as goal

pub totals_by-requires : goal.totals_by-requires
totals_by-requires g c =
    weights_small c.args.instance.now c.points.result.now c.points.ensures.limits c.points.ensures.value

pub totals_by-requires-in-Max : goal.totals_by-requires-in-Max
totals_by-requires-in-Max g c =
    weights_small c.args.instance.now c.points-in-Max.result.now c.points-in-Max.ensures.limits c.points-in-Max.ensures.value

pub returns-in-Sum-clause-first : goal.returns-in-Sum-clause-first
returns-in-Sum-clause-first g c =
    sum_total c.args.instance.now (g.R.TwoRadii.first_of c.args.radii.now) c.points.result.now c.totals_by.result.0 (sym c.in-Sum.is ∙ c.kind.ensures) c.points.ensures.value c.totals_by.ensures.first

pub returns-in-Sum-clause-second : goal.returns-in-Sum-clause-second
returns-in-Sum-clause-second g c =
    sum_total c.args.instance.now (g.R.TwoRadii.second_of c.args.radii.now) c.points.result.now c.totals_by.result.1 (sym c.in-Sum.is ∙ c.kind.ensures) c.points.ensures.value c.totals_by.ensures.second

pub returns-in-Max-clause-first : goal.returns-in-Max-clause-first
returns-in-Max-clause-first g c =
    greatest_total c.args.instance.now (g.R.TwoRadii.first_of c.args.radii.now) c.points-in-Max.result.now c.totals_by-in-Max.result.0 (sym c.in-Max.is ∙ c.kind.ensures) c.points-in-Max.ensures.value c.totals_by-in-Max.ensures.first

pub returns-in-Max-clause-second : goal.returns-in-Max-clause-second
returns-in-Max-clause-second g c =
    greatest_total c.args.instance.now (g.R.TwoRadii.second_of c.args.radii.now) c.points-in-Max.result.now c.totals_by-in-Max.result.1 (sym c.in-Max.is ∙ c.kind.ensures) c.points-in-Max.ensures.value c.totals_by-in-Max.ensures.second
