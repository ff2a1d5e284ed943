use Rattle.std.proofs.Common.{◌∙◌, sym, rules}
use mir.Syntax.{w128}
use Rattle.std.proofs.lemmas.Int.{to_z-of_z}
use Rattle.objectives.proofs.Sizes.{weights_small}
use Rattle.objectives.proofs.JoinedTerms.{sum_total, greatest_total}
use Rattle.objectives.proofs.passes.total_of.Goals as goal

pub total_by-requires : goal.total_by-requires
total_by-requires g c =
    weights_small c.args.instance.now c.points.result.now c.points.ensures.limits c.points.ensures.value

pub total_by-requires-in-Max : goal.total_by-requires-in-Max
total_by-requires-in-Max g c =
    weights_small c.args.instance.now c.points-in-Max.result.now c.points-in-Max.ensures.limits c.points-in-Max.ensures.value

pub returns-in-Sum-clause-value : goal.returns-in-Sum-clause-value
returns-in-Sum-clause-value g c =
    to_z-of_z w128 c.total_by.result (search rules)
    ∙ sum_total c.args.instance.now (g.R.Radii.radius_of c.args.radii.now) c.points.result.now c.total_by.result (sym c.in-Sum.is ∙ c.kind.ensures) c.points.ensures.value c.total_by.ensures.value

pub returns-in-Max-clause-value : goal.returns-in-Max-clause-value
returns-in-Max-clause-value g c =
    to_z-of_z w128 c.total_by-in-Max.result (search rules)
    ∙ greatest_total c.args.instance.now (g.R.Radii.radius_of c.args.radii.now) c.points-in-Max.result.now c.total_by-in-Max.result (sym c.in-Max.is ∙ c.kind.ensures) c.points-in-Max.ensures.value c.total_by-in-Max.ensures.value
