use Rattle.std.proofs.Common.{FitsSigned, w64, rules, sym, ap, ◌∙◌}
use Rattle.std.proofs.lemmas.Int.{to_z-of_z}
use Rattle.siting_definitions.specs.Square.{Square}
use Rattle.pool_core.specs.Job.{Job}
use Rattle.search_answer.proofs.KnownBounds.{remade, remade_by, remade_finished}
use Rattle.search_answer.proofs.ending.finished_mark.Goals as goal

pub returns-in-Shut-clause-value : goal.returns-in-Shut-clause-value
returns-in-Shut-clause-value c =
    let made = remade c.args.job.now c.args.least c.args.square in
    c.in-Shut.is ∙ sym (ap made c.in-Shut.is) ∙ remade_finished c.args.job.now c.args.least c.args.square c.args.mark c.requires

pub returns-in-Bounded-clause-value : goal.returns-in-Bounded-clause-value
returns-in-Bounded-clause-value c =
    let bound_fits : FitsSigned w64 c.in-Bounded.bound = search rules in
    let gap_fits : FitsSigned w64 c.job.inside.gap = search rules in
    let bound = to_z-of_z w64 c.in-Bounded.bound bound_fits in
    let gap = to_z-of_z w64 c.job.inside.gap gap_fits in
    remade_by c.args.job.now c.args.least c.args.square c.args.mark c.in-Bounded.bound c.job.inside.gap c.square.inside.level c.mark_by_bound.result c.requires
    (ap (remade c.args.job.now c.args.least c.args.square) c.in-Bounded.is) (ap (λ (j : Job). j.gap) c.job.view_is) (ap (λ (s : Square). s.level) c.square.view_is)
    (rw (bound, gap) at c.mark_by_bound.ensures.value)

pub returns-in-Floor-clause-value : goal.returns-in-Floor-clause-value
returns-in-Floor-clause-value c =
    let bound_fits : FitsSigned w64 c.in-Floor.bound = search rules in
    let gap_fits : FitsSigned w64 c.job.inside.gap = search rules in
    let bound = to_z-of_z w64 c.in-Floor.bound bound_fits in
    let gap = to_z-of_z w64 c.job.inside.gap gap_fits in
    remade_by c.args.job.now c.args.least c.args.square c.args.mark c.in-Floor.bound c.job.inside.gap c.square-in-Floor.inside.level c.mark_by_bound-in-Floor.result c.requires
    (ap (remade c.args.job.now c.args.least c.args.square) c.in-Floor.is) (ap (λ (j : Job). j.gap) c.job.view_is) (ap (λ (s : Square). s.level) c.square-in-Floor.view_is)
    (rw (bound, gap) at c.mark_by_bound-in-Floor.ensures.value)
