use Rattle.std.proofs.Common.{◌∙◌, ap, arith}
use Rattle.siting_definitions.specs.Marks.{Tally}
use Rattle.resume_job.proofs.ReopenLemmas.{splits_counted, open_counted, splits_fit, open_fits}
use Rattle.resume_job.proofs.reopening.counts_of.Goals as goal

pub returns-clause-splits : goal.returns-clause-splits
returns-clause-splits c =
    ap (λ (t : Tally). t.splits) c.tally.view_is ∙ splits_counted c.tally_nodes-tally.result c.args.nodes.now c.tally_nodes-tally.ensures

pub returns-clause-open : goal.returns-clause-open
returns-clause-open c =
    ap (λ (t : Tally). t.open_leaves) c.tally.view_is ∙ open_counted c.tally_nodes-tally.result c.args.nodes.now c.tally_nodes-tally.ensures

pub overflow_cast-result : goal.overflow_cast-result
overflow_cast-result c =
    let splits = ap (λ (t : Tally). t.splits) c.tally.view_is ∙ splits_counted c.tally_nodes-tally.result c.args.nodes.now c.tally_nodes-tally.ensures in
    omega (arith, splits, splits_fit c.args.nodes.now c.requires)

pub overflow_cast-result-2 : goal.overflow_cast-result-2
overflow_cast-result-2 c =
    let open_ = ap (λ (t : Tally). t.open_leaves) c.tally.view_is ∙ open_counted c.tally_nodes-tally.result c.args.nodes.now c.tally_nodes-tally.ensures in
    omega (arith, open_, open_fits c.args.nodes.now c.requires)
