use Rattle.std.proofs.Common.{◌≡◌, get_or, ap, ◌∙◌, sym, subst}
use Rattle.search_answer.specs.Ending.{IsKnownNode}
use Rattle.search_answer.proofs.Remarking.{remarked_leaf}
use Rattle.search_answer.proofs.ending.finish_node.Goals as goal

pub finished_mark-mark-requires : goal.finished_mark-mark-requires
finished_mark-mark-requires c =
    let n = c.index-nodes-i.result in
    let at : n ≡ get_or c.args.nodes.now c.args.i n = c.index-nodes-i.is ∙ ap (λ ns. get_or ns c.args.i n) c.nodes.ensures in
    subst (IsKnownNode c.args.job.now.instance) (sym at) (c.requires.known n)

pub returns-clause-nodes : goal.returns-clause-nodes
returns-clause-nodes c d =
    let n = c.index-nodes-i.result in
    let at : n ≡ get_or c.args.nodes.now c.args.i n = c.index-nodes-i.is ∙ ap (λ ns. get_or ns c.args.i n) c.nodes.ensures in
    c.remark.ensures
    ∙ remarked_leaf c.args.job.now c.args.least c.args.nodes.now c.args.i n c.finished_mark-mark.result d c.requires.index at c.finished_mark-mark.ensures.value
