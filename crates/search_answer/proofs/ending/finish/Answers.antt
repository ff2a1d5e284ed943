use Rattle.std.proofs.Common.{◌≤◌, Option, map, ap, ◌∙◌, subst, sym, arith}
use Rattle.siting_definitions.specs.Marks.{Tally, tally_of}
use Rattle.discard_log.specs.Nodes.{mark_of}
use Rattle.pool_core.specs.declared.stop.Stop.{Stop}
use Rattle.search_answer.specs.Ending.{ending_word, open_for, finished_node, head_by}
use Rattle.search_answer.proofs.ListedLemmas.{listed_few, open_few, leases_few}
use Rattle.search_answer.proofs.EndingLemmas.{IsMade, finishes, works}
use Rattle.search_answer.proofs.KnownBounds.{all_known, made_of, unbounded}
use Rattle.search_answer.proofs.ending.finish.Goals as goal

pub finish_marks-tally-requires : goal.finish_marks-tally-requires
finish_marks-tally-requires c = record {
  few = listed_few c.args.job c.args.closed.pool c.args.closed.best c.into_bounded_nodes-nodes.result c.requires c.into_bounded_nodes-nodes.ensures.nodes;
  known = all_known c.args.job c.args.closed.pool c.args.closed.best c.into_bounded_nodes-nodes.result c.requires c.into_bounded_nodes-nodes.ensures.nodes;
}

pub head_of-head-requires : goal.head_of-head-requires
head_of-head-requires c =
    let s = c.args.closed.pool in
    record {
      leases = omega (arith, c.leases-leases.ensures, leases_few c.args.job s c.args.closed.best c.requires);
      open_count = subst (λ (stop : Option Stop). open_for (ending_word c.finish_marks-tally.result stop) stop ≤ 1000000) (sym c.stop-stop.ensures)
          (open_few c.args.job s c.args.closed.best (ending_word c.finish_marks-tally.result s.stop) c.requires);
    }

made : (c : goal.After-head_of-head) → IsMade c.args.job c.args.closed.pool c.args.closed.best (unbounded c.args.closed.pool c.into_bounded_nodes-nodes.result c.into_bounded_nodes-nodes.ensures.nodes).of c.head_of-head.result c.finish_marks-tally.new.nodes
made c =
    let j = c.args.job in
    let best = c.args.closed.best in
    let t = tally_of (map mark_of c.finish_marks-tally.new.nodes) in
    made_of j c.args.closed.pool best c.into_bounded_nodes-nodes.result c.head_of-head.result c.finish_marks-tally.new.nodes c.requires
    (unbounded c.args.closed.pool c.into_bounded_nodes-nodes.result c.into_bounded_nodes-nodes.ensures.nodes) c.into_bounded_nodes-nodes.ensures.preorder
    (c.finish_marks-tally.ensures.nodes ∙ ap (λ u. map (finished_node j u) c.into_bounded_nodes-nodes.result) c.cost_in.ensures)
    (c.head_of-head.ensures.value
    ∙ ap (λ (k : Tally). head_by j best k c.stop-stop.result c.leases-leases.result) c.finish_marks-tally.ensures.tally
    ∙ ap (λ (stop : Option Stop). head_by j best t stop c.leases-leases.result) c.stop-stop.ensures
    ∙ ap (head_by j best t c.args.closed.pool.stop) c.leases-leases.ensures)

pub returns-clause-answer : goal.returns-clause-answer
returns-clause-answer c =
    finishes c.args.job c.args.closed.pool c.args.closed.best (unbounded c.args.closed.pool c.into_bounded_nodes-nodes.result c.into_bounded_nodes-nodes.ensures.nodes).of c.head_of-head.result c.finish_marks-tally.new.nodes (made c) c.head_of-head.ensures.range c.finish_marks-tally.ensures.ranges

pub returns-clause-worked : goal.returns-clause-worked
returns-clause-worked c =
    works c.args.job c.args.closed.pool c.args.closed.best (unbounded c.args.closed.pool c.into_bounded_nodes-nodes.result c.into_bounded_nodes-nodes.ensures.nodes).of c.head_of-head.result c.finish_marks-tally.new.nodes (made c)
