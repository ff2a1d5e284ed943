use Rattle.std.proofs.Common.{◌≡◌, ◌≤◌, List, Option, map, length, ap, ◌∙◌, subst, sym, arith}
use Rattle.std.proofs.lemmas.List.{length-map}
use Rattle.std.specs.Prelude.{All}
use Rattle.siting_definitions.specs.Answer.{IsMark}
use Rattle.siting_definitions.specs.Marks.{Tally, tally_of}
use Rattle.discard_log.specs.declared.node.Node.{Node}
use Rattle.discard_log.specs.Nodes.{mark_of}
use Rattle.pool_core.specs.declared.stop.Stop.{Stop}
use Rattle.search_answer.specs.Ending.{ending_word, open_for, finished_node, head_by}
use Rattle.search_answer.proofs.ListedLemmas.{listed_few, open_few, leases_few}
use Rattle.search_answer.proofs.EndingLemmas.{IsMade, finishes, works}
use Rattle.search_answer.proofs.KnownBounds.{all_known, made_of, unbounded}
use Rattle.search_answer.proofs.by_workers.finish_by_workers.Given as given
use Rattle.search_answer.proofs.by_workers.finish_by_workers.Goals as goal

pub mark_nodes-nodes-requires-clause-known : goal.mark_nodes-nodes-requires-clause-known
mark_nodes-nodes-requires-clause-known g c lifetimes alive =
    all_known c.args.job c.args.closed.pool c.args.closed.best c.into_bounded_nodes.result c.requires.finished c.into_bounded_nodes.ensures.nodes

pub tally_of-tally-requires : goal.tally_of-tally-requires
tally_of-tally-requires g c =
    let same : length c.nodes.result.now ≡ length c.into_bounded_nodes.result
    = ap length (c.nodes.ensures ∙ c.mark_nodes-nodes.ensures) ∙ length-map c.into_bounded_nodes.result (finished_node c.args.job c.cost_in.result) in
    let few = listed_few c.args.job c.args.closed.pool c.args.closed.best c.into_bounded_nodes.result c.requires.finished c.into_bounded_nodes.ensures.nodes in
    record { few = omega (arith, few, same) }

pub head_of-head-requires : goal.head_of-head-requires
head_of-head-requires g c =
    let s = c.args.closed.pool in
    record {
      leases = omega (arith, c.leases-leases.ensures, leases_few c.args.job s c.args.closed.best c.requires.finished);
      open_count = subst (λ (stop : Option Stop). open_for (ending_word c.tally_of-tally.result stop) stop ≤ 1000000) (sym c.stop-stop.ensures)
          (open_few c.args.job s c.args.closed.best (ending_word c.tally_of-tally.result s.stop) c.requires.finished);
    }

made : (g : given.Over) (c : goal.After-head_of-head g) → IsMade c.args.job c.args.closed.pool c.args.closed.best (unbounded c.args.closed.pool c.into_bounded_nodes.result c.into_bounded_nodes.ensures.nodes).of c.head_of-head.result c.mark_nodes-nodes.result
made g c =
    let j = c.args.job in
    let best = c.args.closed.best in
    let tally : c.tally_of-tally.result ≡ tally_of (map mark_of c.mark_nodes-nodes.result) = c.tally_of-tally.ensures.tally ∙ ap (λ (ns : List Node). tally_of (map mark_of ns)) c.nodes.ensures in
    let t = tally_of (map mark_of c.mark_nodes-nodes.result) in
    made_of j c.args.closed.pool best c.into_bounded_nodes.result c.head_of-head.result c.mark_nodes-nodes.result c.requires.finished
    (unbounded c.args.closed.pool c.into_bounded_nodes.result c.into_bounded_nodes.ensures.nodes) c.into_bounded_nodes.ensures.preorder
    (c.mark_nodes-nodes.ensures ∙ ap (λ u. map (finished_node j u) c.into_bounded_nodes.result) c.cost_in.ensures)
    (c.head_of-head.ensures.value
    ∙ ap (λ (k : Tally). head_by j best k c.stop-stop.result c.leases-leases.result) tally
    ∙ ap (λ (stop : Option Stop). head_by j best t stop c.leases-leases.result) c.stop-stop.ensures
    ∙ ap (head_by j best t c.args.closed.pool.stop) c.leases-leases.ensures)

pub returns-clause-answer : goal.returns-clause-answer
returns-clause-answer g c =
    finishes c.args.job c.args.closed.pool c.args.closed.best (unbounded c.args.closed.pool c.into_bounded_nodes.result c.into_bounded_nodes.ensures.nodes).of c.head_of-head.result c.mark_nodes-nodes.result (made g c) c.head_of-head.ensures.range
    (subst (λ (ns : List Node). All IsMark (map mark_of ns)) c.nodes.ensures c.tally_of-tally.ensures.ranges)

pub returns-clause-worked : goal.returns-clause-worked
returns-clause-worked g c =
    works c.args.job c.args.closed.pool c.args.closed.best (unbounded c.args.closed.pool c.into_bounded_nodes.result c.into_bounded_nodes.ensures.nodes).of c.head_of-head.result c.mark_nodes-nodes.result (made g c)
