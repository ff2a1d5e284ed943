use Rattle.std.proofs.Common.{◌∙◌, ap, sym, subst}
use Rattle.centre_bound.specs.Polished.{HaveFineBounds, least_centre_bound}
use Rattle.centre_bound.proofs.PolishLemmas.{fine_at, lowered_once, least_at_end}
use Rattle.centre_bound.proofs.polish.polished.Goals as goal

pub first_bound-least-requires : goal.first_bound-least-requires
first_bound-least-requires c = subst (HaveFineBounds c.args.instance.now) (sym c.nodes-nodes.ensures) c.requires

pub loop-node-init : goal.loop-node-init
loop-node-init c = c.first_bound-least.ensures

pub lesser_with_node-least-requires : goal.lesser_with_node-least-requires
lesser_with_node-least-requires c =
    let fine = subst (HaveFineBounds c.args.instance.now) (sym c.nodes-nodes.ensures) c.requires in
    fine_at c.args.instance.now c.nodes-nodes.result.now c.loop-node.node-index c.node-item.result fine c.loop-node-test.true c.node-item.is

pub loop-node-preserved : goal.loop-node-preserved
loop-node-preserved c =
    lowered_once c.args.instance.now c.nodes-nodes.result.now c.loop-node.node-index c.node-item.result c.loop-node.least c.lesser_with_node-least.result _ c.loop-node-test.true c.node-item.is c.lesser_with_node-least.ensures c.loop-node.invariant

pub returns : goal.returns
returns c =
    least_at_end c.args.instance.now c.nodes-nodes.result.now c.loop-node.node-index c.loop-node.least _ c.loop-node-test.false c.loop-node.invariant
    ∙ ap (least_centre_bound c.args.instance.now) c.nodes-nodes.ensures
