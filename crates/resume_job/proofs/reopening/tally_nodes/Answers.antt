use Rattle.resume_job.proofs.TallyLemmas.{tally_more, tally_small}
use Rattle.resume_job.proofs.reopening.tally_nodes.Goals as goal

pub add-requires : goal.add-requires
add-requires c = tally_small c.args.nodes.now c.loop-node.node-index c.loop-node.tally c.requires c.loop-node.invariant

pub loop-node-preserved : goal.loop-node-preserved
loop-node-preserved c =
    tally_more c.args.nodes.now c.loop-node.node-index c.node-item.result c.loop-node.tally _ c.loop-node-test.true c.node-item.is c.loop-node.invariant c.add.ensures
