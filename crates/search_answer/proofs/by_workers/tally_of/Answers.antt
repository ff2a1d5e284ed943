use Rattle.std.proofs.Common.{◌<◌, length, arith}
use Rattle.search_answer.proofs.WorkedMarks.{tallied-more, tallied-small}
use Rattle.search_answer.proofs.by_workers.tally_of.Goals as goal

pub add-requires : goal.add-requires
add-requires c = tallied-small c.args.nodes.now c.loop-node.node-index c.loop-node.tally c.requires.few c.loop-node.invariant

pub loop-node-preserved : goal.loop-node-preserved
loop-node-preserved c =
    let n = c.node-item.result in
    let within : c.loop-node.node-index < length c.args.nodes.now = omega (arith, c.loop-node-test.true) in
    tallied-more c.args.nodes.now c.loop-node.node-index n c.loop-node.tally c.add.new.self within c.node-item.is c.loop-node.invariant c.is_split-is_split.ensures.range c.add.ensures
