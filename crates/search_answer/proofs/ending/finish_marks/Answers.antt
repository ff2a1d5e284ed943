use Rattle.std.proofs.Common.{◌<◌, length, arith, ap}
use Rattle.search_answer.proofs.Remarking.{known_next, underway_more, underway_small}
use Rattle.search_answer.proofs.ending.finish_marks.Goals as goal

pub add-requires : goal.add-requires
add-requires c =
    underway_small c.args.job.now c.args.least c.args.nodes.now c.loop-i.i c.loop-i.nodes c.loop-i.tally c.requires.few c.loop-i.invariant

pub loop-i-preserved : goal.loop-i-preserved
loop-i-preserved c =
    let within : c.loop-i.i < length c.args.nodes.now = omega (arith, c.loop-i-test.true, ap length c.nodes-i-end.ensures) in
    underway_more c.args.job.now c.args.least c.args.nodes.now c.loop-i.i c.loop-i.nodes c.finish_node-mark.new.nodes c.loop-i.tally c.add.new.self c.finish_node-mark.result within c.loop-i.invariant
    c.finish_node-mark.ensures.nodes c.finish_node-mark.ensures.mark c.finish_node-mark.ensures.range c.add.ensures

pub finish_node-mark-requires-clause-known : goal.finish_node-mark-requires-clause-known
finish_node-mark-requires-clause-known c d =
    let within : c.loop-i.i < length c.args.nodes.now = omega (arith, c.loop-i-test.true, ap length c.nodes-i-end.ensures) in
    known_next c.args.job.now c.args.least c.args.nodes.now c.loop-i.i c.loop-i.nodes c.loop-i.tally d within c.requires.known c.loop-i.invariant
