use Rattle.std.proofs.Common.{arith}
use Rattle.centre_bound.proofs.PolishLemmas.{fine_at, known_bound}
use Rattle.centre_bound.proofs.polish.first_bound.Goals as goal

pub lesser_with_node-requires : goal.lesser_with_node-requires
lesser_with_node-requires c =
    fine_at c.args.instance.now c.args.nodes.now c.least_leaf-first.result c.index-nodes-first.result c.requires (omega arith) c.index-nodes-first.is

pub returns : goal.returns
returns c =
    rw c.lesser_with_node.ensures
    (known_bound c.args.instance.now c.args.nodes.now c.least_leaf-first.result c.index-nodes-first.result (omega arith) c.index-nodes-first.is)
