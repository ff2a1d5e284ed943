use Rattle.std.proofs.Common.{refl}
use Rattle.port_io.proofs.PutLemmas.{PutOn-next_item, PutOn-next_item_stop}
use Rattle.certificate.specs.Written.{node_text}
use Rattle.certificate.proofs.write.write_marks.Goals as goal

pub loop-node-preserved : goal.loop-node-preserved
loop-node-preserved g c =
    PutOn-next_item node_text c.args.nodes.now c.loop-node.node-index c.node-item.result c.node-item.is
    c.loop-node-test.true c.loop-node.invariant c.in_ok-write_mark.ensures

pub returns-in_err-write_mark : goal.returns-in_err-write_mark
returns-in_err-write_mark g c =
    PutOn-next_item_stop node_text c.args.nodes.now c.loop-node.node-index c.node-item.result c.node-item.is
    c.loop-node-test.true refl c.from_residual.ensures.0 c.loop-node.invariant c.in_err-write_mark.ensures
