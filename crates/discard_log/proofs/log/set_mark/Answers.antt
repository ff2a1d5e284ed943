use Rattle.discard_log.proofs.NodeLemmas.{set-mark}
use Rattle.discard_log.proofs.log.set_mark.Goals as goal

pub returns : goal.returns
returns c = set-mark c.args.nodes.now c.args.i c.index-nodes-i.result c.args.mark c.requires
