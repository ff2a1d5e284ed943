use Rattle.cover_check.proofs.ChainLemmas.{ring_more, ring_whole}
use Rattle.cover_check.proofs.chains.push_ring.Goals as goal

pub loop-i-preserved : goal.loop-i-preserved
loop-i-preserved c =
    ring_more c.args.ring.now c.loop-i.i c.args.edges.now.items c.loop-i.edges.items c.push.new.self.items c.edge_at.result c.loop-i-test.true c.edge_at.ensures c.loop-i.invariant c.in_ok-push.ensures.items

pub returns : goal.returns
returns c = ring_whole c.args.ring.now c.loop-i.i _ _ c.loop-i-test.false c.loop-i.invariant
