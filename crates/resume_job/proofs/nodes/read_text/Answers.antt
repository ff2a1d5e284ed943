use Rattle.std.proofs.Common.{◌∙◌, ap, not, arith}
use Rattle.std.proofs.lemmas.Bool.{cond-true}
use Rattle.siting_definitions.specs.Sites.{root_of}
use Rattle.siting_definitions.specs.Answer.{Head}
use Rattle.resume_job.proofs.TextLemmas.{underway_begins, underway_next, underway_more, underway_valid, underway_text}
use Rattle.resume_job.proofs.nodes.read_text.Goals as goal

pub loop-init : goal.loop-init
loop-init c =
    rw c.head.view_is
    (underway_begins c.args.bytes.now c.args.count c.in-Ok.head c.root.result c.begin-walk.result _ _ _ c.requires (rw c.new-source.ensures at c.new-reader.ensures.coming) c.in-Ok.ensures.reads (c.root.ensures ∙ ap (λ (h : Head). root_of h.instance) c.head.view_is) c.begin-walk.ensures c.in-Ok-with_capacity.ensures.items)

pub next_node-node-requires : goal.next_node-node-requires
next_node-node-requires c = underway_next c.args.bytes.now c.args.count _ c.loop.counter c.loop.walk _ _ c.loop-test.true c.loop.invariant

pub loop-preserved : goal.loop-preserved
loop-preserved c =
    let pushed = c.push.ensures.items ∙ cond-true _ _ _ (c.is_err.ensures.negation ∙ ap not c.if-is_err.false) in
    underway_more c.args.bytes.now c.args.count _ c.loop.counter c.loop.walk c.next_node-node.new.walk _ _ c.loop.nodes.items c.push.new.self.items c.next_node-node.result c.loop-test.true c.loop.invariant c.next_node-node.ensures.node c.next_node-node.ensures.walk c.next_node-node.ensures.rest pushed

pub returns-clause-valid : goal.returns-clause-valid
returns-clause-valid c =
    rw (← c.head.view_is, c.from_vec.ensures) (underway_valid c.args.bytes.now c.args.count _ c.loop.counter c.loop.walk _ c.loop.nodes.items (omega arith) c.loop.invariant)

pub returns-clause-text : goal.returns-clause-text
returns-clause-text c =
    rw (← c.head.view_is, c.from_vec.ensures) (underway_text c.args.bytes.now c.args.count _ c.loop.counter c.loop.walk _ c.loop.nodes.items (omega arith) c.loop.invariant)
