use Rattle.std.proofs.Common.{◌+◌, ◌<◌, ◌∙◌, length, refl, ap, arith}
use Rattle.cert_checker.specs.Faults.{mark_fault_of}
use Rattle.pair_check.proofs.LineLemmas.{counted-more, counted-small, fault-found}
use Rattle.pair_check.proofs.parts.check_lines.Goals as goal

pub returns-in-Some : goal.returns-in-Some
returns-in-Some c =
    let h = c.args.head.now in
    let n = c.node-item.result in
    let within : c.loop-node.node-index < length c.args.nodes.now = omega (arith, c.loop-node-test.true) in
    fault-found h c.args.above c.args.nodes.now c.loop-node.node-index n c.loop-node.tally c.in-Some.fault _ within c.node-item.is c.loop-node.invariant.0
    (c.in-Some.ensures ∙ ap (λ k. mark_fault_of h n.square n.mark (k + 1)) c.loop-node.invariant.1)
    refl

pub add-requires : goal.add-requires
add-requires c = counted-small c.args.head.now c.args.above c.args.nodes.now c.loop-node.node-index c.loop-node.tally c.requires.few c.loop-node.invariant.0

pub loop-node-preserved : goal.loop-node-preserved
loop-node-preserved c =
    let h = c.args.head.now in
    let n = c.node-item.result in
    let within : c.loop-node.node-index < length c.args.nodes.now = omega (arith, c.loop-node-test.true) in (
      counted-more h c.args.above c.args.nodes.now c.loop-node.node-index n c.loop-node.tally c.add.new.self within c.node-item.is c.loop-node.invariant.0
          (c.in_default.ensures ∙ ap (λ k. mark_fault_of h n.square n.mark (k + 1)) c.loop-node.invariant.1)
          c.add.ensures,
      omega (arith, c.loop-node.invariant.1),
    )
