use Rattle.std.proofs.Common.{◌≡◌, ◌+◌, length, ap, ◌∙◌, w64, rules, arith}
use Rattle.std.proofs.lemmas.Int.{to_z-of_z}
use Rattle.std.proofs.lemmas.List.{length_push}
use Rattle.std.proofs.lemmas.List.Sorted.{length_permutation}
use Rattle.pool_core.proofs.SortOut.{lefts_more, others_more, left_room, other_room}
use Rattle.pool_core.proofs.pool.sort_out.Goals.{in-Left, in_default}
use Rattle.pool_core.proofs.pool.sort_out.Goals as goal

pub push-requires : goal.push-requires
push-requires c =
    let room = left_room c.args.nodes.now c.loop-node.node-index c.node-item.result c.in-Left.bound c.loop-node.waiting.entries c.loop-node.log.nodes (search rules) c.node-item.is c.in-Left.is c.loop-node.invariant.sorted in
    omega (arith, room, c.loop-node.invariant.waiting_room, c.requires.waiting)

pub push-requires-in_default : goal.push-requires-in_default
push-requires-in_default c =
    let room = other_room c.args.nodes.now c.loop-node.node-index c.node-item.result c.loop-node.waiting.entries c.loop-node.log.nodes (search rules) c.node-item.is c.in_default.not-Left c.loop-node.invariant.sorted in
    omega (arith, room, c.loop-node.invariant.log_room, c.requires.log)

pub loop-node-preserved : goal.loop-node-preserved
loop-node-preserved c =
    let ns = c.args.nodes.now in
    let i = c.loop-node.node-index in
    let n = c.node-item.result in
    elim c.match-node.branch [
      | in-Left w ↦
          rw (w.waiting-is, w.log-is)
          (record {
            sorted = lefts_more ns i n w.in-Left.bound _ c.loop-node.waiting.entries w.push.new.self.entries c.loop-node.log.nodes (search rules) c.node-item.is w.in-Left.is (to_z-of_z w64 w.in-Left.bound (search rules)) w.push.ensures.entries c.loop-node.invariant.sorted;
            waiting_room =
                let more = length_permutation _ w.push.new.self.entries w.push.ensures.entries in
                omega (arith, more, w.push.ensures.spare, c.loop-node.invariant.waiting_room);
            log_room = c.loop-node.invariant.log_room;
          })
      | in_default w ↦
          rw (w.waiting-is, w.log-is)
          (record {
            sorted = others_more ns i n c.loop-node.waiting.entries c.loop-node.log.nodes w.push-in_default.new.self.nodes (search rules) c.node-item.is w.in_default.not-Left w.push-in_default.ensures.nodes c.loop-node.invariant.sorted;
            waiting_room = c.loop-node.invariant.waiting_room;
            log_room =
                let more : length w.push-in_default.new.self.nodes ≡ length c.loop-node.log.nodes + 1 = ap length w.push-in_default.ensures.nodes ∙ length_push c.loop-node.log.nodes n in
                omega (arith, more, w.push-in_default.ensures.spare, c.loop-node.invariant.log_room);
          })
    ]
