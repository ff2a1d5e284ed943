use Rattle.resume_job.proofs.TextLemmas.{can_step, node_is, walk_is}
use Rattle.resume_job.proofs.nodes.next_node.Goals as goal

pub step-requires : goal.step-requires
step-requires c =
    rw c.is_split.ensures.value (can_step c.args.walk.now _ c.next_mark-mark.result c.requires (c.next_mark-mark.ensures.mark _ c.requires))

pub returns-clause-node : goal.returns-clause-node
returns-clause-node c next =
    node_is c.args.walk.now _ c.in-Some.square c.next_mark-mark.result c.in-Some.ensures next (c.next_mark-mark.ensures.mark _ next)

pub returns-clause-walk : goal.returns-clause-walk
returns-clause-walk c next =
    walk_is c.args.walk.now _ _ c.next_mark-mark.result (rw c.is_split.ensures.value at c.step.ensures) next (c.next_mark-mark.ensures.mark _ next)

pub returns-clause-rest : goal.returns-clause-rest
returns-clause-rest c next = c.next_mark-mark.ensures.rest _ next
