use Rattle.std.proofs.Common.{arith}
use Rattle.search_answer.specs.Ending.{finished_node}
use Rattle.search_answer.proofs.WorkedMarks.{mapped-each}
use Rattle.search_answer.proofs.by_workers.mark_round.Goals as goal

pub returns : goal.returns
returns g c =
    let f = finished_node c.args.job.now c.args.least in
    mapped-each f c.args.nodes.now c.for_each_mut.new.s (omega arith)
    (λ i d h. let k = (c.for_each_mut.ensures i d h).1 in grind arith)
