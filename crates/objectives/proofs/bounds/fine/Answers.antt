use Rattle.std.proofs.Common.{rules}
use Rattle.objectives.proofs.BoundLemmas.{fine_of-bounds}
use Rattle.objectives.proofs.Computed.{fine-from}
use Rattle.objectives.proofs.bounds.fine.Goals as goal

pub returns-clause-value : goal.returns-clause-value
returns-clause-value c =
    fine-from c.args.instance.now c.args.sq c.total_of.result c.round_down.result (search rules) (search rules) c.total_of.ensures.value c.round_down.ensures.value

pub returns-clause-bound : goal.returns-clause-bound
returns-clause-bound c p held = rw (returns-clause-value c) (fine_of-bounds c.args.instance.now c.args.sq p held)
