use Rattle.siting_definitions.proofs.CostLemmas.{CostAtLeast-less}
use Rattle.objectives.proofs.BoundLemmas.{fine_of-bounds}
use Rattle.objectives.proofs.CoarseLemmas.{coarse_of-le-fine_of}
use Rattle.objectives.proofs.Computed.{coarse-from}
use Rattle.objectives.proofs.bounds.coarse.Goals as goal

pub returns-clause-value : goal.returns-clause-value
returns-clause-value c = coarse-from c.args.instance.now c.args.sq c.total_of.result c.total_of.ensures.size c.total_of.ensures.value

pub returns-clause-bound : goal.returns-clause-bound
returns-clause-bound c p held =
    rw (returns-clause-value c)
    (CostAtLeast-less c.args.instance.now p _ _ (coarse_of-le-fine_of c.args.instance.now c.args.sq) (fine_of-bounds c.args.instance.now c.args.sq p held))
