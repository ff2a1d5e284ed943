use Rattle.std.proofs.Common.{rules}
use Rattle.objectives.proofs.BoundLemmas.{upper_of-bounds}
use Rattle.objectives.proofs.Computed.{upper-from}
use Rattle.objectives.proofs.costs.upper_cost.Goals as goal

pub returns-clause-value : goal.returns-clause-value
returns-clause-value c =
    upper-from c.args.instance.now c.args.site c.total_of.result c.round_up.result (search rules) (search rules) c.total_of.ensures.value c.round_up.ensures.value

pub returns-clause-at_most : goal.returns-clause-at_most
returns-clause-at_most c = rw (returns-clause-value c) (upper_of-bounds c.args.instance.now c.args.site)
