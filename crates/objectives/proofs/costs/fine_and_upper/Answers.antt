use Rattle.std.proofs.Common.{rules}
use Rattle.objectives.proofs.Computed.{fine-from, upper-from}
use Rattle.objectives.proofs.costs.fine_and_upper.Goals as goal

pub returns-clause-fine : goal.returns-clause-fine
returns-clause-fine c =
    fine-from c.args.instance.now c.args.sq c.totals_of-fine.result.0 c.round_down.result (search rules) (search rules) c.totals_of-fine.ensures.first c.round_down.ensures.value

pub returns-clause-upper : goal.returns-clause-upper
returns-clause-upper c =
    upper-from c.args.instance.now c.args.site c.totals_of-fine.result.1 c.round_up.result (search rules) (search rules) c.totals_of-fine.ensures.second c.round_up.ensures.value
