use Rattle.std.proofs.Common.{rules}
use Rattle.objectives.proofs.Computed.{coarse-from, fine-from}
use Rattle.objectives.proofs.bounds.coarse_and_fine.Goals as goal

pub returns-clause-coarse : goal.returns-clause-coarse
returns-clause-coarse c = coarse-from c.args.instance.now c.args.sq c.totals_of-coarse.result.0 c.totals_of-coarse.ensures.first_size c.totals_of-coarse.ensures.first

pub returns-clause-fine : goal.returns-clause-fine
returns-clause-fine c =
    fine-from c.args.instance.now c.args.sq c.totals_of-coarse.result.1 c.round_down.result (search rules) (search rules) c.totals_of-coarse.ensures.second c.round_down.ensures.value
