use Rattle.pair_check.proofs.LineLemmas.{lines_fault-append, tally-append}
use Rattle.pair_check.proofs.laws.parts_join.Goals as goal

pub returns-clause-fault : goal.returns-clause-fault
returns-clause-fault c = lines_fault-append

pub returns-clause-tally : goal.returns-clause-tally
returns-clause-tally c = tally-append
