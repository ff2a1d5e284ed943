use Rattle.std.proofs.Common.{take}
use Rattle.search_answer.proofs.WorkedMarks.{IsTallied}
use Rattle.search_answer.proofs.by_workers.tally_of.Given as goal

abbrev pub invariant-loop-node : goal.invariant-loop-node
invariant-loop-node l = IsTallied (take l.node-index l.nodes) l.tally
