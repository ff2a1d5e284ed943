use Rattle.std.proofs.Common.{length}
use Rattle.search_answer.proofs.by_workers.+mark_rounds.Given as goal

abbrev pub decreases-mark_rounds : goal.decreases-mark_rounds
decreases-mark_rounds g l = length l.nodes.now
