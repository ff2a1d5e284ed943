use Rattle.search_answer.proofs.Remarking.{IsUnderway}
use Rattle.search_answer.proofs.ending.finish_marks.Given as goal

abbrev pub invariant-loop-i : goal.invariant-loop-i
invariant-loop-i l = IsUnderway l.fn.job l.least l.fn.nodes l.i l.nodes l.tally
