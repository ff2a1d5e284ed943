use Rattle.cover_check.proofs.VerdictLemmas.{untold}
use Rattle.cover_check.proofs.laws.a_cover_has_no_fault.Goals as goal

pub returns : goal.returns
returns c = untold
