use Rattle.cert_checker.proofs.FaultLemmas.{mark-none}
use Rattle.cert_checker.proofs.laws.marks_without_a_fault_fit.Goals as goal

pub returns : goal.returns
returns c = mark-none
