use Rattle.cert_checker.proofs.FaultLemmas.{head-none}
use Rattle.cert_checker.proofs.laws.heads_without_a_fault_fit.Goals as goal

pub returns : goal.returns
returns c = head-none
