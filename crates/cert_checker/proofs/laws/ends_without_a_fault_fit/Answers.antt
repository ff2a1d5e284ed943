use Rattle.cert_checker.proofs.FaultLemmas.{end-none}
use Rattle.cert_checker.proofs.laws.ends_without_a_fault_fit.Goals as goal

pub returns : goal.returns
returns c = end-none
