use Rattle.cert_checker.proofs.PrefixLemmas.{cut-refused}
use Rattle.cert_checker.proofs.laws.cut_answers_are_refused.Goals as goal

pub returns : goal.returns
returns c = cut-refused
