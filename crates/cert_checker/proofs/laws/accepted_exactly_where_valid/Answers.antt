use Rattle.cert_checker.proofs.ValidLemmas.{accepted-valid, valid-accepted}
use Rattle.cert_checker.proofs.laws.accepted_exactly_where_valid.Goals as goal

pub returns-clause-accepted : goal.returns-clause-accepted
returns-clause-accepted c = accepted-valid

pub returns-clause-valid : goal.returns-clause-valid
returns-clause-valid c = valid-accepted
