use Rattle.answer_model.proofs.ClaimsLemmas.{claims}
use Rattle.answer_model.proofs.laws.a_valid_answer_claims.Goals as goal

pub returns : goal.returns
returns c = claims
