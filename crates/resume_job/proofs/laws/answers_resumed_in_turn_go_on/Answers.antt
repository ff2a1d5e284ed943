use Rattle.resume_job.proofs.TurnLemmas.{goes_on_in_turn}
use Rattle.resume_job.proofs.laws.answers_resumed_in_turn_go_on.Goals as goal

pub returns : goal.returns
returns c = goes_on_in_turn
