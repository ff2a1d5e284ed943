use Rattle.resume_job.proofs.ResumeLemmas.{resumed, shown}
use Rattle.resume_job.proofs.laws.a_resumed_search_resumes.Goals as goal

pub returns-clause-resumed : goal.returns-clause-resumed
returns-clause-resumed c = resumed

pub returns-clause-shown : goal.returns-clause-shown
returns-clause-shown c = shown
