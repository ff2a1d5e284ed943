use Rattle.resume_job.proofs.TextLemmas.{accepted_text, rejects_text}
use Rattle.resume_job.proofs.loading.check_text.Goals as goal

pub error_of-requires : goal.error_of-requires
error_of-requires c =
    (c.args.bytes.now, rejects_text c.args.bytes.now c.in-Err.error c.requires (rw c.new-source.ensures at c.in-Err.ensures.answers) c.in-Err.ensures.read_fault)

pub returns-in-Ok-clause-text : goal.returns-in-Ok-clause-text
returns-in-Ok-clause-text c = accepted_text c.args.bytes.now c.in-Ok.accepted (rw c.new-source.ensures at c.in-Ok.ensures.answers.0)

pub returns-in-Err-clause-error : goal.returns-in-Err-clause-error
returns-in-Err-clause-error c =
    c.error_of.ensures c.args.bytes.now
    (rejects_text c.args.bytes.now c.in-Err.error c.requires (rw c.new-source.ensures at c.in-Err.ensures.answers) c.in-Err.ensures.read_fault)
