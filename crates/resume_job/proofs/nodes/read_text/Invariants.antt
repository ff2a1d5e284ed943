use Rattle.std.specs.Prelude.{Some}
use Rattle.certificate.specs.ReaderView.{coming}
use Rattle.answer_model.specs.HeadFields.{head_of}
use Rattle.resume_job.proofs.TextLemmas.{IsUnderway}
use Rattle.resume_job.proofs.nodes.read_text.Given as goal

abbrev pub invariant-loop : goal.invariant-loop
invariant-loop l = IsUnderway l.bytes l.count (head_of l.head-inside) l.counter l.walk (coming Some l.reader) l.nodes.items
