use Rattle.certificate.proofs.BeginLemmas.{begun_stops, begun_reads, begun_stopped, begun_read}
use Rattle.certificate.proofs.reader.beginning.read_beginning.Goals as goal

pub returns-in_err-head-clause-reads : goal.returns-in_err-head-clause-reads
returns-in_err-head-clause-reads g c = begun_stops _ _ c.in_err-head.field-0.0 _ _ c.new-lines.ensures c.in_err-head.ensures c.from_residual.ensures.1

pub returns-clause-reads : goal.returns-clause-reads
returns-clause-reads g c = begun_reads _ _ c.in_ok-head.head c.new-lines.ensures c.in_ok-head.ensures

pub returns-in_err-head-clause-read : goal.returns-in_err-head-clause-read
returns-in_err-head-clause-read g c = begun_stopped _ _ c.in_err-head.field-0.0 _ c.new-lines.ensures c.in_err-head.ensures c.from_residual.ensures.1

pub returns-clause-read : goal.returns-clause-read
returns-clause-read g c = begun_read _ _ c.in_ok-head.head c.new-lines.ensures c.in_ok-head.ensures
