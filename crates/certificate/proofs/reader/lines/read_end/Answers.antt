use Rattle.certificate.proofs.ReadLemmas.{end_read, end_stopped}
use Rattle.certificate.proofs.reader.lines.read_end.Goals as goal

pub returns-in_err-read_end : goal.returns-in_err-read_end
returns-in_err-read_end g c = end_stopped _ _ c.in_err-read_end.field-0.0 _ c.in_err-read_end.ensures c.from_residual.ensures.1

pub returns : goal.returns
returns g c = end_read _ _ _ c.in_ok-read_end.ensures
