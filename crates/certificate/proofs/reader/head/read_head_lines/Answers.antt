use Rattle.certificate.proofs.HeadParts.{no_version, no_instance, head_read}
use Rattle.certificate.proofs.reader.head.read_head_lines.Goals as goal

pub returns-in_err-second : goal.returns-in_err-second
returns-in_err-second g c = no_version _ _ c.in_err-second.field-0.0 _ (c.in_err-second.ensures, c.from_residual.ensures.1)

pub returns-in_err-instance : goal.returns-in_err-instance
returns-in_err-instance g c = no_instance _ _ c.in_ok-second.second c.in_ok-second.ensures _ c.in_err-instance.field-0.0 _ c.in_err-instance.ensures c.from_residual-in_err-instance.ensures.1

pub returns : goal.returns
returns g c = head_read _ _ c.in_ok-second.second c.in_ok-second.ensures _ c.in_ok-instance.instance _ _ c.in_ok-instance.ensures c.read_lines_after.ensures
