use Rattle.certificate.proofs.PartLemmas.{instance_read, instance_stopped}
use Rattle.certificate.proofs.reader.instance.read_instance_lines.Goals as goal

pub returns-in_err-part : goal.returns-in_err-part
returns-in_err-part g c = instance_stopped c.args.second _ _ c.in_err-part.field-0.0 _ c.in_err-part.ensures c.from_residual.ensures.1

pub returns : goal.returns
returns g c = instance_read c.args.second _ _ c.in_ok-part.part _ c.in_ok-part.ensures c.canonical_instance.ensures.value
