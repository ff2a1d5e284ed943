use Rattle.std.proofs.Common.{refl}
use Rattle.certificate.specs.Forms.{version_form}
use Rattle.certificate.proofs.ReadLemmas.{formed_read, formed_stopped}
use Rattle.certificate.proofs.ShortLemmas.{version_short}
use Rattle.certificate.proofs.reader.head.read_version.Goals as goal

pub returns-in_err-read_line : goal.returns-in_err-read_line
returns-in_err-read_line g c = formed_stopped version_form _ _ c.in_err-read_line.field-0.0 _ c.in_err-read_line.ensures c.from_residual.ensures.1

pub returns : goal.returns
returns g c =
    formed_read version_form refl version_short _ _ _ c.text.result.now _ c.line.result _ c.in_ok-read_line.ensures c.or_bad.ensures c.version_form.ensures c.text.ensures c.line.ensures.value
