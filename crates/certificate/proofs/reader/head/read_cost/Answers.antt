use Rattle.certificate.specs.Forms.{cost_form}
use Rattle.certificate.proofs.ReadLemmas.{formed_read, formed_stopped}
use Rattle.certificate.proofs.ShortLemmas.{cost_short, cost_empty}
use Rattle.certificate.proofs.reader.head.read_cost.Goals as goal

pub returns-in_err-read_line : goal.returns-in_err-read_line
returns-in_err-read_line g c = formed_stopped (cost_form c.args.site) _ _ c.in_err-read_line.field-0.0 _ c.in_err-read_line.ensures c.from_residual.ensures.1

pub returns : goal.returns
returns g c =
    formed_read (cost_form c.args.site) (cost_empty c.args.site) (cost_short c.args.site) _ _ _ c.text.result.now _ c.line.result _ c.in_ok-read_line.ensures c.or_bad.ensures c.priced_form.ensures c.text.ensures c.line.ensures.value
