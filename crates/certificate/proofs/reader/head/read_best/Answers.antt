use Rattle.certificate.proofs.HeadParts.{no_site, best_read}
use Rattle.certificate.proofs.reader.head.read_best.Goals as goal

pub returns-in_err-site : goal.returns-in_err-site
returns-in_err-site g c = no_site _ _ c.in_err-site.field-0.0 _ (c.in_err-site.ensures, c.from_residual.ensures.1)

pub returns : goal.returns
returns g c = best_read _ _ _ c.in_ok-site.site _ c.in_ok-site.ensures c.read_cost.ensures
