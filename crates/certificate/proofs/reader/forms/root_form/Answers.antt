use Rattle.std.proofs.Common.{◌∙◌}
use Rattle.certificate.proofs.FormLemmas.{root_fields-is}
use Rattle.certificate.proofs.reader.forms.root_form.Goals as goal

pub returns : goal.returns
returns c = c.root_in.ensures ∙ root_fields-is c.args.root c.args.line.now
