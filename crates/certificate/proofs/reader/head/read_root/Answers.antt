use Rattle.std.proofs.Common.{refl, subst}
use Rattle.certificate.specs.Forms.{root_form}
use Rattle.certificate.proofs.ReadLemmas.{formed_read, formed_stopped}
use Rattle.siting_definitions.specs.Square.{IsSquare}
use Rattle.certificate.proofs.ShortLemmas.{root_short, root_length}
use Rattle.certificate.proofs.reader.head.read_root.Goals as goal

pub returns-in_err-read_line : goal.returns-in_err-read_line
returns-in_err-read_line g c = formed_stopped (root_form c.args.root) _ _ c.in_err-read_line.field-0.0 _ c.in_err-read_line.ensures c.from_residual.ensures.1

pub returns : goal.returns
returns g c =
    formed_read (root_form c.args.root) refl (root_short c.args.root (root_length c.args.root (subst IsSquare c.root.view_is c.root.invariant))) _ _ _ c.text.result.now _ c.line.result _ c.in_ok-read_line.ensures c.or_bad.ensures c.root_form.ensures c.text.ensures c.line.ensures.value
