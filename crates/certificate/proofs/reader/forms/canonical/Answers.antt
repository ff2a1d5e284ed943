use Rattle.std.proofs.Common.{rules, ◌∙◌, FitsSigned}
use Rattle.std.specs.Int.{w64}
use Rattle.std.proofs.lemmas.Int.{to_z-of_z}
use Rattle.certificate.proofs.FormLemmas.{canonical_from}
use Rattle.certificate.proofs.reader.forms.canonical.Goals as goal

pub returns-in_err-number_in : goal.returns-in_err-number_in
returns-in_err-number_in c =
    let low : FitsSigned w64 c.args.low = search rules in
    let high : FitsSigned w64 c.args.high = search rules in
    c.from_residual.ensures ∙ canonical_from c.args.low c.args.high c.args.field.now _ low high (simp to_z-of_z at c.in_err-number_in.ensures)

pub returns : goal.returns
returns c =
    let low : FitsSigned w64 c.args.low = search rules in
    let high : FitsSigned w64 c.args.high = search rules in
    let value : FitsSigned w64 c.in_ok-number_in.field-0 = search rules in
    (simp to_z-of_z at c.if_written.ensures) ∙ canonical_from c.args.low c.args.high c.args.field.now _ low high (simp to_z-of_z at c.in_ok-number_in.ensures)
