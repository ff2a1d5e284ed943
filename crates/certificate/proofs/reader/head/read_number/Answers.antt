use Rattle.std.proofs.Common.{rules, FitsSigned}
use Rattle.std.specs.Int.{w64}
use Rattle.std.proofs.lemmas.Int.{to_z-of_z}
use Rattle.certificate.specs.Forms.{number_form}
use Rattle.certificate.proofs.FormLemmas.{number_range}
use Rattle.certificate.proofs.ReadLemmas.{formed_read, formed_stopped}
use Rattle.certificate.proofs.ShortLemmas.{number_form_short, number_form_empty}
use Rattle.certificate.proofs.reader.head.read_number.Goals as goal

pub returns-in_err-read_line-clause-reads : goal.returns-in_err-read_line-clause-reads
returns-in_err-read_line-clause-reads g c =
    formed_stopped (number_form c.args.word.now c.args.low c.args.high) _ _ c.in_err-read_line.field-0.0 _ c.in_err-read_line.ensures c.from_residual.ensures.1

pub returns-clause-reads : goal.returns-clause-reads
returns-clause-reads g c =
    let low : FitsSigned w64 c.args.low = search rules in
    let high : FitsSigned w64 c.args.high = search rules in
    formed_read (number_form c.args.word.now c.args.low c.args.high) (number_form_empty _ _ _) (number_form_short _ _ _ low high c.requires) _ _ _ c.text.result.now _ c.line.result _
    c.in_ok-read_line.ensures c.or_bad.ensures (simp to_z-of_z at c.number_form.ensures) c.text.ensures c.line.ensures.value

pub returns-clause-range : goal.returns-clause-range
returns-clause-range g c =
    let low : FitsSigned w64 c.args.low = search rules in
    let high : FitsSigned w64 c.args.high = search rules in
    number_range c.args.low c.args.high c.args.word.now c.text.result.now _ _ _ c.or_bad.ensures (simp to_z-of_z at c.number_form.ensures)
