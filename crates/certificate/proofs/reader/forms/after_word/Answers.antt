use Rattle.std.proofs.Common.{ap, sym, ◌∙◌, option_map}
use Rattle.certificate.proofs.FormLemmas.{word_then, no_word}
use Rattle.certificate.proofs.reader.forms.after_word.Goals as goal

pub returns-in_err-strip_prefix : goal.returns-in_err-strip_prefix
returns-in_err-strip_prefix c = ap (λ o. option_map (λ rest. rest.now) o) c.from_residual.ensures ∙ sym (no_word c.args.word.now c.args.line.now c.in_err-strip_prefix.ensures.cases)

pub returns : goal.returns
returns c =
    let says = c.in_ok-strip_prefix.ensures.cases in
    c.after_space.ensures ∙ sym (word_then c.args.word.now c.args.line.now _ says.0 says.1)
