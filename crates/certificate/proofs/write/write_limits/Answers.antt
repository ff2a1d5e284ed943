use Rattle.std.proofs.Common.{rules, [], ◌∷◌, codes, FitsSigned, w64}
use Rattle.std.specs.Fmt.{signed_decimal}
use Rattle.std.proofs.lemmas.Int.{to_z-of_z}
use Rattle.siting_definitions.specs.AnswerText.{number_line}
use Rattle.certificate.proofs.Written.{text_of-as_put}
use Rattle.certificate.proofs.write.write_limits.Goals as goal

pub returns : goal.returns
returns g c =
    let gap : FitsSigned w64 c.args.gap = c.ranges.gap in
    let budget : FitsSigned w64 c.from.result = search rules in
    let pool : FitsSigned w64 c.from-2.result = search rules in
    let put = simp to_z-of_z at c.put_pieces.ensures in
    let said = rw (c.from.ensures, c.from-2.ensures) at put in
    rw (text_of-as_put ((codes "gap" ∷ signed_decimal c.args.gap ∷ []) ∷ number_line (codes "budget") c.args.budget ∷ number_line (codes "pool") c.args.pool ∷ []))
    said
