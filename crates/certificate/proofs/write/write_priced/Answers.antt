use Rattle.std.proofs.Common.{rules, [], ◌∷◌, codes, FitsSigned, w64}
use Rattle.std.specs.Fmt.{signed_decimal}
use Rattle.std.proofs.lemmas.Int.{to_z-of_z}
use Rattle.certificate.proofs.Written.{text_of-as_put}
use Rattle.certificate.proofs.write.write_priced.Goals as goal

pub returns : goal.returns
returns g c =
    let x : FitsSigned w64 c.site.inside.x = search rules in
    let y : FitsSigned w64 c.site.inside.y = search rules in
    let lower : FitsSigned w64 c.args.lower = c.ranges.lower in
    let upper : FitsSigned w64 c.args.upper = c.ranges.upper in
    let put = simp to_z-of_z at c.put_pieces.ensures in
    rw (
      ← c.site.view_is,
      text_of-as_put ((codes "site" ∷ signed_decimal c.site.inside.x ∷ signed_decimal c.site.inside.y ∷ [])
          ∷ (codes "cost" ∷ signed_decimal c.args.lower ∷ signed_decimal c.args.upper ∷ []) ∷ []),
    )
    put
