use Rattle.std.proofs.Common.{rules, sym, FitsSigned, pos, neg_ℤ, ◌^◌}
use Rattle.std.specs.Int.{w64}
use Rattle.std.proofs.lemmas.Int.{to_z-of_z}
use Rattle.certificate.proofs.FormLemmas.{two_range, near}
use Rattle.certificate.proofs.reader.forms.site_in.Goals as goal

pub invariant_of-result : goal.invariant_of-result
invariant_of-result c =
    let x : FitsSigned w64 c.in_ok-x.x = search rules in
    let y : FitsSigned w64 c.in_ok-x.y = search rules in
    let within = two_range (neg_ℤ (pos (2 ^ 38))) (pos (2 ^ 38)) c.args.bytes.now (c.in_ok-x.x, c.in_ok-x.y) (sym c.in_ok-x.ensures) in
    simp to_z-of_z (near (2 ^ 38) _ within.0.0 within.0.1, near (2 ^ 38) _ within.1.0 within.1.1)
