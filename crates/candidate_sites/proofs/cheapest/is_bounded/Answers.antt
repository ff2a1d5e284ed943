use Rattle.std.proofs.Common.{sym, ap, ◌∙◌, rules, w64, FitsSigned, to_z, of_z}
use Rattle.std.specs.Prelude.{int_le}
use Rattle.std.proofs.lemmas.Int.{to_z-of_z}
use Rattle.candidate_sites.proofs.SkipLemmas.{fold-bounded}
use Rattle.candidate_sites.proofs.cheapest.is_bounded.Goals as goal

pub returns-in-Some : goal.returns-in-Some
returns-in-Some c = λ reached.
    let least = c.in-Some.least in
    let bound = c.bound_of.result in
    let fits : FitsSigned w64 c.in-Some.least = search rules in
    let fits_bound : FitsSigned w64 c.bound_of.result = search rules in
    fold-bounded c.args.instance.now c.args.found.now (c.in-Some.field-0-0, least) bound c.args.polygon.now c.in-Some.is
    (ap (λ l. int_le l bound) (sym (to_z-of_z w64 least fits)) ∙ ap (λ b. int_le (to_z w64 (of_z w64 least)) b) (sym (to_z-of_z w64 bound fits_bound)) ∙ reached)
    c.bound_of.ensures
