use Rattle.std.proofs.Common.{◌≡◌, ℤ, w64, FitsSigned, to_z, of_z, refl, ap, ◌∙◌, rules}
use Rattle.std.specs.Int.{int_max, int_min}
use Rattle.std.proofs.lemmas.Int.{to_z-of_z}
use Rattle.site_model.proofs.root.box_round.Goals as goal

-- a minimum or a maximum of two numbers that were passed
passed : (f : ℤ → ℤ → ℤ) (r a b : ℤ) → FitsSigned w64 r → FitsSigned w64 a → FitsSigned w64 b → r ≡ f (to_z w64 (of_z w64 a)) (to_z w64 (of_z w64 b)) → to_z w64 (of_z w64 r) ≡ f a b
passed f r a b fits_r fits_a fits_b value =
    to_z-of_z w64 r fits_r
    ∙ value
    ∙ ap (λ z. f z (to_z w64 (of_z w64 b))) (to_z-of_z w64 a fits_a)
    ∙ ap (f a) (to_z-of_z w64 b fits_b)

pub returns : goal.returns
returns c =
    let a = c.a.inside in
    let b = c.b.inside in
    rw (
      passed int_min c.min.result a.x0 b.x0 (search rules) (search rules) (search rules) c.min.ensures.value,
      passed int_min c.min-2.result a.y0 b.y0 (search rules) (search rules) (search rules) c.min-2.ensures.value,
      passed int_max c.max.result a.x1 b.x1 (search rules) (search rules) (search rules) c.max.ensures.value,
      passed int_max c.max-2.result a.y1 b.y1 (search rules) (search rules) (search rules) c.max-2.ensures.value,
      ← c.a.view_is,
      ← c.b.view_is,
    ) refl
