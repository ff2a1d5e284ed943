use Rattle.std.proofs.Common.{◌≡◌, ◌||◌, Bool, true, false, int_lt, ℤ, w64, FitsSigned, to_z, of_z, refl, sym, ◌∙◌, rules}
use Rattle.std.proofs.lemmas.Int.{to_z-of_z}
use Rattle.exact_geometry.proofs.extent.boxes_apart.Goals as goal

-- two tests of numbers that were passed to a function
passed : (r : Bool) (a b c d : ℤ) → FitsSigned w64 a → FitsSigned w64 b → FitsSigned w64 c → FitsSigned w64 d → r ≡ (int_lt (to_z w64 (of_z w64 a)) (to_z w64 (of_z w64 b)) || int_lt (to_z w64 (of_z w64 c)) (to_z w64 (of_z w64 d))) → r ≡ (int_lt a b || int_lt c d)
passed r a b c d f g h k e = simp to_z-of_z at e

-- the last two of four tests decide where the first two fail
last_two : (p q r s : Bool) → false ≡ (p || q) → (r || s) ≡ (p || q || r || s)
last_two false false r s e = refl
last_two false true r s e = cc
last_two true q r s e = cc

pub returns-else-spans_apart : goal.returns-else-spans_apart
returns-else-spans_apart c =
    let a = c.a.inside in
    let b = c.b.inside in
    let first = passed false a.x1 b.x0 b.x1 a.x0 (search rules) (search rules) (search rules) (search rules) (sym c.if-spans_apart.false ∙ c.spans_apart.ensures) in
    let second = passed c.spans_apart-else-spans_apart.result a.y1 b.y0 b.y1 a.y0 (search rules) (search rules) (search rules) (search rules) c.spans_apart-else-spans_apart.ensures in
    rw (← c.a.view_is, ← c.b.view_is) (second ∙ last_two (int_lt a.x1 b.x0) (int_lt b.x1 a.x0) (int_lt a.y1 b.y0) (int_lt b.y1 a.y0) first)
