use Rattle.std.proofs.Common.{◌≡◌, ℕ, ◌+◌, ◌/◌, ◌≤◌, max, ℤ, ◌-ℤ◌, unsigned_abs, w64, FitsSigned, to_z, of_z, ap, ◌∙◌, arith, rules}
use Rattle.std.specs.Float.Ieee.{size}
use Rattle.std.proofs.lemmas.Int.{to_z-of_z}
use Rattle.siting_definitions.specs.Square.{Extent}
use Rattle.site_model.specs.Box.{square_of_box}
use Rattle.site_model.proofs.Rooted.{IsSquare-over, IsSquare-by}
use Rattle.site_model.proofs.root.square_over.Goals as goal

-- how far two numbers that were passed are apart
apart : (r : ℕ) (x y x' y' : ℤ) → FitsSigned w64 x → FitsSigned w64 y → r ≡ unsigned_abs (to_z w64 (of_z w64 x) -ℤ to_z w64 (of_z w64 y)) → x ≡ x' → y ≡ y' → r ≡ unsigned_abs (x' -ℤ y')
apart r x y x' y' fits_x fits_y value same_x same_y =
    value
    ∙ ap (λ z. unsigned_abs (z -ℤ to_z w64 (of_z w64 y))) (to_z-of_z w64 x fits_x ∙ same_x)
    ∙ ap (λ z. unsigned_abs (x' -ℤ z)) (to_z-of_z w64 y fits_y ∙ same_y)

-- the digits of the greater of the box's sides
digits_by : (x0 y0 x1 y1 : ℤ) (e : Extent) (w h m n : ℕ) → FitsSigned w64 x0 → FitsSigned w64 y0 → FitsSigned w64 x1 → FitsSigned w64 y1 → w ≡ unsigned_abs (to_z w64 (of_z w64 x1) -ℤ to_z w64 (of_z w64 x0)) → h ≡ unsigned_abs (to_z w64 (of_z w64 y1) -ℤ to_z w64 (of_z w64 y0)) → m ≡ max (w / 65536) (h / 65536) → n ≡ size m → x0 ≡ e.x0 → y0 ≡ e.y0 → x1 ≡ e.x1 → y1 ≡ e.y1 → 16 + n ≡ (square_of_box e).level
digits_by x0 y0 x1 y1 e w h m n fx0 fy0 fx1 fy1 width height most digits at_x0 at_y0 at_x1 at_y1 =
    let wide = apart w x1 x0 e.x1 e.x0 fx1 fx0 width at_x1 at_x0 in
    let high = apart h y1 y0 e.y1 e.y0 fy1 fy0 height at_y1 at_y0 in
    ap (λ k. 16 + k)
    (digits
    ∙ ap size
    (most
    ∙ ap (λ k. max (k / 65536) (h / 65536)) wide
    ∙ ap (λ k. max (unsigned_abs (e.x1 -ℤ e.x0) / 65536) (k / 65536)) high))

level_is : (c : goal.After-binary_digits) → 16 + c.binary_digits.result ≡ (square_of_box c.args.bounds).level
level_is c =
    let b = c.bounds.inside in
    digits_by b.x0 b.y0 b.x1 b.y1 c.args.bounds c.abs_diff-width.result c.abs_diff-height.result c.max.result c.binary_digits.result
    (search rules) (search rules) (search rules) (search rules) c.abs_diff-width.ensures c.abs_diff-height.ensures c.max.ensures c.binary_digits.ensures
    (ap (λ (e : Extent). e.x0) c.bounds.view_is) (ap (λ (e : Extent). e.y0) c.bounds.view_is) (ap (λ (e : Extent). e.x1) c.bounds.view_is) (ap (λ (e : Extent). e.y1) c.bounds.view_is)

pub overflow_add-binary_digits : goal.overflow_add-binary_digits
overflow_add-binary_digits c =
    let square = IsSquare-over c.args.bounds c.requires in
    let small : 16 + c.binary_digits.result ≤ 37 = omega (arith, level_is c, square.level) in
    search rules

pub of-requires : goal.of-requires
of-requires c =
    let b = c.bounds.inside in
    IsSquare-by c.args.bounds _ _ (16 + c.binary_digits.result) c.requires
    (to_z-of_z w64 b.x0 (search rules) ∙ ap (λ (e : Extent). e.x0) c.bounds.view_is)
    (to_z-of_z w64 b.y0 (search rules) ∙ ap (λ (e : Extent). e.y0) c.bounds.view_is)
    (digits_by b.x0 b.y0 b.x1 b.y1 c.args.bounds c.abs_diff-width.result c.abs_diff-height.result c.max.result c.binary_digits.result
    (search rules) (search rules) (search rules) (search rules) c.abs_diff-width.ensures c.abs_diff-height.ensures c.max.ensures c.binary_digits.ensures
    (ap (λ (e : Extent). e.x0) c.bounds.view_is) (ap (λ (e : Extent). e.y0) c.bounds.view_is) (ap (λ (e : Extent). e.x1) c.bounds.view_is) (ap (λ (e : Extent). e.y1) c.bounds.view_is))
