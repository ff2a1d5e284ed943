-- The test of convexity tells convexity.
use Rattle.std.proofs.Common.{◌≢◌, ℕ, ◌<◌, Bool, true, false, ◌||◌, ℤ, pos, List, length, refl, arith}
use Rattle.std.specs.Prelude.{int_lt, IsTrue, ◌<ℤ◌, ◌↔◌}
use Rattle.std.specs.Bool.{Decides}
use Rattle.std.proofs.lemmas.Bool.{false≢true}
use Rattle.std.proofs.lemmas.Bool.Decides.{Decides-eqb, Decides-below_and}
use Rattle.siting_definitions.specs.Point.{Place, grid, point_of, side}
use Rattle.siting_definitions.specs.Polygon.{vertex, next_of, IsConvex}
use Rattle.convex_region.specs.Convex.{all_below, is_end_or_left, is_convex}
use borrow.Author.Differences.{ints}

Decides-unless : (x y z : Bool) {A B C : Type 0} → Decides x A → Decides y B → Decides z C → Decides (x || (y || z)) ((A → ⊥) → (B → ⊥) → C)
Decides-unless true y z a b c = ((λ _ no_a no_b. absurd (no_a (a.0 refl))), (λ _. refl))
Decides-unless false true z a b c = ((λ _ no_a no_b. absurd (no_b (b.0 refl))), (λ _. refl))
Decides-unless false false z a b c =
    ((λ h no_a no_b. c.0 h), (λ all. c.1 (all (λ h. false≢true (a.1 h)) (λ h. false≢true (b.1 h)))))

Decides-int_lt : (a b : ℤ) → Decides (int_lt a b) (a <ℤ b)
Decides-int_lt a b = ((λ h. grind (arith, ints)), (λ h. grind (arith, ints)))

abbrev LeftOf : List Place → ℕ → ℕ → Type 0
LeftOf vs i j = j ≢ i → j ≢ next_of (length vs) i → pos 0 <ℤ side (vertex vs i) (vertex vs (next_of (length vs) i)) (point_of (grid (vertex vs j)))

Decides-left : (vs : List Place) (i j : ℕ) → Decides (is_end_or_left vs i j) (LeftOf vs i j)
Decides-left vs i j = Decides-unless _ _ _ (Decides-eqb j i) (Decides-eqb j (next_of (length vs) i)) (Decides-int_lt (pos 0) _)

Decides-edge : (vs : List Place) (i : ℕ) → Decides (all_below (λ j. is_end_or_left vs i j) (length vs)) ((j : ℕ) → j < length vs → LeftOf vs i j)
Decides-edge vs i = Decides-below_and (λ j. is_end_or_left vs i j) (λ j. LeftOf vs i j) (all_below (λ j. is_end_or_left vs i j)) (Decides-left vs i) refl (λ _. refl) (length vs)

Decides-edges : (vs : List Place) → Decides (is_convex vs) ((i : ℕ) → i < length vs → (j : ℕ) → j < length vs → LeftOf vs i j)
Decides-edges vs =
    let test = λ (i : ℕ). all_below (λ j. is_end_or_left vs i j) (length vs) in
    Decides-below_and test (λ i. (j : ℕ) → j < length vs → LeftOf vs i j) (all_below test) (Decides-edge vs) refl (λ _. refl) (length vs)

-- the test passes exactly where the list is convex
pub is_convex-iff : (vs : List Place) → IsTrue (is_convex vs) ↔ IsConvex vs
is_convex-iff vs =
    let told = Decides-edges vs in (
      (λ h i j edge within not_start not_end. told.0 h i edge j within not_start not_end),
      (λ h. told.1 (λ i edge j within not_start not_end. h i j edge within not_start not_end)),
    )
