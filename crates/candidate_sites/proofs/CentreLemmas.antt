-- The centre site of a square.
use Rattle.std.proofs.Common.{◌≡◌, ℕ, ◌<◌, Bool, true, false, cond, ◌&&◌, Some, None, refl, ap, ◌∙◌, arith}
use Rattle.std.specs.Prelude.{nat_lt}
use Rattle.siting_definitions.specs.Point.{point_of}
use Rattle.siting_definitions.specs.Instance.{Instance}
use Rattle.siting_definitions.specs.Permitted.{permits}
use Rattle.siting_definitions.specs.Square.{Square, IsSquare, centre_of}
use Rattle.dyadic_square.proofs.Numbers.{two_halves}
use Rattle.siting_definitions.specs.Answer.{IsSite}
use Rattle.siting_definitions.specs.Sites.{has_centre, centre_site_of}
use Rattle.std.proofs.lemmas.Bool.Decides.{nat_tests}
use borrow.Author.Differences.{ints}

answer_of : (i : Instance) (s : Square) (b : Bool) → has_centre i s ≡ b → centre_site_of i s ≡ cond b (Some (centre_of s)) None
answer_of i s b h = ap (λ t. cond t (Some (centre_of s)) None) h

-- a square of level 0 has no centre site
pub no_centre-level : (i : Instance) (s : Square) → s.level ≡ 0 → centre_site_of i s ≡ None
unfolding has_centre
no_centre-level i s low = answer_of i s false (ap (λ n. nat_lt 0 n && permits i (point_of (centre_of s))) low)

-- nor has one whose centre isn't permitted
pub no_centre-permitted : (i : Instance) (s : Square) → 0 < s.level → permits i (point_of (centre_of s)) ≡ false → centre_site_of i s ≡ None
unfolding has_centre
no_centre-permitted i s above barred = answer_of i s false (ap (λ t. nat_lt 0 s.level && t) barred ∙ and_false (nat_lt 0 s.level))
  where
    and_false : (b : Bool) → (b && false) ≡ false
    and_false true = refl
    and_false false = refl

-- each other square has its centre
pub some_centre : (i : Instance) (s : Square) → 0 < s.level → permits i (point_of (centre_of s)) ≡ true → centre_site_of i s ≡ Some (centre_of s)
unfolding has_centre
some_centre i s above allowed =
    answer_of i s true (ap (λ t. nat_lt 0 s.level && t) allowed ∙ ap (λ t. t && true) (below-nat_lt 0 s.level above))
  where
    below-nat_lt : (m n : ℕ) → m < n → nat_lt m n ≡ true
    below-nat_lt m n h = grind (arith, nat_tests)

-- the centre of a square within the limits is a site
pub IsSite-centre : (s : Square) → 0 < s.level → IsSquare s → IsSite (centre_of s)
IsSite-centre s above square =
    let half = two_halves s.level above in
    let left = square.left in
    let right = square.right in
    let lower = square.lower in
    let upper = square.upper in
    (omega (arith, ints), omega (arith, ints))
