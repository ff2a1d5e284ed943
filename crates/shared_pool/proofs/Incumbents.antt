-- Numbers of the incumbent, as words and as numbers that may be absent.
use Rattle.std.proofs.Common.{◌≡◌, ℕ, ◌-◌, ◌^◌, ◌<◌, ◌≢◌, ℤ, pos, negsuc, ◌+ℤ◌, ◌-ℤ◌, ◌<ℤ◌, min, cond, Option, None, Some, sym, ap, ◌∙◌, ne_eqb, eq-eqb, arith}
use Rattle.std.specs.Prelude.{⊤, MatchOption}
use Rattle.std.specs.Int.{int_min}
use Rattle.std.proofs.lemmas.Int.{ints, clamps}
use mathlib.Core.Logic.{dite}
use native.Mathlib.Decide.{ℕ_discrete}
use Rattle.siting_definitions.specs.Marks.{IsAtMost, lesser}
use Rattle.incumbent_word.specs.Word.{word_of, number_in}
use Rattle.objectives.specs.Limits.{IsCost}

-- ---- words
number-none : (w : ℕ) → w ≡ 18446744073709551615 → number_in w ≡ None
number-none w e = ap (λ b. cond b None (Some (pos w -ℤ pos 9223372036854775808))) (eq-eqb w 18446744073709551615 e)

number-some : (w : ℕ) → w ≢ 18446744073709551615 → number_in w ≡ Some (pos w -ℤ pos 9223372036854775808)
number-some w n = ap (λ b. cond b None (Some (pos w -ℤ pos 9223372036854775808))) (ne_eqb w 18446744073709551615 n)

-- the word of a cost is the cost and 2 ^ 63
word-sum : (c : ℤ) → IsCost c → pos (word_of c) ≡ c +ℤ pos 9223372036854775808
word-sum (pos n) h = omega (arith, ints)
word-sum (negsuc n) h = omega (arith, ints)

word-below : (c : ℤ) → IsCost c → word_of c < 18446744073709551615
word-below c h = let e = word-sum c h in omega (arith, ints)

pub cost-below : (c : ℤ) → IsCost c → c <ℤ pos (2 ^ 63 - 1)
cost-below (pos n) h = omega (arith, ints)
cost-below (negsuc n) h = omega (arith, ints)

number-word : (c : ℤ) → IsCost c → number_in (word_of c) ≡ Some c
number-word c h =
    let e = word-sum c h in
    let below = word-below c h in
    number-some (word_of c) (λ same. omega (arith, same)) ∙ ap Some (omega (arith, ints))

-- the lesser word is that of the lesser number
pub number-min : (w : ℕ) (c : ℤ) → w < 18446744073709551616 → IsCost c → number_in (min w (word_of c)) ≡ lesser (number_in w) (Some c)
number-min w c fits h =
    let e : pos (word_of c) ≡ c +ℤ pos 9223372036854775808 = word-sum c h in
    let below : word_of c < 18446744073709551615 = word-below c h in
    dite (ℕ_discrete w 18446744073709551615)
    (λ none. let least : min w (word_of c) ≡ word_of c = omega arith in ap number_in least ∙ number-word c h ∙ ap (λ (u : Option ℤ). lesser u (Some c)) (sym (number-none w none)))
    (λ some. let there : min w (word_of c) ≢ 18446744073709551615 = λ same. omega arith in
    number-some (min w (word_of c)) there ∙ ap Some (int_lesser w c (word_of c) e)
    ∙ ap (λ (u : Option ℤ). lesser u (Some c)) (sym (number-some w some)))
  where
    int_lesser : (w : ℕ) (c : ℤ) (x : ℕ) → pos x ≡ c +ℤ pos 9223372036854775808 → pos (min w x) -ℤ pos 9223372036854775808 ≡ int_min (pos w -ℤ pos 9223372036854775808) c
    int_lesser w c x e = omega (arith, ints, clamps)

-- ---- numbers that may be absent
pub lesser-falls : (u : Option ℤ) (c z : ℤ) → IsAtMost u z → IsAtMost (lesser u (Some c)) z
lesser-falls None c z h = absurd h
lesser-falls (Some n) c z h = omega (arith, ints, clamps)

pub lesser-offer : (u : Option ℤ) (c : ℤ) → IsAtMost (lesser u (Some c)) c
lesser-offer None c = omega (arith, ints)
lesser-offer (Some n) c = omega (arith, ints, clamps)

-- what something is at most still bounds it where it falls
pub falls-at : (u v c : Option ℤ) → ((z : ℤ) → IsAtMost u z → IsAtMost v z) → MatchOption c ⊤ (IsAtMost u) → MatchOption c ⊤ (IsAtMost v)
falls-at u v None falls h = tt
falls-at u v (Some z) falls h = falls z h
