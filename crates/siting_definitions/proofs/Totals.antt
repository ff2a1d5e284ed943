-- Laws of a total, for both kinds: it keeps the order of its terms, it is multiplied with them, it rises no more than they
-- do together, and its size is at most theirs together.
use Rattle.std.proofs.Common.{◌≡◌, ℕ, ◌+◌, ℤ, pos, ◌+ℤ◌, ◌*ℤ◌, ◌≤ℤ◌, List, [], ◌∷◌, ◌++◌, map, fold, Bool, cond, refl, sym, ap, ◌∙◌, arith}
use Rattle.std.specs.Prelude.{⊤}
use Rattle.std.specs.List.{count_by}
use Rattle.std.specs.Int.{int_max}
use Rattle.std.proofs.lemmas.List.Sums.{sum_by-append}
use Rattle.std.proofs.lemmas.Int.{clamps, by_lt_z}
use borrow.Author.Differences.{ints, same_in}
use Rattle.siting_definitions.specs.declared.Kind.{Kind}
use Rattle.siting_definitions.specs.declared.Kind.TheVariants.{Sum, Max}
use Rattle.siting_definitions.specs.Cost.{total}
use Rattle.siting_definitions.proofs.Integers.{add_mul_ℤ, mul_le_ℤ, le_refl_ℤ}

-- each number of the first list is at most that of the second at its place, and the lists are as long
abbrev pub AreBelow : List ℤ → List ℤ → Type 0
AreBelow [] [] = ⊤
AreBelow [] (w ∷ ws) = ⊥
AreBelow (z ∷ zs) [] = ⊥
AreBelow (z ∷ zs) (w ∷ ws) = (z ≤ℤ w) × AreBelow zs ws

-- ---- a step of the total
sum_rises : (a b z w : ℤ) → a ≤ℤ b → z ≤ℤ w → (a +ℤ z) ≤ℤ (b +ℤ w)
sum_rises a b z w h k = omega (arith, ints)

max_rises : (a b z w : ℤ) → a ≤ℤ b → z ≤ℤ w → (int_max a z) ≤ℤ (int_max b w)
max_rises a b z w h k = omega (arith, ints, clamps)

max_left : (a z : ℤ) → z ≤ℤ a → int_max a z ≡ a
max_left a z h = same_in _ _ (omega (arith, ints, clamps))

max_right : (a z : ℤ) → a ≤ℤ z → int_max a z ≡ z
max_right a z h = same_in _ _ (omega (arith, ints, clamps))

max_scales : (a z : ℤ) (k : ℕ) → int_max (a *ℤ pos k) (z *ℤ pos k) ≡ int_max a z *ℤ pos k
max_scales a z k =
    by_lt_z a z
    (λ less. let le : a ≤ℤ z = omega (arith, ints) in max_right _ _ (mul_le_ℤ a z k le) ∙ ap (λ m. m *ℤ pos k) (sym (max_right a z le)))
    (λ le. max_left _ _ (mul_le_ℤ z a k le) ∙ ap (λ m. m *ℤ pos k) (sym (max_left a z le)))

-- ---- folds
sum-mono : (a b : ℤ) (zs ws : List ℤ) → a ≤ℤ b → AreBelow zs ws → (fold ◌+ℤ◌ a zs) ≤ℤ (fold ◌+ℤ◌ b ws)
sum-mono a b [] [] h k = h
sum-mono a b [] (w ∷ ws) h k = absurd k
sum-mono a b (z ∷ zs) [] h k = absurd k
sum-mono a b (z ∷ zs) (w ∷ ws) h k = sum-mono (a +ℤ z) (b +ℤ w) zs ws (sum_rises a b z w h k.0) k.1

max-mono : (a b : ℤ) (zs ws : List ℤ) → a ≤ℤ b → AreBelow zs ws → (fold int_max a zs) ≤ℤ (fold int_max b ws)
max-mono a b [] [] h k = h
max-mono a b [] (w ∷ ws) h k = absurd k
max-mono a b (z ∷ zs) [] h k = absurd k
max-mono a b (z ∷ zs) (w ∷ ws) h k = max-mono (int_max a z) (int_max b w) zs ws (max_rises a b z w h k.0) k.1

sum-scaled : (a b : ℤ) (zs : List ℤ) (k : ℕ) → b ≡ a *ℤ pos k → fold ◌+ℤ◌ b (map (λ z. z *ℤ pos k) zs) ≡ fold ◌+ℤ◌ a zs *ℤ pos k
sum-scaled a b [] k e = e
sum-scaled a b (z ∷ zs) k e = sum-scaled (a +ℤ z) (b +ℤ z *ℤ pos k) zs k (ap (λ b. b +ℤ z *ℤ pos k) e ∙ sym (add_mul_ℤ a z (pos k)))

max-scaled : (a b : ℤ) (zs : List ℤ) (k : ℕ) → b ≡ a *ℤ pos k → fold int_max b (map (λ z. z *ℤ pos k) zs) ≡ fold int_max a zs *ℤ pos k
max-scaled a b [] k e = e
max-scaled a b (z ∷ zs) k e = max-scaled (int_max a z) (int_max b (z *ℤ pos k)) zs k (ap (λ b. int_max b (z *ℤ pos k)) e ∙ max_scales a z k)

-- ---- the laws
-- the total keeps the order of its terms
pub total-mono : (kind : Kind) (zs ws : List ℤ) → AreBelow zs ws → (total kind zs) ≤ℤ (total kind ws)
total-mono Sum zs ws h = sum-mono (pos 0) (pos 0) zs ws (le_refl_ℤ (pos 0)) h
total-mono Max [] [] h = le_refl_ℤ (pos 0)
total-mono Max [] (w ∷ ws) h = absurd h
total-mono Max (z ∷ zs) [] h = absurd h
total-mono Max (z ∷ zs) (w ∷ ws) h = max-mono z w zs ws h.0 h.1

-- a factor of at least 0 of all terms is a factor of the total
pub total-scaled : (kind : Kind) (zs : List ℤ) (k : ℕ) → total kind (map (λ z. z *ℤ pos k) zs) ≡ total kind zs *ℤ pos k
total-scaled Sum zs k = sum-scaled (pos 0) (pos 0) zs k (same_in _ _ (omega (arith, ints)))
total-scaled Max [] k = same_in _ _ (omega (arith, ints))
total-scaled Max (z ∷ zs) k = max-scaled z (z *ℤ pos k) zs k refl

-- the terms rise by at most the naturals of the list, each by its own
abbrev pub RiseBy : List ℤ → List ℤ → List ℕ → Type 0
RiseBy [] [] [] = ⊤
RiseBy [] [] (e ∷ es) = ⊥
RiseBy [] (w ∷ ws) es = ⊥
RiseBy (z ∷ zs) [] es = ⊥
RiseBy (z ∷ zs) (w ∷ ws) [] = ⊥
RiseBy (z ∷ zs) (w ∷ ws) (e ∷ es) = (w ≤ℤ (z +ℤ pos e)) × RiseBy zs ws es

-- the sum of a list
abbrev pub added : List ℕ → ℕ
added [] = 0
added (e ∷ es) = e + added es

sum_drifts : (a b z w : ℤ) (e f : ℕ) → b ≤ℤ (a +ℤ pos e) → w ≤ℤ (z +ℤ pos f) → (b +ℤ w) ≤ℤ ((a +ℤ z) +ℤ pos (e + f))
sum_drifts a b z w e f h k = omega (arith, ints)

max_drifts : (a b z w : ℤ) (e f : ℕ) → b ≤ℤ (a +ℤ pos e) → w ≤ℤ (z +ℤ pos f) → (int_max b w) ≤ℤ (int_max a z +ℤ pos (e + f))
max_drifts a b z w e f h k = omega (arith, ints, clamps)

drift_on : (a b : ℤ) (e f g : ℕ) → b ≤ℤ (a +ℤ pos (e + f + g)) → b ≤ℤ (a +ℤ pos (e + (f + g)))
drift_on a b e f g h = omega (arith, ints)

-- a sum rises by at most what its terms rise by together
sum-drift : (a b : ℤ) (e : ℕ) (zs ws : List ℤ) (es : List ℕ) → b ≤ℤ (a +ℤ pos e) → RiseBy zs ws es → (fold ◌+ℤ◌ b ws) ≤ℤ (fold ◌+ℤ◌ a zs +ℤ pos (e + added es))
sum-drift a b e [] [] [] h k = omega (arith, ints)
sum-drift a b e [] [] (f ∷ es) h k = absurd k
sum-drift a b e [] (w ∷ ws) es h k = absurd k
sum-drift a b e (z ∷ zs) [] es h k = absurd k
sum-drift a b e (z ∷ zs) (w ∷ ws) [] h k = absurd k
sum-drift a b e (z ∷ zs) (w ∷ ws) (f ∷ es) h k =
    drift_on _ _ e f (added es) (sum-drift (a +ℤ z) (b +ℤ w) (e + f) zs ws es (sum_drifts a b z w e f h k.0) k.1)

-- so does a greatest term
max-drift : (a b : ℤ) (e : ℕ) (zs ws : List ℤ) (es : List ℕ) → b ≤ℤ (a +ℤ pos e) → RiseBy zs ws es → (fold int_max b ws) ≤ℤ (fold int_max a zs +ℤ pos (e + added es))
max-drift a b e [] [] [] h k = omega (arith, ints)
max-drift a b e [] [] (f ∷ es) h k = absurd k
max-drift a b e [] (w ∷ ws) es h k = absurd k
max-drift a b e (z ∷ zs) [] es h k = absurd k
max-drift a b e (z ∷ zs) (w ∷ ws) [] h k = absurd k
max-drift a b e (z ∷ zs) (w ∷ ws) (f ∷ es) h k =
    drift_on _ _ e f (added es) (max-drift (int_max a z) (int_max b w) (e + f) zs ws es (max_drifts a b z w e f h k.0) k.1)

-- the total rises by at most what its terms rise by together
pub total-drift : (kind : Kind) (zs ws : List ℤ) (es : List ℕ) → RiseBy zs ws es → (total kind ws) ≤ℤ (total kind zs +ℤ pos (added es))
total-drift Sum zs ws es h = let base : (pos 0) ≤ℤ (pos 0 +ℤ pos 0) = omega (arith, ints) in let all = sum-drift (pos 0) (pos 0) 0 zs ws es base h in omega (arith, ints, all)
total-drift Max [] [] [] h = omega (arith, ints)
total-drift Max [] [] (e ∷ es) h = absurd h
total-drift Max [] (w ∷ ws) es h = absurd h
total-drift Max (z ∷ zs) [] es h = absurd h
total-drift Max (z ∷ zs) (w ∷ ws) [] h = absurd h
total-drift Max (z ∷ zs) (w ∷ ws) (e ∷ es) h = max-drift z w e zs ws es h.0 h.1

-- ---- counting
pub count_by-append : {X : Type 0} (p : X → Bool) (xs ys : List X) → count_by p (xs ++ ys) ≡ count_by p xs + count_by p ys
count_by-append p xs ys = sum_by-append (λ x. cond (p x) 1 0) xs ys
