-- The one lemma on which every bound rests: radii that are low at one scale make a total that is at most, at the other
-- scale, the total of radii that are high.
use Rattle.std.proofs.Common.{◌≡◌, ℕ, ◌*◌, ◌≤◌, ℤ, pos, negsuc, ◌*ℤ◌, ◌≤ℤ◌, ◌<ℤ◌, List, [], ◌∷◌, map, Option, None, Some, refl, ap, ◌⊎◌, inl, inr, arith, zero, suc}
use Rattle.std.proofs.Math.Nat.{mul-le-mul_left}
use Rattle.std.specs.Prelude.{⊤, unsigned_abs, MatchOption}
use borrow.Author.Differences.{up, down, ints}
use Rattle.siting_definitions.specs.Point.{Point}
use Rattle.siting_definitions.specs.Instance.{DemandPt, Instance, place_of}
use Rattle.siting_definitions.specs.Cost.{distance2, IsAbove, IsBelow, IsHighAt, IsLowAt, AreHigh, AreLow, terms, total_of, CostAtLeast, CostAtMost}
use Rattle.siting_definitions.proofs.Integers.{square_cancel_le, mul_le_ℤ, le_of_mul_le_ℤ, mul_assoc_ℤ, le_trans_ℤ}
use Rattle.siting_definitions.proofs.Totals.{AreBelow, total-mono, total-scaled}

-- ---- one radius
cross_roots : (m k g r D : ℕ) → g * g ≤ m * m * D → k * k * D ≤ r * r → k * g ≤ m * r
cross_roots m k g r D low high =
    let a : k * k * (g * g) ≤ k * k * (m * m * D) = mul-le-mul_left (k * k) low in
    let b : m * m * (k * k * D) ≤ m * m * (r * r) = mul-le-mul_left (m * m) high in
    square_cancel_le (k * g) (m * r) (omega (arith, a, b))

cross_cutoff : (m k q c g r : ℕ) → g ≤ m * q * c → k * q * c ≤ r → k * g ≤ m * r
cross_cutoff m k q c g r low high =
    let a : k * g ≤ k * (m * q * c) = mul-le-mul_left k low in
    let b : m * (k * q * c) ≤ m * r = mul-le-mul_left m high in
    omega (arith, a, b)

cross_either : (o : Option ℤ) (m k q g r D : ℕ) → g * g ≤ m * m * D → MatchOption o ⊤ (λ c. g ≤ m * q * unsigned_abs c) → (k * k * D ≤ r * r) ⊎ MatchOption o ⊥ (λ c. k * q * unsigned_abs c ≤ r) → k * g ≤ m * r
cross_either None m k q g r D low within (inl high) = cross_roots m k g r D low high
cross_either None m k q g r D low within (inr high) = absurd high
cross_either (Some c) m k q g r D low within (inl high) = cross_roots m k g r D low high
cross_either (Some c) m k q g r D low within (inr high) = cross_cutoff m k q (unsigned_abs c) g r within high

-- a radius below the distance at the scale m, and one above it at the scale k
pub cross : (d : DemandPt) (p : Point) (m k g r : ℕ) → IsBelow d p m g → IsAbove d p k r → k * g ≤ m * r
cross d p m k g r low high = cross_either d.cutoff m k p.q g r (distance2 (place_of d) p) low.0 low.1 high

-- ---- one term
-- a term of positive weight grows with its radius
attracted : (w : ℤ) (m k g r : ℕ) → down w ≡ 0 → k * g ≤ m * r → ((w *ℤ pos g) *ℤ pos k) ≤ℤ ((w *ℤ pos r) *ℤ pos m)
attracted w m k g r none h =
    let e : up w * (k * g) ≤ up w * (m * r) = mul-le-mul_left (up w) h in
    let f : down w * (k * g) ≡ 0 * (k * g) = ap (λ n. n * (k * g)) none in
    let f' : down w * (m * r) ≡ 0 * (m * r) = ap (λ n. n * (m * r)) none in
    rw (mul_assoc_ℤ w (pos g) (pos k), mul_assoc_ℤ w (pos r) (pos m)) (omega (arith, ints, e, f, f'))

-- a term of negative weight falls as its radius grows
repelled : (w : ℤ) (m k g r : ℕ) → up w ≡ 0 → m * r ≤ k * g → ((w *ℤ pos g) *ℤ pos k) ≤ℤ ((w *ℤ pos r) *ℤ pos m)
repelled w m k g r none h =
    let e : down w * (m * r) ≤ down w * (k * g) = mul-le-mul_left (down w) h in
    let f : up w * (k * g) ≡ 0 * (k * g) = ap (λ n. n * (k * g)) none in
    let f' : up w * (m * r) ≡ 0 * (m * r) = ap (λ n. n * (m * r)) none in
    rw (mul_assoc_ℤ w (pos g) (pos k), mul_assoc_ℤ w (pos r) (pos m)) (omega (arith, ints, e, f, f'))

term_by_sign : (w : ℤ) (m k g r : ℕ) → (pos 0 <ℤ w → k * g ≤ m * r) → (w <ℤ pos 0 → m * r ≤ k * g) → ((w *ℤ pos g) *ℤ pos k) ≤ℤ ((w *ℤ pos r) *ℤ pos m)
term_by_sign (pos zero) m k g r attracting repelling = omega (arith, ints)
term_by_sign (pos (suc n)) m k g r attracting repelling = attracted (pos (suc n)) m k g r refl (attracting (omega (arith, ints)))
term_by_sign (negsuc n) m k g r attracting repelling = repelled (negsuc n) m k g r refl (repelling (omega (arith, ints)))

-- a term with a low radius is at most the same term with a high one, across their scales
pub term_low_high : (d : DemandPt) (p : Point) (m k g r : ℕ) → IsLowAt d p m g → IsHighAt d p k r → ((d.w *ℤ pos g) *ℤ pos k) ≤ℤ ((d.w *ℤ pos r) *ℤ pos m)
term_low_high d p m k g r low high =
    term_by_sign d.w m k g r (λ up. cross d p m k g r (low.attracting up) (high.attracting up))
    (λ down. cross d p k m r g (high.repelling down) (low.repelling down))

-- ---- all terms
terms_low_high : (ds : List DemandPt) (p : Point) (m k : ℕ) (gs rs : List ℕ) → AreLow ds p m gs → AreHigh ds p k rs → AreBelow (map (λ z. z *ℤ pos k) (terms ds gs)) (map (λ z. z *ℤ pos m) (terms ds rs))
terms_low_high [] p m k [] [] low high = tt
terms_low_high [] p m k [] (r ∷ rs) low high = absurd high
terms_low_high [] p m k (g ∷ gs) rs low high = absurd low
terms_low_high (d ∷ ds) p m k [] rs low high = absurd low
terms_low_high (d ∷ ds) p m k (g ∷ gs) [] low high = absurd high
terms_low_high (d ∷ ds) p m k (g ∷ gs) (r ∷ rs) low high =
    (term_low_high d p m k g r low.0 high.0, terms_low_high ds p m k gs rs low.1 high.1)

-- the total of low radii is at most that of high ones, across their scales
pub total_low_high : (i : Instance) (p : Point) (m k : ℕ) (gs rs : List ℕ) → AreLow i.points p m gs → AreHigh i.points p k rs → (total_of i gs *ℤ pos k) ≤ℤ (total_of i rs *ℤ pos m)
unfolding total_of
total_low_high i p m k gs rs low high =
    rw (← total-scaled i.kind (terms i.points gs) k, ← total-scaled i.kind (terms i.points rs) m)
    (total-mono i.kind _ _ (terms_low_high i.points p m k gs rs low high))

-- ---- a bound from radii that are low at some scale, and a cost from radii that are high
-- from a total at the scale m to one at the scale k
bound_by : (b t u : ℤ) (m k q : ℕ) → 1 ≤ m → (b *ℤ pos (m * q)) ≤ℤ (pos 65536 *ℤ t) → (t *ℤ pos k) ≤ℤ (u *ℤ pos m) → (b *ℤ pos (k * q)) ≤ℤ (pos 65536 *ℤ u)
bound_by b t u m k q one low across =
    let e : (b *ℤ pos (m * q * k)) ≤ℤ (pos 65536 *ℤ (t *ℤ pos k)) =
    rw (← mul_assoc_ℤ b (pos (m * q)) (pos k), ← mul_assoc_ℤ (pos 65536) t (pos k)) (mul_le_ℤ _ _ k low) in
    let g : (b *ℤ pos (k * q * m)) ≤ℤ (pos 65536 *ℤ (u *ℤ pos m)) = omega (arith, ints, e) in
    le_of_mul_le_ℤ _ _ m one (rw (mul_assoc_ℤ b (pos (k * q)) (pos m), mul_assoc_ℤ (pos 65536) u (pos m)) g)

-- low radii at a scale m whose total, in the scale's units, is at least b
pub low_radii_bound : (i : Instance) (p : Point) (m : ℕ) (gs : List ℕ) (b : ℤ) → 1 ≤ m → AreLow i.points p m gs → (b *ℤ pos (m * p.q)) ≤ℤ (pos 65536 *ℤ total_of i gs) → CostAtLeast i p b
unfolding CostAtLeast
low_radii_bound i p m gs b one low at k rs k_one high = bound_by b _ _ m k p.q one at (total_low_high i p m k gs rs low high)

-- the same with both orders turned round
cost_by : (b t u : ℤ) (m k q : ℕ) → 1 ≤ m → (pos 65536 *ℤ u) ≤ℤ (b *ℤ pos (m * q)) → (t *ℤ pos m) ≤ℤ (u *ℤ pos k) → (pos 65536 *ℤ t) ≤ℤ (b *ℤ pos (k * q))
cost_by b t u m k q one high across =
    let e : (pos 65536 *ℤ (u *ℤ pos k)) ≤ℤ (b *ℤ pos (m * q * k)) =
    rw (← mul_assoc_ℤ b (pos (m * q)) (pos k), ← mul_assoc_ℤ (pos 65536) u (pos k)) (mul_le_ℤ _ _ k high) in
    let g : (pos 65536 *ℤ (t *ℤ pos m)) ≤ℤ (b *ℤ pos (k * q * m)) = omega (arith, ints, e) in
    le_of_mul_le_ℤ _ _ m one (rw (mul_assoc_ℤ b (pos (k * q)) (pos m), mul_assoc_ℤ (pos 65536) t (pos m)) g)

-- high radii at a scale m whose total, in the scale's units, is at most b
pub high_radii_cost : (i : Instance) (p : Point) (m : ℕ) (rs : List ℕ) (b : ℤ) → 1 ≤ m → AreHigh i.points p m rs → (pos 65536 *ℤ total_of i rs) ≤ℤ (b *ℤ pos (m * p.q)) → CostAtMost i p b
unfolding CostAtMost
high_radii_cost i p m rs b one high at k gs k_one low = cost_by b _ _ m k p.q one at (total_low_high i p k m gs rs low high)

-- a lesser number is at most the cost too
pub CostAtLeast-less : (i : Instance) (p : Point) (b c : ℤ) → c ≤ℤ b → CostAtLeast i p b → CostAtLeast i p c
unfolding CostAtLeast
CostAtLeast-less i p b c less at k rs k_one high = le_trans_ℤ _ _ _ (mul_le_ℤ c b (k * p.q) less) (at k rs k_one high)
