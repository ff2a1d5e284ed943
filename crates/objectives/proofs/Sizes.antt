-- The sum of the weights' sizes of an instance is at least 1, and what it says of the weights.
use Rattle.std.proofs.Common.{◌≡◌, ◌≢◌, ℕ, ◌≤◌, ◌+◌, ◌*◌, ◌^◌, ℤ, pos, negsuc, zero, suc, List, [], ◌∷◌, length, refl, ap, arith}
use Rattle.std.specs.Prelude.{All, unsigned_abs, sum_by}
use Rattle.std.proofs.Math.Nat.{mul-le-mul_left}
use Rattle.std.proofs.lemmas.Nat.{mul-le}
use Rattle.std.proofs.lemmas.List.Sums.{sum_by-cons}
use Rattle.std.proofs.lemmas.List.Elements.{All-head}
use Rattle.siting_definitions.specs.Instance.{DemandPt, Instance, IsDemandPt, IsInstance, weight}

size_positive : (w : ℤ) → w ≢ pos 0 → 1 ≤ unsigned_abs w
size_positive (pos zero) h = absurd (h refl)
size_positive (pos (suc n)) h = omega arith
size_positive (negsuc n) h = omega arith

some_weight : (ds : List DemandPt) → 1 ≤ length ds → All IsDemandPt ds → 1 ≤ weight ds
unfolding weight
some_weight [] h all = absurd (omega arith)
some_weight (d ∷ ds) h all = let e = size_positive d.w (All-head IsDemandPt d ds all).w_not_zero in omega (arith, e, sum_by-cons (λ (d : DemandPt). unsigned_abs d.w) d ds)

-- the weights' sizes sum to 1 at least
pub weight-positive : (i : Instance) → IsInstance i → 1 ≤ weight i.points
weight-positive i h = some_weight i.points h.few_points h.points

-- and to 16,000,000 at most
pub weights_small : (i : Instance) (ds : List DemandPt) → IsInstance i → ds ≡ i.points → sum_by (λ (d : DemandPt). unsigned_abs d.w) ds ≤ 16000000
unfolding weight
weights_small i ds h e = rw e h.weight

-- a total so far is small
pub so_far_small : (s w m l : ℕ) → s ≤ w * l → w ≤ m → m ≤ 16000000 → l ≤ 2 ^ 55 → s ≤ 2 ^ 100
so_far_small s w m l h k small short = omega (arith, mul-le w l 16000000 (2 ^ 55) (omega arith) short)

-- and the whole total
pub total_small : (s w m l : ℕ) → s ≤ w * l → w ≤ m → m ≤ 16000000 → s ≤ 16000000 * l
total_small s w m l h k small = omega (arith, mul-le w l 16000000 l (omega arith) (omega arith))

-- one step more
pub step_small : (s t w u l r x : ℕ) → s ≤ w * l → t ≤ s + u * r → r ≤ l → x ≡ w + u → t ≤ x * l
step_small s t w u l r x h k short e =
    let f : u * r ≤ u * l = mul-le-mul_left u short in
    let g : x * l ≡ (w + u) * l = ap (λ n. n * l) e in
    omega (arith, f, g)
