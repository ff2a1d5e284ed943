-- A number that is at most a point's cost is at most each number that is at least its cost.
use Rattle.std.proofs.Common.{ℕ, ◌+◌, ◌*◌, ◌≤◌, ℤ, pos, ◌+ℤ◌, ◌*ℤ◌, ◌≤ℤ◌, ◌<ℤ◌, List, [], ◌∷◌, map, Option, None, Some, arith}
use Rattle.std.proofs.Math.Nat.{mul-le-mul_left}
use Rattle.std.proofs.lemmas.Int.{by_lt_z}
use Rattle.std.specs.Prelude.{unsigned_abs}
use borrow.Author.Differences.{ints}
use Rattle.siting_definitions.specs.Root.{floor_root, ceil_root}
use Rattle.siting_definitions.specs.Point.{Point}
use Rattle.siting_definitions.specs.Instance.{DemandPt, Instance, place_of, weight}
use Rattle.siting_definitions.specs.Cost.{distance2, IsHighAt, IsLowAt, terms, total_of, CostAtLeast, CostAtMost}
use Rattle.siting_definitions.specs.Bounds.{capped, by_sign}
use Rattle.siting_definitions.proofs.Integers.{mul_le_ℤ, add_mul_ℤ}
use Rattle.siting_definitions.proofs.Totals.{RiseBy, total-drift}
use Rattle.root_enclosure.proofs.RootLemmas.{ceil_root-le-floor_root}
use Rattle.objectives.proofs.BoundLemmas.{at_positive, at_negative, root_below, root_above, low_by_sign, high_by_sign, all_low, all_high}
use Rattle.objectives.proofs.CoarseLemmas.{term-moved, added_weights}

-- a radius for p at the scale k that is low, and one that is high, and that differ by at most 1
low_at : Point → ℕ → DemandPt → ℕ
low_at p k d =
    by_sign d (capped d.cutoff (k * p.q) (floor_root (k * k * distance2 (place_of d) p)))
    (capped d.cutoff (k * p.q) (ceil_root (k * k * distance2 (place_of d) p)))

high_at : Point → ℕ → DemandPt → ℕ
high_at p k d =
    by_sign d (capped d.cutoff (k * p.q) (ceil_root (k * k * distance2 (place_of d) p)))
    (capped d.cutoff (k * p.q) (floor_root (k * k * distance2 (place_of d) p)))

-- they are low and high
low_at-is : (p : Point) (k : ℕ) (d : DemandPt) → IsLowAt d p k (1 * low_at p k d)
unfolding low_at
low_at-is p k d =
    low_by_sign d p 1 k _ _ (root_below d p 1 (k * p.q) k _ (omega arith) (omega arith)) (root_above d p 1 (k * p.q) k _ (omega arith) (omega arith))

high_at-is : (p : Point) (k : ℕ) (d : DemandPt) → IsHighAt d p k (1 * high_at p k d)
unfolding high_at
high_at-is p k d =
    high_by_sign d p 1 k _ _ (root_above d p 1 (k * p.q) k _ (omega arith) (omega arith)) (root_below d p 1 (k * p.q) k _ (omega arith) (omega arith))

-- the roots of one number, capped, differ by at most 1
capped_roots : (o : Option ℤ) (unit m : ℕ) → capped o unit (ceil_root m) ≤ capped o unit (floor_root m) + 1
capped_roots None unit m = ceil_root-le-floor_root m
capped_roots (Some c) unit m = omega (arith, ceil_root-le-floor_root m)

-- so do the two radii, whatever the weight's sign
close_above : (p : Point) (k : ℕ) (d : DemandPt) → pos 0 <ℤ d.w → 1 * high_at p k d ≤ 1 * low_at p k d + 1
unfolding low_at high_at
close_above p k d up = rw (at_positive d _ _ up, at_positive d _ _ up) (let e = capped_roots d.cutoff (k * p.q) (k * k * distance2 (place_of d) p) in omega (arith, e))

close_below : (p : Point) (k : ℕ) (d : DemandPt) → d.w ≤ℤ pos 0 → 1 * low_at p k d ≤ 1 * high_at p k d + 1
unfolding low_at high_at
close_below p k d down = rw (at_negative d _ _ down, at_negative d _ _ down) (let e = capped_roots d.cutoff (k * p.q) (k * k * distance2 (place_of d) p) in omega (arith, e))

-- the terms differ by at most the weights' sizes
terms_close : (p : Point) (k : ℕ) (ds : List DemandPt) → RiseBy (terms ds (map (λ d. 1 * low_at p k d) ds)) (terms ds (map (λ d. 1 * high_at p k d) ds)) (map (λ (d : DemandPt). unsigned_abs d.w * 1) ds)
terms_close p k [] = tt
terms_close p k (d ∷ ds) =
    (term-moved d.w (1 * high_at p k d) (1 * low_at p k d) 1 (close_above p k d) (close_below p k d), terms_close p k ds)

-- and the totals by at most the sum of these
totals_close : (i : Instance) (p : Point) (k : ℕ) → total_of i (map (λ d. 1 * high_at p k d) i.points) ≤ℤ (total_of i (map (λ d. 1 * low_at p k d) i.points) +ℤ pos (weight i.points))
unfolding total_of
totals_close i p k = let e = total-drift i.kind _ _ _ (terms_close p k i.points) in let f = added_weights i.points 1 in omega (arith, ints, e, f)

-- where c is less than b, a large scale shows it
too_far : (b c h l : ℤ) (w q : ℕ) → 1 ≤ q → c <ℤ b → h ≤ℤ (l +ℤ pos w) → (b *ℤ pos ((65536 * w + 1) * q)) ≤ℤ (pos 65536 *ℤ h) → (pos 65536 *ℤ l) ≤ℤ (c *ℤ pos ((65536 * w + 1) * q)) → ⊥
too_far b c h l w q one less close low high =
    let n = (65536 * w + 1) * q in
    let big : (65536 * w + 1) * 1 ≤ n = mul-le-mul_left (65536 * w + 1) one in
    let step : ((c +ℤ pos 1) *ℤ pos n) ≤ℤ (b *ℤ pos n) = mul_le_ℤ (c +ℤ pos 1) b n (omega (arith, ints)) in
    let apart : (c *ℤ pos n +ℤ pos 1 *ℤ pos n) ≤ℤ (b *ℤ pos n) = rw (← add_mul_ℤ c (pos 1) (pos n)) step in
    omega (arith, ints, big, apart)

-- a number that is at most a point's cost is at most each number that is at least its cost
pub cost_order : (i : Instance) (p : Point) (b c : ℤ) → CostAtLeast i p b → CostAtMost i p c → b ≤ℤ c
unfolding CostAtLeast CostAtMost
cost_order i p b c least most =
    let k = 65536 * weight i.points + 1 in
    by_lt_z c b
    (λ less.
    absurd
    (too_far b c _ _ (weight i.points) p.q p.q_pos less (totals_close i p k) (least k _ (omega arith) (all_high (λ d. 1 * high_at p k d) p k (high_at-is p k) i.points))
    (most k _ (omega arith) (all_low (λ d. 1 * low_at p k d) p k (low_at-is p k) i.points))))
    (λ more. more)
