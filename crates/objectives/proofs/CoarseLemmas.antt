-- The coarse bound is at most the fine one, and less than it by at most the sum of the weights' sizes less 1.
use Rattle.std.proofs.Common.{◌≡◌, ℕ, ◌+◌, ◌-◌, ◌*◌, ◌^◌, ◌≤◌, ℤ, pos, negsuc, ◌+ℤ◌, ◌*ℤ◌, ◌≤ℤ◌, ◌<ℤ◌, List, [], ◌∷◌, map, Option, None, Some, refl, ap, ◌∙◌, arith}
use Rattle.std.proofs.Math.Nat.{mul-le-mul_left}
use Rattle.std.proofs.lemmas.List.Sums.{sum_by-cons}
use Rattle.std.specs.Prelude.{unsigned_abs}
use Rattle.std.proofs.lemmas.Int.{by_lt_z}
use borrow.Author.Differences.{up, down, ints}
use Rattle.siting_definitions.specs.Integer.{round_down}
use Rattle.siting_definitions.specs.Root.{floor_root, ceil_root}
use Rattle.siting_definitions.specs.Instance.{DemandPt, Instance, place_of, weight}
use Rattle.siting_definitions.specs.Cost.{terms, total_of}
use Rattle.siting_definitions.specs.Square.{Square}
use Rattle.siting_definitions.specs.Bounds.{near2, far2, capped, coarse_radius, fine_radius, coarse_of, fine_of}
use Rattle.siting_definitions.proofs.Integers.{mul_assoc_ℤ}
use Rattle.siting_definitions.proofs.Totals.{AreBelow, RiseBy, added, total-mono, total-scaled, total-drift}
use Rattle.root_enclosure.proofs.RootLemmas.{floor_root-finer_above, floor_root-finer_below, ceil_root-finer_above, ceil_root-finer_below}
use Rattle.objectives.proofs.BoundLemmas.{at_positive, at_negative, round_down-le, le-round_down}

-- ---- one radius
-- capping keeps what finer units add to a radius
capped-finer_below : (o : Option ℤ) (c f : ℕ) → 65536 * c ≤ f → 65536 * capped o 65536 c ≤ capped o (2 ^ 32) f
capped-finer_below None c f h = h
capped-finer_below (Some k) c f h = omega arith

capped-finer_above : (o : Option ℤ) (c f e : ℕ) → f ≤ 65536 * c + e → capped o (2 ^ 32) f ≤ 65536 * capped o 65536 c + e
capped-finer_above None c f e h = h
capped-finer_above (Some k) c f e h = omega arith

capped-finer_less : (o : Option ℤ) (c f e : ℕ) → 65536 * c ≤ f + e → 65536 * capped o 65536 c ≤ capped o (2 ^ 32) f + e
capped-finer_less None c f e h = h
capped-finer_less (Some k) c f e h = omega arith

-- ---- one term: from c whole grid units to f units of 1 / 65536
no_down : (w : ℤ) → pos 0 <ℤ w → down w ≡ 0
no_down (pos n) h = refl
no_down (negsuc n) h = absurd (omega (arith, ints))

no_up : (w : ℤ) → w ≤ℤ pos 0 → up w ≡ 0
no_up (pos n) h = omega (arith, ints)
no_up (negsuc n) h = refl

size_up : (w : ℤ) → down w ≡ 0 → unsigned_abs w ≡ up w
size_up w h = omega (arith, ints)

size_down : (w : ℤ) → up w ≡ 0 → unsigned_abs w ≡ down w
size_down w h = omega (arith, ints)

-- a product of positive weight whose radius is longer by at most e
positive_le : (w : ℤ) (a b e : ℕ) → down w ≡ 0 → a ≤ b + e → (w *ℤ pos a) ≤ℤ (w *ℤ pos b +ℤ pos (unsigned_abs w * e))
positive_le w a b e none h =
    let f : up w * a ≤ up w * (b + e) = mul-le-mul_left (up w) h in
    let g : down w * a ≡ 0 * a = ap (λ n. n * a) none in
    let g' : down w * b ≡ 0 * b = ap (λ n. n * b) none in
    let k : unsigned_abs w * e ≡ up w * e = ap (λ n. n * e) (size_up w none) in
    omega (arith, ints, f, g, g', k)

-- one of negative weight whose radius is shorter by at most e
negative_le : (w : ℤ) (a b e : ℕ) → up w ≡ 0 → b ≤ a + e → (w *ℤ pos a) ≤ℤ (w *ℤ pos b +ℤ pos (unsigned_abs w * e))
negative_le w a b e none h =
    let f : down w * b ≤ down w * (a + e) = mul-le-mul_left (down w) h in
    let g : up w * a ≡ 0 * a = ap (λ n. n * a) none in
    let g' : up w * b ≡ 0 * b = ap (λ n. n * b) none in
    let k : unsigned_abs w * e ≡ down w * e = ap (λ n. n * e) (size_down w none) in
    omega (arith, ints, f, g, g', k)

-- a term whose radius is b in place of a, where the sign of the weight decides which may be the greater one, and by how much
pub term-moved : (w : ℤ) (a b e : ℕ) → (pos 0 <ℤ w → a ≤ b + e) → (w ≤ℤ pos 0 → b ≤ a + e) → (w *ℤ pos a) ≤ℤ (w *ℤ pos b +ℤ pos (unsigned_abs w * e))
term-moved w a b e h k =
    by_lt_z (pos 0) w (λ above. positive_le w a b e (no_down w above) (h above)) (λ below. negative_le w a b e (no_up w below) (k below))

-- ---- the radii, by the sign of the weight
fine_above : (s : Square) (d : DemandPt) → pos 0 <ℤ d.w → 65536 * coarse_radius s d ≤ fine_radius s d
unfolding coarse_radius fine_radius
fine_above s d h =
    rw (at_positive d _ _ h, at_positive d _ _ h)
    (capped-finer_below d.cutoff (floor_root (near2 s (place_of d))) _ (floor_root-finer_above (near2 s (place_of d))))

fine_within : (s : Square) (d : DemandPt) → pos 0 <ℤ d.w → fine_radius s d ≤ 65536 * coarse_radius s d + 65535
unfolding coarse_radius fine_radius
fine_within s d h =
    rw (at_positive d _ _ h, at_positive d _ _ h)
    (capped-finer_above d.cutoff (floor_root (near2 s (place_of d))) _ 65535 (floor_root-finer_below (near2 s (place_of d))))

fine_below : (s : Square) (d : DemandPt) → d.w ≤ℤ pos 0 → fine_radius s d ≤ 65536 * coarse_radius s d
unfolding coarse_radius fine_radius
fine_below s d h =
    rw (at_negative d _ _ h, at_negative d _ _ h)
    (let e = capped-finer_above d.cutoff (ceil_root (far2 s (place_of d))) (ceil_root (far2 s (place_of d) * 2 ^ 32)) 0 (omega (arith, ceil_root-finer_below (far2 s (place_of d)))) in omega (arith, e))

fine_less : (s : Square) (d : DemandPt) → d.w ≤ℤ pos 0 → 65536 * coarse_radius s d ≤ fine_radius s d + 65535
unfolding coarse_radius fine_radius
fine_less s d h =
    rw (at_negative d _ _ h, at_negative d _ _ h)
    (capped-finer_less d.cutoff (ceil_root (far2 s (place_of d))) _ 65535 (ceil_root-finer_above (far2 s (place_of d))))

-- ---- all terms, with the coarse ones in finer units
finer : (w : ℤ) (c : ℕ) → (w *ℤ pos c) *ℤ pos 65536 ≡ w *ℤ pos (65536 * c)
finer w c = mul_assoc_ℤ w (pos c) (pos 65536) ∙ ap (λ n. w *ℤ pos n) (omega arith)

coarse_term : (s : Square) (d : DemandPt) → ((d.w *ℤ pos (coarse_radius s d)) *ℤ pos 65536) ≤ℤ (d.w *ℤ pos (fine_radius s d))
coarse_term s d =
    rw (finer d.w (coarse_radius s d))
    (let e = term-moved d.w (65536 * coarse_radius s d) (fine_radius s d) 0 (λ h. omega (arith, fine_above s d h)) (λ h. omega (arith, fine_below s d h)) in omega (arith, ints, e))

fine_term : (s : Square) (d : DemandPt) → (d.w *ℤ pos (fine_radius s d)) ≤ℤ ((d.w *ℤ pos (coarse_radius s d)) *ℤ pos 65536 +ℤ pos (unsigned_abs d.w * 65535))
fine_term s d =
    rw (finer d.w (coarse_radius s d))
    (term-moved d.w (fine_radius s d) (65536 * coarse_radius s d) 65535 (fine_within s d) (fine_less s d))

-- each coarse term, in finer units, is at most the fine one
coarse_terms : (s : Square) (ds : List DemandPt) → AreBelow (map (λ z. z *ℤ pos 65536) (terms ds (map (coarse_radius s) ds))) (terms ds (map (fine_radius s) ds))
coarse_terms s [] = tt
coarse_terms s (d ∷ ds) = (coarse_term s d, coarse_terms s ds)

-- a fine term is above the coarse one, in finer units, by less than the weight's size
fine_terms : (s : Square) (ds : List DemandPt) → RiseBy (map (λ z. z *ℤ pos 65536) (terms ds (map (coarse_radius s) ds))) (terms ds (map (fine_radius s) ds)) (map (λ (d : DemandPt). unsigned_abs d.w * 65535) ds)
fine_terms s [] = tt
fine_terms s (d ∷ ds) = (fine_term s d, fine_terms s ds)

-- the sum of the weights' sizes, each times e
pub added_weights : (ds : List DemandPt) (e : ℕ) → added (map (λ (d : DemandPt). unsigned_abs d.w * e) ds) ≡ weight ds * e
unfolding weight
added_weights [] e = omega arith
added_weights (d ∷ ds) e =
    let more : weight (d ∷ ds) * e ≡ (unsigned_abs d.w + weight ds) * e = ap (λ n. n * e) (sum_by-cons (λ (d : DemandPt). unsigned_abs d.w) d ds) in
    omega (arith, added_weights ds e, more)

-- ---- the laws
-- the coarse bound is at most the fine one
pub coarse_of-le-fine_of : (i : Instance) (s : Square) → coarse_of i s ≤ℤ fine_of i s
unfolding coarse_of fine_of total_of
coarse_of-le-fine_of i s =
    let e = total-mono i.kind _ _ (coarse_terms s i.points) in
    let f = total-scaled i.kind (terms i.points (map (coarse_radius s) i.points)) 65536 in
    le-round_down _ _ (omega (arith, ints, e, f))

less_than_weight : (t c : ℤ) (w : ℕ) → 1 ≤ w → t ≤ℤ (c *ℤ pos 65536 +ℤ pos (w * 65535)) → round_down t ≤ℤ (c +ℤ pos (w - 1))
less_than_weight t c w one h = let e = round_down-le t in omega (arith, ints, e)

-- which is above it by less than the sum of the weights' sizes
pub fine_of-le-coarse_of : (i : Instance) (s : Square) → 1 ≤ weight i.points → fine_of i s ≤ℤ (coarse_of i s +ℤ pos (weight i.points - 1))
unfolding coarse_of fine_of total_of
fine_of-le-coarse_of i s one =
    let e = total-drift i.kind _ _ _ (fine_terms s i.points) in
    let f = total-scaled i.kind (terms i.points (map (coarse_radius s) i.points)) 65536 in
    let g = added_weights i.points 65535 in
    less_than_weight _ _ (weight i.points) one (omega (arith, ints, e, f, g))
