-- How great the upper cost of a site is in size: the sum of the weights' sizes times the longest distance.
use Rattle.std.proofs.Common.{◌≡◌, ℕ, ◌+◌, ◌*◌, ◌^◌, ◌≤◌, ℤ, pos, negsuc, zero, suc, ◌+ℤ◌, ◌-ℤ◌, ◌*ℤ◌, Bool, true, false, cond, List, [], ◌∷◌, get_or, map, fold, Option, None, Some, ap, arith}
use Rattle.std.proofs.Math.Nat.{mul-le-mul_left, mul-le-mul_right, mul-le-mul}
use Rattle.std.proofs.lemmas.Int.{clamps, unsigned_abs-mul}
use Rattle.std.proofs.lemmas.List.Sums.{sum_by-cons}
use Rattle.std.proofs.lemmas.List.Elements.{All-tail}
use Rattle.std.specs.Prelude.{All, unsigned_abs}
use Rattle.std.specs.Int.{int_max}
use borrow.Author.Differences.{ints}
use Rattle.siting_definitions.specs.declared.Kind.{Kind}
use Rattle.siting_definitions.specs.declared.Kind.TheVariants.{Sum, Max}
use Rattle.siting_definitions.specs.Integer.{round_up}
use Rattle.siting_definitions.specs.Root.{floor_root, ceil_root}
use Rattle.siting_definitions.specs.Point.{Pt, point_of}
use Rattle.siting_definitions.specs.Instance.{DemandPt, Instance, IsInstance, IsDemandPt, place_of, weight}
use Rattle.siting_definitions.specs.Answer.{IsSite}
use Rattle.siting_definitions.specs.Cost.{distance2, terms, total, total_of}
use Rattle.siting_definitions.specs.Bounds.{capped, upper_radius, upper_of}
use Rattle.root_enclosure.proofs.RootLemmas.{ceil_root-le, floor_root-le-ceil_root}
use Rattle.dist_bounds.specs.Limits.{longest}
use Rattle.objectives.specs.Limits.{IsCost}

-- ---- a total is no greater in size than its terms together
-- the sum of the sizes
sizes : List ℤ → ℕ
sizes [] = 0
sizes (z ∷ zs) = unsigned_abs z + sizes zs

sum_size : (a : ℤ) (zs : List ℤ) → unsigned_abs (fold ◌+ℤ◌ a zs) ≤ unsigned_abs a + sizes zs
unfolding sizes
sum_size a [] = omega arith
sum_size a (z ∷ zs) = let e : unsigned_abs (a +ℤ z) ≤ unsigned_abs a + unsigned_abs z = omega (arith, ints) in omega (arith, e, sum_size (a +ℤ z) zs)

max_size : (a : ℤ) (zs : List ℤ) → unsigned_abs (fold int_max a zs) ≤ unsigned_abs a + sizes zs
unfolding sizes
max_size a [] = omega arith
max_size a (z ∷ zs) = let e : unsigned_abs (int_max a z) ≤ unsigned_abs a + unsigned_abs z = omega (arith, ints, clamps) in omega (arith, e, max_size (int_max a z) zs)

total_size : (kind : Kind) (zs : List ℤ) → unsigned_abs (total kind zs) ≤ sizes zs
unfolding sizes
total_size Sum zs = omega (arith, sum_size (pos 0) zs)
total_size Max [] = omega arith
total_size Max (z ∷ zs) = max_size z zs

-- terms whose radii are at most `most` are together at most the sum of the weights' sizes times it
terms_size : (f : DemandPt → ℕ) (most : ℕ) (ds : List DemandPt) → All (λ d. f d ≤ most) ds → sizes (terms ds (map f ds)) ≤ weight ds * most
unfolding sizes weight
terms_size f most [] h = omega arith
terms_size f most (d ∷ ds) h =
    let here : f d ≤ most = h 0 d (omega arith) in
    let e : unsigned_abs (d.w *ℤ pos (f d)) ≡ unsigned_abs d.w * f d = unsigned_abs-mul d.w (pos (f d)) in
    let g : unsigned_abs d.w * f d ≤ unsigned_abs d.w * most = mul-le-mul_left (unsigned_abs d.w) here in
    let w : weight (d ∷ ds) * most ≡ (unsigned_abs d.w + weight ds) * most = ap (λ n. n * most) (sum_by-cons (λ (d : DemandPt). unsigned_abs d.w) d ds) in
    omega (arith, e, g, w, terms_size f most ds (All-tail (λ d. f d ≤ most) d ds h))

-- ---- the radius of a demand point from a site
-- a site that lies within `reach` on both axes, in grid units, and the longest way from it to a demand point
pub record IsWithinReach (z : Pt) (reach way : ℕ) : Type 0 where
  pub x : unsigned_abs z.x ≤ reach
  pub y : unsigned_abs z.y ≤ reach
  pub diagonal : (reach + 65536000000) * (reach + 65536000000) + (reach + 65536000000) * (reach + 65536000000) ≤ way * way

way_size : (z a : ℤ) (reach : ℕ) → unsigned_abs z ≤ reach → unsigned_abs a ≤ 1000000 → unsigned_abs (z -ℤ pos 65536 *ℤ a) ≤ reach + 65536000000
way_size z a reach h k = omega (arith, ints)

-- in units of 1 / 65536 grid units
finer : (m most : ℕ) → m ≤ most * most → m * 2 ^ 32 ≤ (65536 * most) * (65536 * most)
finer m most h = omega (arith, mul-le-mul_right (2 ^ 32) h)

-- a site within this reach is at most this way from a demand point
distance_size : (z : Pt) (d : DemandPt) (reach way : ℕ) → IsWithinReach z reach way → IsDemandPt d → distance2 (place_of d) (point_of z) ≤ way * way
unfolding distance2
distance_size z d reach way within lawful =
    let x = way_size z.x d.x reach within.x lawful.x in
    let y = way_size z.y d.y reach within.y lawful.y in
    omega (arith, mul-le-mul x x, mul-le-mul y y, within.diagonal)

capped_le : (o : Option ℤ) (unit r most : ℕ) → r ≤ most → capped o unit r ≤ most
capped_le None unit r most h = h
capped_le (Some c) unit r most h = omega arith

by_sign_le : (b : Bool) (m n most : ℕ) → m ≤ most → n ≤ most → cond b m n ≤ most
by_sign_le true m n most h k = h
by_sign_le false m n most h k = k

-- and its radius is at most that, in finer units
radius_size : (z : Pt) (d : DemandPt) (reach way : ℕ) → IsWithinReach z reach way → IsDemandPt d → upper_radius z d ≤ 65536 * way
unfolding upper_radius
radius_size z d reach way within lawful =
    let m = distance2 (place_of d) (point_of z) * 2 ^ 32 in
    let most = 65536 * way in
    let up : ceil_root m ≤ most = ceil_root-le m most (finer _ way (distance_size z d reach way within lawful)) in
    by_sign_le _ _ _ most (capped_le d.cutoff (2 ^ 32) (ceil_root m) most up)
    (capped_le d.cutoff (2 ^ 32) (floor_root m) most (omega (arith, up, floor_root-le-ceil_root m)))

-- ---- the cost of a site
round_size : (t : ℤ) (w most : ℕ) → unsigned_abs t ≤ w * (65536 * most) → w ≤ 16000000 → unsigned_abs (round_up t) ≤ 16000000 * most
round_size (pos zero) w most h k = omega (arith, ints)
round_size (pos (suc n)) w most h k = let e : w * (65536 * most) ≤ 16000000 * (65536 * most) = mul-le-mul_right (65536 * most) k in omega (arith, ints, e)
round_size (negsuc n) w most h k = let e : w * (65536 * most) ≤ 16000000 * (65536 * most) = mul-le-mul_right (65536 * most) k in omega (arith, ints, e)

-- the upper cost of a site is at most the longest way to a demand point times the greatest sum of weights
pub upper_of-size : (i : Instance) (z : Pt) (reach way : ℕ) → IsInstance i → IsWithinReach z reach way → unsigned_abs (upper_of i z) ≤ 16000000 * way
unfolding upper_of total_of
upper_of-size i z reach way lawful within =
    let most = 65536 * way in
    let all = terms i.points (map (upper_radius z) i.points) in
    let e = total_size i.kind all in
    let f = terms_size (upper_radius z) most i.points (λ k d h. radius_size z (get_or i.points k d) reach way within (lawful.points k d h)) in
    let g : unsigned_abs (total i.kind all) ≤ weight i.points * most = omega (arith, e, f) in
    round_size (total i.kind all) (weight i.points) way g lawful.weight

-- the upper cost of any site of an instance
pub upper_of-IsCost : (i : Instance) (z : Pt) → IsInstance i → IsSite z → IsCost (upper_of i z)
upper_of-IsCost i z lawful site =
    upper_of-size i z (2 ^ 38) longest lawful (record { x = site.0; y = site.1; diagonal = omega arith })
