-- The least at the four corners of a square, from the sum at its centre and the slopes there.
use Rattle.std.proofs.Common.{◌≡◌, ℕ, ◌+◌, ◌-◌, ◌*◌, ◌^◌, ◌≤◌, ◌<◌, ℤ, pos, negsuc, neg_ℤ, ◌+ℤ◌, ◌-ℤ◌, ◌*ℤ◌, ◌≤ℤ◌, Bool, true, false, cond, List, map, refl, sym, ap, ◌∙◌, arith}
use Rattle.std.specs.Prelude.{unsigned_abs}
use Rattle.std.specs.Int.{int_min, int_div_euclid}
use Rattle.std.proofs.lemmas.Int.{clamps, unsigned_abs-mul}
use borrow.Author.Differences.{up, down, ints, same_in, neg_is}
use Rattle.siting_definitions.specs.Integer.{least}
use Rattle.siting_definitions.specs.Point.{Pt}
use Rattle.siting_definitions.specs.Instance.{DemandPt, Instance, place_of}
use Rattle.siting_definitions.specs.Square.{Square, centre_of, corners, far_by}
use Rattle.siting_definitions.specs.Bounds.{fine_radius}
use Rattle.siting_definitions.proofs.Integers.{mul_add_ℤ, mul_assoc_ℤ, int_min-assoc}
use Rattle.dyadic_square.proofs.Numbers.{two_halves}
use Rattle.dist_bounds.specs.Limits.{longest}
use Rattle.centre_bound.specs.Cut.{Vector, direction, is_straight, straight_way, straight_sum, other_sum, cut_of}
use Rattle.centre_bound.specs.Terms.{sum_over, term_at, slope_of}
use Rattle.centre_bound.proofs.SumLemmas.{sums-moved}
use Rattle.centre_bound.proofs.CutLemmas.{corner, sum_at-is, product_of_least}

-- ---- a term at another place
axis_moved : (u z m a : ℤ) → u *ℤ (z -ℤ a) ≡ u *ℤ (m -ℤ a) +ℤ u *ℤ (z -ℤ m)
axis_moved u z m a =
    let e : z -ℤ a ≡ (m -ℤ a) +ℤ (z -ℤ m) = same_in _ _ (omega (arith, ints)) in ap (λ n. u *ℤ n) e ∙ mul_add_ℤ u (m -ℤ a) (z -ℤ m)

weight_moved : (w s t u v x y : ℤ) → w *ℤ ((s +ℤ u *ℤ x) +ℤ (t +ℤ v *ℤ y)) ≡ w *ℤ (s +ℤ t) +ℤ ((w *ℤ u) *ℤ x +ℤ (w *ℤ v) *ℤ y)
weight_moved w s t u v x y =
    rw (mul_assoc_ℤ w u x, mul_assoc_ℤ w v y, mul_add_ℤ w (s +ℤ u *ℤ x) (t +ℤ v *ℤ y), mul_add_ℤ w s (u *ℤ x), mul_add_ℤ w t (v *ℤ y), mul_add_ℤ w s t)
    (same_in _ _ (omega (arith, ints)))

not_moved : (n x y : ℤ) → n ≡ n +ℤ (pos 0 *ℤ x +ℤ pos 0 *ℤ y)
not_moved n x y = same_in _ _ (omega (arith, ints))

term-moved : (s : Square) (z : Pt) (d : DemandPt)
    → term_at s z d ≡ term_at s (centre_of s) d +ℤ ((slope_of s d).x *ℤ (z.x -ℤ (centre_of s).x) +ℤ (slope_of s d).y *ℤ (z.y -ℤ (centre_of s).y))
unfolding term_at slope_of straight_way
term-moved s z d = by_test (is_straight d)
  where
    m : Pt
    m = centre_of s

    v : Vector
    v = direction (place_of d) m

    slope_by : Bool → Vector
    slope_by b = cond b (record { x = d.w *ℤ v.x; y = d.w *ℤ v.y }) (record { x = pos 0; y = pos 0 })

    by_test : (b : Bool) → d.w *ℤ cond b (straight_way m z d) (pos 16 *ℤ pos (fine_radius s d)) ≡ d.w *ℤ cond b (straight_way m m d) (pos 16 *ℤ pos (fine_radius s d)) +ℤ ((slope_by b).x *ℤ (z.x -ℤ m.x) +ℤ (slope_by b).y *ℤ (z.y -ℤ m.y))
    by_test true =
        rw (axis_moved v.x z.x m.x (pos 65536 *ℤ d.x), axis_moved v.y z.y m.y (pos 65536 *ℤ d.y))
        (weight_moved d.w (v.x *ℤ (m.x -ℤ pos 65536 *ℤ d.x)) (v.y *ℤ (m.y -ℤ pos 65536 *ℤ d.y)) v.x v.y (z.x -ℤ m.x) (z.y -ℤ m.y))
    by_test false = not_moved (d.w *ℤ (pos 16 *ℤ pos (fine_radius s d))) (z.x -ℤ m.x) (z.y -ℤ m.y)

-- ---- the corners
signed : Bool → ℤ → ℤ
signed b z = cond b z (neg_ℤ z)

way_to_corner : (low : ℤ) (len half : ℕ) (b : Bool) → len ≡ half + half → (low +ℤ pos (far_by b len)) -ℤ (low +ℤ pos half) ≡ signed b (pos half)
unfolding signed
way_to_corner low len half true e = same_in _ _ (omega (arith, ints))
way_to_corner low len half false e = same_in _ _ (omega (arith, ints))

mul_neg : (u z : ℤ) → u *ℤ neg_ℤ z ≡ neg_ℤ (u *ℤ z)
mul_neg u z =
    let a = ap (λ n. up u * n) (neg_is z).0 in
    let b = ap (λ n. up u * n) (neg_is z).1 in
    let c = ap (λ n. down u * n) (neg_is z).0 in
    let d = ap (λ n. down u * n) (neg_is z).1 in
    same_in _ _ (omega (arith, ints, a, b, c, d))

signed_out : (u z : ℤ) (b : Bool) → u *ℤ signed b z ≡ signed b (u *ℤ z)
unfolding signed
signed_out u z true = refl
signed_out u z false = mul_neg u z

at_corner : (i : Instance) (s : Square) (right upper : Bool) → 0 < s.level
    → straight_sum i s (corner s right upper) +ℤ pos 16 *ℤ other_sum i s
    ≡ sum_over (term_at s (centre_of s)) i.points +ℤ (signed right (sum_over (λ d. (slope_of s d).x) i.points *ℤ pos (2 ^ (s.level - 1))) +ℤ signed upper (sum_over (λ d. (slope_of s d).y) i.points *ℤ pos (2 ^ (s.level - 1))))
at_corner i s right upper h =
    let half = 2 ^ (s.level - 1) in
    let z : Pt = corner s right upper in
    let u = sum_over (λ d. (slope_of s d).x) i.points in
    let v = sum_over (λ d. (slope_of s d).y) i.points in
    let x : z.x -ℤ (centre_of s).x ≡ signed right (pos half) = way_to_corner s.x (2 ^ s.level) half right (two_halves s.level h) in
    let y : z.y -ℤ (centre_of s).y ≡ signed upper (pos half) = way_to_corner s.y (2 ^ s.level) half upper (two_halves s.level h) in
    sum_at-is i s z
    ∙ sums-moved (term_at s z) (term_at s (centre_of s)) (λ d. (slope_of s d).x) (λ d. (slope_of s d).y) (z.x -ℤ (centre_of s).x) (z.y -ℤ (centre_of s).y) i.points (term-moved s z)
    ∙ ap (λ n. sum_over (term_at s (centre_of s)) i.points +ℤ (n +ℤ v *ℤ (z.y -ℤ (centre_of s).y))) (ap (λ n. u *ℤ n) x ∙ signed_out u (pos half) right)
    ∙ ap (λ n. sum_over (term_at s (centre_of s)) i.points +ℤ (signed right (u *ℤ pos half) +ℤ n)) (ap (λ n. v *ℤ n) y ∙ signed_out v (pos half) upper)

lesser_of_signed : (x y o d a : ℤ) → x +ℤ o ≡ d +ℤ neg_ℤ a → y +ℤ o ≡ d +ℤ a → int_min x y +ℤ o ≡ d -ℤ pos (unsigned_abs a)
lesser_of_signed x y o d a ex ey = same_in _ _ (omega (arith, ints, clamps))

least_of_signed : (f g h k o c a b : ℤ) → f +ℤ o ≡ c +ℤ (neg_ℤ a +ℤ neg_ℤ b) → g +ℤ o ≡ c +ℤ (a +ℤ neg_ℤ b) → h +ℤ o ≡ c +ℤ (neg_ℤ a +ℤ b) → k +ℤ o ≡ c +ℤ (a +ℤ b)
    → int_min (int_min (int_min f g) h) k +ℤ o ≡ c -ℤ pos (unsigned_abs a + unsigned_abs b)
least_of_signed f g h k o c a b ef eg eh ek =
    let low : int_min f g +ℤ o ≡ (c +ℤ neg_ℤ b) -ℤ pos (unsigned_abs a) = lesser_of_signed f g o (c +ℤ neg_ℤ b) a (same_in _ _ (omega (arith, ints))) (same_in _ _ (omega (arith, ints))) in
    let high : int_min h k +ℤ o ≡ (c +ℤ b) -ℤ pos (unsigned_abs a) = lesser_of_signed h k o (c +ℤ b) a (same_in _ _ (omega (arith, ints))) (same_in _ _ (omega (arith, ints))) in
    let all = lesser_of_signed (int_min f g) (int_min h k) o (c -ℤ pos (unsigned_abs a)) b (low ∙ same_in _ _ (omega (arith, ints))) (high ∙ same_in _ _ (omega (arith, ints))) in
    ap (λ z. z +ℤ o) (int_min-assoc (int_min f g) h k) ∙ all ∙ same_in _ _ (omega (arith, ints))

size_of_product : (u : ℤ) (n : ℕ) → unsigned_abs (u *ℤ pos n) ≡ unsigned_abs u * n
size_of_product u n = unsigned_abs-mul u (pos n)

least-at_corners : (i : Instance) (s : Square) → 0 < s.level
    → least (map (straight_sum i s) (corners s)) +ℤ pos 16 *ℤ other_sum i s
    ≡ sum_over (term_at s (centre_of s)) i.points -ℤ pos (2 ^ (s.level - 1)) *ℤ pos (unsigned_abs (sum_over (λ d. (slope_of s d).x) i.points) + unsigned_abs (sum_over (λ d. (slope_of s d).y) i.points))
unfolding signed
least-at_corners i s h =
    let half = 2 ^ (s.level - 1) in
    let c = sum_over (term_at s (centre_of s)) i.points in
    let u = sum_over (λ d. (slope_of s d).x) i.points in
    let v = sum_over (λ d. (slope_of s d).y) i.points in
    let sizes : unsigned_abs (u *ℤ pos half) + unsigned_abs (v *ℤ pos half) ≡ half * (unsigned_abs u + unsigned_abs v) = omega (arith, size_of_product u half, size_of_product v half) in
    least_of_signed (straight_sum i s (corner s false false)) (straight_sum i s (corner s true false)) (straight_sum i s (corner s false true)) (straight_sum i s (corner s true true)) (pos 16 *ℤ other_sum i s) c (u *ℤ pos half) (v *ℤ pos half)
    (at_corner i s false false h) (at_corner i s true false h) (at_corner i s false true h) (at_corner i s true true h)
    ∙ ap (λ n. c -ℤ pos n) sizes

-- ---- what the code computes
pub cut-is : (i : Instance) (s : Square) (m : Pt) (ds : List DemandPt) (c u v l h r : ℤ) → 0 < s.level → m ≡ centre_of s → ds ≡ i.points
    → c ≡ sum_over (term_at s m) ds → u ≡ sum_over (λ d. (slope_of s d).x) ds → v ≡ sum_over (λ d. (slope_of s d).y) ds
    → h ≡ pos (2 ^ (s.level - 1)) → l ≡ c -ℤ h *ℤ pos (unsigned_abs u + unsigned_abs v) → r ≡ int_div_euclid l (pos 1048576) → r ≡ cut_of i s
unfolding cut_of
cut-is i s m ds c u v l h r above centre points ec eu ev eh el er =
    let f : ℤ → ℤ → ℤ → ℤ → ℤ = λ c h u v. c -ℤ h *ℤ pos (unsigned_abs u + unsigned_abs v) in
    er ∙ ap (λ l. int_div_euclid l (pos 1048576))
    (el ∙ ap (λ c. f c h u v) (ec ∙ ap (λ m. sum_over (term_at s m) ds) centre ∙ ap (sum_over (term_at s (centre_of s))) points)
    ∙ ap (λ h. f (sum_over (term_at s (centre_of s)) i.points) h u v) eh
    ∙ ap (λ u. f (sum_over (term_at s (centre_of s)) i.points) (pos (2 ^ (s.level - 1))) u v) (eu ∙ ap (sum_over (λ d. (slope_of s d).x)) points)
    ∙ ap (λ v. f (sum_over (term_at s (centre_of s)) i.points) (pos (2 ^ (s.level - 1))) (sum_over (λ d. (slope_of s d).x) i.points) v) (ev ∙ ap (sum_over (λ d. (slope_of s d).y)) points)
    ∙ sym (least-at_corners i s above))

pub cut_most : (c h l r : ℤ) (n : ℕ) → unsigned_abs c ≤ 16000000 * (1048576 * longest) → pos 0 ≤ℤ h → l ≡ c -ℤ h *ℤ pos n → r ≡ int_div_euclid l (pos 1048576)
    → r ≤ℤ pos (16000000 * longest)
cut_most c h l r n small least el er =
    let e = product_of_least h (pos n) least (omega (arith, ints)) in
    let f : l ≤ℤ pos (16000000 * (1048576 * longest)) = omega (arith, ints, e, el) in
    rw er (divided l f)
  where
    divided : (l : ℤ) → l ≤ℤ pos (16000000 * (1048576 * longest)) → (int_div_euclid l (pos 1048576)) ≤ℤ pos (16000000 * longest)
    divided (pos a) h = omega (arith, ints)
    divided (negsuc a) h = omega (arith, ints)
