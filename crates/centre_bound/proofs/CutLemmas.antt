-- The cut of a square, and so its centre bound, is a cost that no rational point of the closed square falls below.
use Rattle.std.proofs.Common.{◌≡◌, ℕ, ◌*◌, ◌^◌, ◌<◌, zero, suc, ℤ, pos, negsuc, ◌+ℤ◌, ◌*ℤ◌, ◌≤ℤ◌, ◌<ℤ◌, Bool, true, false, cond, map, refl, sym, ap, subst, ◌∙◌, arith}
use Rattle.std.specs.Prelude.{int_lt, int_le}
use Rattle.std.specs.Int.{int_max, int_min, int_div_euclid}
use Rattle.std.proofs.lemmas.Bool.{and_parts, cond-true, cond-false, false≢true, lt-ltb}
use Rattle.std.proofs.lemmas.Int.{clamps, by_lt_z}
use borrow.Author.Differences.{ints, same_in}
use Rattle.siting_definitions.specs.declared.Kind.{Kind}
use Rattle.siting_definitions.specs.declared.Kind.TheVariants.{Sum, Max}
use Rattle.siting_definitions.specs.Integer.{least}
use Rattle.siting_definitions.specs.Point.{Pt, Point}
use Rattle.siting_definitions.specs.Instance.{Instance}
use Rattle.siting_definitions.specs.Cost.{total_of, CostAtLeast}
use Rattle.siting_definitions.specs.Square.{Square, spans_closed, holds_closed, far_by, corners, centre_of}
use Rattle.siting_definitions.specs.Bounds.{fine_radius, fine_of}
use Rattle.siting_definitions.proofs.Integers.{mul_le_ℤ, mul_assoc_ℤ, int_lt-true, int_lt-false, int_le-true, le_refl_ℤ}
use Rattle.siting_definitions.proofs.CostLemmas.{low_radii_bound}
use Rattle.objectives.proofs.BoundLemmas.{fine_of-bounds, all_low}
use Rattle.centre_bound.specs.Cut.{is_straight, straight_way, straight_sum, other_sum, cut_of, has_cut, centre_bound_of}
use Rattle.centre_bound.specs.Terms.{sum_over, term_at, slope_of}
use Rattle.centre_bound.proofs.SumLemmas.{joined_sums, sum-terms, sums-le}
use Rattle.centre_bound.proofs.TermLemmas.{gap_on, low_radius, low_radius-low, term-le}

-- what all points add at z
pub sum_at-is : (i : Instance) (s : Square) (z : Pt) → straight_sum i s z +ℤ pos 16 *ℤ other_sum i s ≡ sum_over (term_at s z) i.points
unfolding term_at
sum_at-is i s z = joined_sums (straight_way (centre_of s) z) (λ d. pos (fine_radius s d)) is_straight i.points

-- ---- the corner at which the slopes gain nothing on the way to p
abbrev pub corner : Square → Bool → Bool → Pt
corner s right upper = record { x = s.x +ℤ pos (far_by right (2 ^ s.level)); y = s.y +ℤ pos (far_by upper (2 ^ s.level)) }

least_of_four : (a b c d : ℤ) (right upper : Bool) → int_min (int_min (int_min a b) c) d ≤ℤ cond upper (cond right d c) (cond right b a)
least_of_four a b c d true true = omega (arith, ints, clamps)
least_of_four a b c d false true = omega (arith, ints, clamps)
least_of_four a b c d true false = omega (arith, ints, clamps)
least_of_four a b c d false false = omega (arith, ints, clamps)

least-corner : (f : Pt → ℤ) (s : Square) (right upper : Bool) → (least (map f (corners s))) ≤ℤ (f (corner s right upper))
least-corner f s true true = least_of_four (f (corner s false false)) (f (corner s true false)) (f (corner s false true)) (f (corner s true true)) true true
least-corner f s false true = least_of_four (f (corner s false false)) (f (corner s true false)) (f (corner s false true)) (f (corner s true true)) false true
least-corner f s true false = least_of_four (f (corner s false false)) (f (corner s true false)) (f (corner s false true)) (f (corner s true true)) true false
least-corner f s false false = least_of_four (f (corner s false false)) (f (corner s true false)) (f (corner s false true)) (f (corner s true true)) false false

pub product_of_least : (u x : ℤ) → pos 0 ≤ℤ u → pos 0 ≤ℤ x → pos 0 ≤ℤ (u *ℤ x)
product_of_least (pos a) (pos b) h k = omega (arith, ints)
product_of_least (pos a) (negsuc b) h k = absurd (omega (arith, ints))
product_of_least (negsuc a) x h k = absurd (omega (arith, ints))

product_of_most : (u x : ℤ) → u <ℤ pos 0 → x ≤ℤ pos 0 → pos 0 ≤ℤ (u *ℤ x)
product_of_most (pos a) x h k = absurd (omega (arith, ints))
product_of_most (negsuc a) (pos zero) h k = omega (arith, ints)
product_of_most (negsuc a) (pos (suc b)) h k = absurd (omega (arith, ints))
product_of_most (negsuc a) (negsuc b) h k = omega (arith, ints)

gains : (u low v : ℤ) (len q : ℕ) → spans_closed low len q v ≡ true → pos 0 ≤ℤ (u *ℤ gap_on q v (low +ℤ pos (far_by (int_lt u (pos 0)) len)))
gains u low v len q h = by_test (int_lt u (pos 0)) refl
  where
    parts : (int_le (pos q *ℤ low) (pos 65536 *ℤ v) ≡ true) × (int_le (pos 65536 *ℤ v) (pos q *ℤ (low +ℤ pos len)) ≡ true)
    parts = and_parts (int_le (pos q *ℤ low) (pos 65536 *ℤ v)) (int_le (pos 65536 *ℤ v) (pos q *ℤ (low +ℤ pos len))) h

    by_test : (b : Bool) → int_lt u (pos 0) ≡ b → pos 0 ≤ℤ (u *ℤ gap_on q v (low +ℤ pos (far_by b len)))
    by_test true down = product_of_most u _ (int_lt-true u (pos 0) down) (let e = int_le-true (pos 65536 *ℤ v) (pos q *ℤ (low +ℤ pos len)) parts.1 in omega (arith, ints, e))
    by_test false up =
        let same : low +ℤ pos 0 ≡ low = same_in _ _ (omega (arith, ints)) in
        product_of_least u _ (int_lt-false u (pos 0) up) (rw same (let e = int_le-true (pos q *ℤ low) (pos 65536 *ℤ v) parts.0 in omega (arith, ints, e)))

-- ---- rounding
div_euclid-le : (z : ℤ) → (pos 1048576 *ℤ int_div_euclid z (pos 1048576)) ≤ℤ z
div_euclid-le (pos n) = omega (arith, ints)
div_euclid-le (negsuc n) = omega (arith, ints)

at_scale : (b l t : ℤ) (q : ℕ) → (pos 1048576 *ℤ b) ≤ℤ l → (l *ℤ pos q) ≤ℤ (pos 16 *ℤ t) → (b *ℤ pos (2 ^ 32 * q)) ≤ℤ (pos 65536 *ℤ t)
at_scale b l t q h k =
    let e : ((pos 1048576 *ℤ b) *ℤ pos q) ≤ℤ (l *ℤ pos q) = mul_le_ℤ (pos 1048576 *ℤ b) l q h in
    let f : (pos 1048576 *ℤ (b *ℤ pos q)) ≤ℤ (l *ℤ pos q) = rw (← mul_assoc_ℤ (pos 1048576) b (pos q)) e in
    omega (arith, ints, f, k)

-- ---- the theorem
below_corner : (f u v : ℤ) (l x y t : ℤ) (q : ℕ) → l ≤ℤ f → pos 0 ≤ℤ (u *ℤ x) → pos 0 ≤ℤ (v *ℤ y) → (f *ℤ pos q +ℤ (u *ℤ x +ℤ v *ℤ y)) ≤ℤ (pos 16 *ℤ t) → (l *ℤ pos q) ≤ℤ (pos 16 *ℤ t)
below_corner f u v l x y t q h right upper all = let e = mul_le_ℤ l f q h in omega (arith, ints, e, right, upper, all)

least_is_low : (i : Instance) (s : Square) (p : Point) → holds_closed s p ≡ true
    → ((least (map (straight_sum i s) (corners s)) +ℤ pos 16 *ℤ other_sum i s) *ℤ pos p.q) ≤ℤ (pos 16 *ℤ sum_over (λ d. d.w *ℤ pos (low_radius s p d)) i.points)
unfolding holds_closed
least_is_low i s p held =
    let sides = and_parts (spans_closed s.x (2 ^ s.level) p.q p.x) (spans_closed s.y (2 ^ s.level) p.q p.y) held in
    let u = sum_over (λ d. (slope_of s d).x) i.points in
    let v = sum_over (λ d. (slope_of s d).y) i.points in
    let z : Pt = corner s (int_lt u (pos 0)) (int_lt v (pos 0)) in
    let l = least (map (straight_sum i s) (corners s)) in
    let least : l ≤ℤ straight_sum i s z = least-corner (straight_sum i s) s (int_lt u (pos 0)) (int_lt v (pos 0)) in
    let all : straight_sum i s z +ℤ pos 16 *ℤ other_sum i s ≡ sum_over (term_at s z) i.points = sum_at-is i s z in
    let more : (l +ℤ pos 16 *ℤ other_sum i s) ≤ℤ (straight_sum i s z +ℤ pos 16 *ℤ other_sum i s) = raised l (straight_sum i s z) (pos 16 *ℤ other_sum i s) least in
    below_corner (sum_over (term_at s z) i.points) u v _ (gap_on p.q p.x z.x) (gap_on p.q p.y z.y) (sum_over (λ d. d.w *ℤ pos (low_radius s p d)) i.points) p.q
    (subst (λ f. (l +ℤ pos 16 *ℤ other_sum i s) ≤ℤ f) all more)
    (gains u s.x p.x (2 ^ s.level) p.q sides.0) (gains v s.y p.y (2 ^ s.level) p.q sides.1)
    (sums-le (term_at s z) (λ d. (slope_of s d).x) (λ d. (slope_of s d).y) (λ d. d.w *ℤ pos (low_radius s p d)) p.q (gap_on p.q p.x z.x) (gap_on p.q p.y z.y) i.points (term-le s p z))
  where
    raised : (a b c : ℤ) → a ≤ℤ b → (a +ℤ c) ≤ℤ (b +ℤ c)
    raised a b c h = omega (arith, ints)

cut_of-bounds : (i : Instance) (s : Square) (p : Point) → i.kind ≡ Sum → holds_closed s p ≡ true → CostAtLeast i p (cut_of i s)
unfolding cut_of total_of
cut_of-bounds i s p kind held =
    low_radii_bound i p (2 ^ 32) (map (low_radius s p) i.points) _ (omega arith) (all_low (low_radius s p) p (2 ^ 32) (low_radius-low s p held) i.points)
    (rw (kind, sum-terms (low_radius s p) i.points) (at_scale _ _ (sum_over (λ d. d.w *ℤ pos (low_radius s p d)) i.points) p.q (div_euclid-le _) (least_is_low i s p held)))

kind_of_cut : (k : Kind) (level : ℕ) → has_cut k level ≡ true → k ≡ Sum
kind_of_cut Sum level h = refl
kind_of_cut Max level h = absurd (false≢true h)

-- the greater of two numbers is one of them
greater_by : (P : ℤ → Type 0) (a b : ℤ) → P a → P b → P (int_max a b)
greater_by P a b pa pb =
    by_lt_z a b (λ less. let e : b ≡ int_max a b = same_in _ _ (omega (arith, ints, clamps)) in subst P e pb)
    (λ more. let e : a ≡ int_max a b = same_in _ _ (omega (arith, ints, clamps)) in subst P e pa)

pub centre_bound_of-bounds : (i : Instance) (s : Square) (p : Point) → holds_closed s p ≡ true → CostAtLeast i p (centre_bound_of i s)
unfolding centre_bound_of
centre_bound_of-bounds i s p held = by_test (has_cut i.kind s.level) refl
  where
    by_test : (b : Bool) → has_cut i.kind s.level ≡ b → CostAtLeast i p (cond b (int_max (fine_of i s) (cut_of i s)) (fine_of i s))
    by_test true cut = greater_by (λ b. CostAtLeast i p b) (fine_of i s) (cut_of i s) (fine_of-bounds i s p held) (cut_of-bounds i s p (kind_of_cut i.kind s.level cut) held)
    by_test false none = fine_of-bounds i s p held

pub fine_of-le : (i : Instance) (s : Square) → (fine_of i s) ≤ℤ (centre_bound_of i s)
unfolding centre_bound_of
fine_of-le i s = by_test (has_cut i.kind s.level)
  where
    by_test : (b : Bool) → (fine_of i s) ≤ℤ (cond b (int_max (fine_of i s) (cut_of i s)) (fine_of i s))
    by_test true = omega (arith, ints, clamps)
    by_test false = le_refl_ℤ (fine_of i s)

-- ---- what the code computes
pub bound_by_cut : (i : Instance) (s : Square) (fine cut r : ℤ) → Sum ≡ i.kind → 0 < s.level → fine ≡ fine_of i s → cut ≡ cut_of i s → r ≡ int_max fine cut
    → r ≡ centre_bound_of i s
unfolding centre_bound_of
bound_by_cut i s fine cut r kind above ef ec er =
    er ∙ ap (λ fine. int_max fine cut) ef ∙ ap (int_max (fine_of i s)) ec
    ∙ sym (cond-true (has_cut i.kind s.level) (int_max (fine_of i s) (cut_of i s)) (fine_of i s) (rw (← kind) (lt-ltb 0 s.level above)))

pub bound_of_max : (i : Instance) (s : Square) (fine : ℤ) → Max ≡ i.kind → fine ≡ fine_of i s → fine ≡ centre_bound_of i s
unfolding centre_bound_of
bound_of_max i s fine kind ef =
    ef ∙ sym (cond-false (has_cut i.kind s.level) (int_max (fine_of i s) (cut_of i s)) (fine_of i s) (rw (← kind) refl))

pub bound_at_floor : (i : Instance) (s : Square) (fine : ℤ) → s.level ≡ 0 → fine ≡ fine_of i s → fine ≡ centre_bound_of i s
unfolding centre_bound_of
bound_at_floor i s fine level ef =
    ef ∙ sym (cond-false (has_cut i.kind s.level) (int_max (fine_of i s) (cut_of i s)) (fine_of i s) (ap (has_cut i.kind) level ∙ none i.kind))
  where
    none : (k : Kind) → has_cut k 0 ≡ false
    none Sum = refl
    none Max = refl
