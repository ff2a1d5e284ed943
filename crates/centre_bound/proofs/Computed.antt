-- What the code computes of a point is what the definitions say of it.
use Rattle.std.proofs.Common.{◌≡◌, ℕ, ◌+◌, ◌*◌, ◌^◌, ◌≤◌, ◌<◌, ℤ, pos, ◌+ℤ◌, ◌-ℤ◌, ◌*ℤ◌, ◌≤ℤ◌, ◌<ℤ◌, Bool, true, false, not, refl, sym, ap, ◌∙◌, FitsSigned, List, take, length, get_or, to_z, of_z, arith}
use mir.Syntax.{w64, w128}
use Rattle.std.specs.Prelude.{unsigned_abs, is_some, sum_by}
use Rattle.std.proofs.Math.Nat.{mul-le-mul_left, mul-le-mul_right}
use Rattle.std.proofs.lemmas.Bool.{cond-true, cond-false}
use Rattle.std.proofs.lemmas.List.Sums.{sum_by_more, sum_by-take-le}
use Rattle.objectives.proofs.Sizes.{step_small}
use Rattle.std.proofs.lemmas.Int.{fits_signed_mul, fits_signed_from_abs, unsigned_abs-mul, to_z-of_z}
use Rattle.std.proofs.lemmas.Nat.{mul-le}
use borrow.Author.Differences.{ints}
use Rattle.siting_definitions.specs.Integer.{square_of}
use Rattle.siting_definitions.specs.Root.{ceil_root}
use Rattle.siting_definitions.specs.Point.{Place, Pt, point_of}
use Rattle.siting_definitions.specs.Instance.{DemandPt, place_of}
use Rattle.siting_definitions.specs.Cost.{distance2}
use Rattle.siting_definitions.specs.Square.{Square, centre_of}
use Rattle.siting_definitions.specs.Bounds.{fine_radius}
use Rattle.siting_definitions.proofs.Integers.{square_cancel_le, lt-int_lt, le-int_lt}
use Rattle.dist_bounds.specs.Limits.{longest, longest_way}
use Rattle.centre_bound.specs.declared.cut.Term.{Term}
use Rattle.centre_bound.specs.Cut.{Vector, dot, way_to, share, direction, is_straight, straight_way}
use Rattle.centre_bound.specs.Terms.{term_at, slope_of}
use Rattle.centre_bound.specs.Sizes.{IsSmall}
use Rattle.centre_bound.proofs.VectorLemmas.{direction_short, product_square}

-- ---- straight points
pub straight-attracting : (d : DemandPt) (b : Bool) → pos 0 <ℤ d.w → is_some d.cutoff ≡ not b → b ≡ is_straight d
unfolding is_straight
straight-attracting d b up e = rw (lt-int_lt (pos 0) d.w up) (not_not b ∙ ap not (sym e))
  where
    not_not : (b : Bool) → b ≡ not (not b)
    not_not true = refl
    not_not false = refl

pub straight-repelling : (d : DemandPt) (b : Bool) → d.w ≤ℤ pos 0 → b ≡ false → b ≡ is_straight d
unfolding is_straight
straight-repelling d b down e = rw (le-int_lt (pos 0) d.w down) e

-- ---- directions
pub short_x : (u v : ℤ) → square_of u + square_of v ≤ 1048576 * 1048576 → unsigned_abs u ≤ 1048576
short_x u v h = square_cancel_le (unsigned_abs u) 1048576 (omega arith)

pub short_y : (u v : ℤ) → square_of u + square_of v ≤ 1048576 * 1048576 → unsigned_abs v ≤ 1048576
short_y u v h = square_cancel_le (unsigned_abs v) 1048576 (omega arith)

pub product_fits : (u x : ℤ) → unsigned_abs u ≤ 1048576 → unsigned_abs x ≤ longest_way → FitsSigned w64 (u *ℤ x)
product_fits u x h k = fits_signed_mul w64 u x 1048576 longest_way h k (omega arith)

product_small : (u x : ℤ) → unsigned_abs u ≤ 1048576 → unsigned_abs x ≤ longest_way → unsigned_abs (u *ℤ x) ≤ 1048576 * longest_way
product_small u x h k = omega (arith, unsigned_abs-mul u x, mul-le (unsigned_abs u) (unsigned_abs x) 1048576 longest_way h k)

sum_fits : (a b : ℤ) → unsigned_abs a ≤ 1048576 * longest_way → unsigned_abs b ≤ 1048576 * longest_way → FitsSigned w64 (a +ℤ b)
sum_fits a b h k = omega (arith, ints)

-- the code's sum of two products
abbrev pub bits : ℤ → ℤ
bits z = to_z w64 (of_z w64 z)

pub products_fit : (u v x y : ℤ) → square_of u + square_of v ≤ 1048576 * 1048576 → unsigned_abs x ≤ longest_way → unsigned_abs y ≤ longest_way
    → FitsSigned w64 u → FitsSigned w64 v → FitsSigned w64 x → FitsSigned w64 y
    → FitsSigned w64 (bits (bits u *ℤ bits x) +ℤ bits (bits v *ℤ bits y))
products_fit u v x y short h k fu fv fx fy =
    let first : FitsSigned w64 (u *ℤ x) = product_fits u x (short_x u v short) h in
    let second : FitsSigned w64 (v *ℤ y) = product_fits v y (short_y u v short) k in
    simp to_z-of_z (sum_fits (u *ℤ x) (v *ℤ y) (product_small u x (short_x u v short) h) (product_small v y (short_y u v short) k))

pub products_is : (u v x y : ℤ) → square_of u + square_of v ≤ 1048576 * 1048576 → unsigned_abs x ≤ longest_way → unsigned_abs y ≤ longest_way
    → FitsSigned w64 u → FitsSigned w64 v → FitsSigned w64 x → FitsSigned w64 y
    → bits (bits (bits u *ℤ bits x) +ℤ bits (bits v *ℤ bits y)) ≡ u *ℤ x +ℤ v *ℤ y
products_is u v x y short h k fu fv fx fy =
    let first : FitsSigned w64 (u *ℤ x) = product_fits u x (short_x u v short) h in
    let second : FitsSigned w64 (v *ℤ y) = product_fits v y (short_y u v short) k in
    let sum : FitsSigned w64 (u *ℤ x +ℤ v *ℤ y) = sum_fits (u *ℤ x) (v *ℤ y) (product_small u x (short_x u v short) h) (product_small v y (short_y u v short) k) in
    simp to_z-of_z

pub direction-x : (a : Place) (z : Pt) (x r : ℤ) (m c : ℕ) → x ≡ (way_to a z).x → m ≡ distance2 a (point_of z) → c ≡ ceil_root m → r ≡ share x c → r ≡ (direction a z).x
unfolding direction
direction-x a z x r m c ex em ec er = er ∙ ap (λ x. share x c) ex ∙ ap (share (way_to a z).x) (ec ∙ ap ceil_root em)

pub direction-y : (a : Place) (z : Pt) (y r : ℤ) (m c : ℕ) → y ≡ (way_to a z).y → m ≡ distance2 a (point_of z) → c ≡ ceil_root m → r ≡ share y c → r ≡ (direction a z).y
unfolding direction
direction-y a z y r m c ey em ec er = er ∙ ap (λ y. share y c) ey ∙ ap (share (way_to a z).y) (ec ∙ ap ceil_root em)

-- ---- sizes
weighed_small : (w n : ℤ) (m : ℕ) → unsigned_abs n ≤ m → unsigned_abs (w *ℤ n) ≤ unsigned_abs w * m
weighed_small w n m h = let e : unsigned_abs w * unsigned_abs n ≤ unsigned_abs w * m = mul-le-mul_left (unsigned_abs w) h in omega (arith, e, unsigned_abs-mul w n)

along_small : (a : Place) (z : Pt) → distance2 a (point_of z) ≤ longest * longest → unsigned_abs (dot (direction a z) (way_to a z)) ≤ 1048576 * longest
unfolding distance2
along_small a z h =
    let e = product_square (direction a z).x (direction a z).y (way_to a z).x (way_to a z).y 1048576 (direction_short a z) in
    square_cancel_le (unsigned_abs (dot (direction a z) (way_to a z))) (1048576 * longest) (omega (arith, e, h))

pub straight_small : (a : Place) (z : Pt) (w : ℤ) (t : Term) → distance2 a (point_of z) ≤ longest * longest
    → t.at_centre ≡ w *ℤ dot (direction a z) (way_to a z) → t.right ≡ w *ℤ (direction a z).x → t.upper ≡ w *ℤ (direction a z).y → IsSmall t w
straight_small a z w t h at right upper = record {
  at_centre = rw at (weighed_small w (dot (direction a z) (way_to a z)) (1048576 * longest) (along_small a z h));
  right = rw right (weighed_small w (direction a z).x 1048576 (short_x (direction a z).x (direction a z).y (direction_short a z)));
  upper = rw upper (weighed_small w (direction a z).y 1048576 (short_y (direction a z).x (direction a z).y (direction_short a z)));
}

pub other_small : (w n : ℤ) (f : ℕ) (t : Term) → f ≤ 65536 * longest → n ≡ pos (16 * f) → t.at_centre ≡ w *ℤ n → t.right ≡ pos 0 → t.upper ≡ pos 0 → IsSmall t w
other_small w n f t h en at right upper = record {
  at_centre = rw (at, en) (weighed_small w (pos (16 * f)) (1048576 * longest) (omega arith));
  right = rw right (omega arith);
  upper = rw upper (omega arith);
}

pub small-mono : (t : Term) (u w : ℤ) → unsigned_abs u ≤ unsigned_abs w → IsSmall t u → IsSmall t w
small-mono t u w h small = record {
  at_centre = let e : unsigned_abs u * (1048576 * longest) ≤ unsigned_abs w * (1048576 * longest) = mul-le-mul_right (1048576 * longest) h in omega (arith, e, small.at_centre);
  right = omega (arith, small.right);
  upper = omega (arith, small.upper);
}

pub joined_small : (ds : List DemandPt) (i : ℕ) (d : DemandPt) (a b t : Term) → i < length ds → d ≡ get_or ds i d
    → IsSmall a (pos (sum_by (λ (d : DemandPt). unsigned_abs d.w) (take i ds))) → IsSmall b d.w
    → t.at_centre ≡ a.at_centre +ℤ b.at_centre → t.right ≡ a.right +ℤ b.right → t.upper ≡ a.upper +ℤ b.upper
    → IsSmall t (pos (sum_by (λ (d : DemandPt). unsigned_abs d.w) (take (i + 1) ds)))
joined_small ds i d a b t within at before here ec er eu =
    let size : DemandPt → ℕ = λ (d : DemandPt). unsigned_abs d.w in
    let more = sum_by_more size ds i d within ∙ ap (λ (d : DemandPt). sum_by size (take i ds) + size d) (sym at) in
    record {
      at_centre = step_small (unsigned_abs a.at_centre) (unsigned_abs t.at_centre) (sum_by size (take i ds)) (size d) (1048576 * longest) (1048576 * longest) (sum_by size (take (i + 1) ds)) before.at_centre (rw ec (summed (a.at_centre) (b.at_centre) _ here.at_centre)) (omega arith) more;
      right = step_small (unsigned_abs a.right) (unsigned_abs t.right) (sum_by size (take i ds)) (size d) 1048576 1048576 (sum_by size (take (i + 1) ds)) before.right (rw er (summed a.right b.right _ here.right)) (omega arith) more;
      upper = step_small (unsigned_abs a.upper) (unsigned_abs t.upper) (sum_by size (take i ds)) (size d) 1048576 1048576 (sum_by size (take (i + 1) ds)) before.upper (rw eu (summed a.upper b.upper _ here.upper)) (omega arith) more;
    }
  where
    summed : (x y : ℤ) (m : ℕ) → unsigned_abs y ≤ m → unsigned_abs (x +ℤ y) ≤ unsigned_abs x + m
    summed x y m h = omega (arith, ints)

pub small_in_all : (ds : List DemandPt) (i : ℕ) (t : Term) → sum_by (λ (d : DemandPt). unsigned_abs d.w) ds ≤ 16000000
    → IsSmall t (pos (sum_by (λ (d : DemandPt). unsigned_abs d.w) (take i ds))) → IsSmall t (pos 16000000)
small_in_all ds i t h small =
    let size : DemandPt → ℕ = λ (d : DemandPt). unsigned_abs d.w in
    let e : sum_by size (take i ds) ≤ sum_by size ds = sum_by-take-le size ds i in
    small-mono t (pos (sum_by size (take i ds))) (pos 16000000) (omega (arith, e, h)) small

-- ---- terms
pub weighed-along : (a : Place) (z : Pt) (w l x y p q r : ℤ) → FitsSigned w64 w → FitsSigned w64 l → r ≡ bits w *ℤ bits l
    → l ≡ x *ℤ p +ℤ y *ℤ q → x ≡ (direction a z).x → y ≡ (direction a z).y → p ≡ (way_to a z).x → q ≡ (way_to a z).y
    → r ≡ w *ℤ dot (direction a z) (way_to a z)
weighed-along a z w l x y p q r fw fl er el ex ey ep eq =
    er ∙ ap (λ w. w *ℤ bits l) (to_z-of_z w64 w fw) ∙ ap (λ l. w *ℤ l) (to_z-of_z w64 l fl ∙ el ∙ ap (λ x. x *ℤ p +ℤ y *ℤ q) ex ∙ ap (λ y. (direction a z).x *ℤ p +ℤ y *ℤ q) ey ∙ ap (λ p. (direction a z).x *ℤ p +ℤ (direction a z).y *ℤ q) ep ∙ ap (λ q. (direction a z).x *ℤ (way_to a z).x +ℤ (direction a z).y *ℤ q) eq)

pub weighed-is : (w n m r : ℤ) → FitsSigned w64 w → FitsSigned w64 n → r ≡ bits w *ℤ bits n → n ≡ m → r ≡ w *ℤ m
weighed-is w n m r fw fn er en = er ∙ ap (λ w. w *ℤ bits n) (to_z-of_z w64 w fw) ∙ ap (λ n. w *ℤ n) (to_z-of_z w64 n fn ∙ en)

pub slope_fits : (w n : ℤ) → FitsSigned w64 w → FitsSigned w64 n → unsigned_abs w ≤ 16000000 → unsigned_abs n ≤ 1048576 → bits (bits w *ℤ bits n) ≡ w *ℤ n
slope_fits w n fw fn h k =
    let product : FitsSigned w64 (w *ℤ n) = fits_signed_mul w64 w n 16000000 1048576 h k (omega arith) in
    simp to_z-of_z

pub term-straight : (s : Square) (z : Pt) (d : DemandPt) (a : Place) (w r : ℤ) → true ≡ is_straight d → z ≡ centre_of s → a ≡ place_of d → w ≡ d.w
    → r ≡ w *ℤ dot (direction a z) (way_to a z) → r ≡ term_at s z d
unfolding term_at straight_way
term-straight s z d a w r straight ez ea ew er =
    er ∙ ap (λ w. w *ℤ dot (direction a z) (way_to a z)) ew ∙ ap (λ a. d.w *ℤ dot (direction a z) (way_to a z)) ea
    ∙ ap (λ m. d.w *ℤ dot (direction (place_of d) m) (way_to (place_of d) z)) ez ∙ sym (ap (λ n. d.w *ℤ n) (cond-true _ _ _ (sym straight)))

pub slope-straight-x : (s : Square) (z : Pt) (d : DemandPt) (a : Place) (w r : ℤ) → true ≡ is_straight d → z ≡ centre_of s → a ≡ place_of d → w ≡ d.w
    → r ≡ w *ℤ (direction a z).x → r ≡ (slope_of s d).x
unfolding slope_of
slope-straight-x s z d a w r straight ez ea ew er =
    er ∙ ap (λ w. w *ℤ (direction a z).x) ew ∙ ap (λ a. d.w *ℤ (direction a z).x) ea ∙ ap (λ m. d.w *ℤ (direction (place_of d) m).x) ez
    ∙ sym (ap (λ (v : Vector). v.x) (cond-true _ _ _ (sym straight)))

pub slope-straight-y : (s : Square) (z : Pt) (d : DemandPt) (a : Place) (w r : ℤ) → true ≡ is_straight d → z ≡ centre_of s → a ≡ place_of d → w ≡ d.w
    → r ≡ w *ℤ (direction a z).y → r ≡ (slope_of s d).y
unfolding slope_of
slope-straight-y s z d a w r straight ez ea ew er =
    er ∙ ap (λ w. w *ℤ (direction a z).y) ew ∙ ap (λ a. d.w *ℤ (direction a z).y) ea ∙ ap (λ m. d.w *ℤ (direction (place_of d) m).y) ez
    ∙ sym (ap (λ (v : Vector). v.y) (cond-true _ _ _ (sym straight)))

pub term-other : (s : Square) (z : Pt) (d : DemandPt) (w n r : ℤ) (f : ℕ) → r ≡ w *ℤ n → false ≡ is_straight d → w ≡ d.w → f ≡ fine_radius s d → n ≡ pos (16 * f)
    → r ≡ term_at s z d
unfolding term_at
term-other s z d w n r f er other ew ef en =
    er ∙ ap (λ w. w *ℤ n) ew ∙ ap (λ n. d.w *ℤ n) (en ∙ ap (λ f. pos (16 * f)) ef) ∙ sym (ap (λ n. d.w *ℤ n) (cond-false _ _ _ (sym other)))

pub slope-other-x : (s : Square) (d : DemandPt) → false ≡ is_straight d → pos 0 ≡ (slope_of s d).x
unfolding slope_of
slope-other-x s d other = sym (ap (λ (v : Vector). v.x) (cond-false _ _ _ (sym other)))

pub slope-other-y : (s : Square) (d : DemandPt) → false ≡ is_straight d → pos 0 ≡ (slope_of s d).y
unfolding slope_of
slope-other-y s d other = sym (ap (λ (v : Vector). v.y) (cond-false _ _ _ (sym other)))

-- ---- the least at the corners
abbrev wide : ℤ → ℤ
wide z = to_z w128 (of_z w128 z)

pub least_value : (t : Term) (h x : ℤ) (m n : ℕ) → IsSmall t (pos 16000000) → FitsSigned w64 h → FitsSigned w64 t.right → FitsSigned w64 t.upper
    → m ≡ unsigned_abs (bits t.right) → n ≡ unsigned_abs (bits t.upper) → x ≡ bits h *ℤ pos (m + n) → unsigned_abs x ≤ 2 ^ 83
    → wide (wide t.at_centre -ℤ wide x) ≡ t.at_centre -ℤ h *ℤ pos (unsigned_abs t.right + unsigned_abs t.upper)
least_value t h x m n small fh fr fu em en ex short =
    let fc : FitsSigned w128 t.at_centre = fits_signed_from_abs w128 t.at_centre (omega (arith, small.at_centre)) in
    let fx : FitsSigned w128 x = fits_signed_from_abs w128 x (omega arith) in
    let fd : FitsSigned w128 (t.at_centre -ℤ x) = fits_signed_from_abs w128 (t.at_centre -ℤ x) (omega (arith, ints, small.at_centre)) in
    simp to_z-of_z
    (ap (λ x. t.at_centre -ℤ x)
    (ex ∙ ap (λ h. h *ℤ pos (m + n)) (to_z-of_z w64 h fh) ∙ ap (λ m. h *ℤ pos (m + n)) (em ∙ ap unsigned_abs (to_z-of_z w64 t.right fr))
    ∙ ap (λ n. h *ℤ pos (unsigned_abs t.right + n)) (en ∙ ap unsigned_abs (to_z-of_z w64 t.upper fu))))
