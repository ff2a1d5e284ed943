-- What the code computes of a radius is what the definitions say of it.
use Rattle.std.proofs.Common.{◌≡◌, ℕ, ◌+◌, ◌*◌, ◌/◌, ◌^◌, ◌≤◌, ℤ, pos, ◌≤ℤ◌, ◌<ℤ◌, Bool, true, false, not, cond, Option, None, Some, refl, sym, ap, ◌∙◌, w64, to_z, of_z, arith}
use mir.Syntax.{w128}
use Rattle.std.specs.Prelude.{unsigned_abs, int_lt, map}
use Rattle.std.proofs.Common.{FitsSigned}
use Rattle.std.proofs.lemmas.Int.{to_z-of_z}
use Rattle.siting_definitions.specs.Integer.{round_down, round_up}
use borrow.Author.Differences.{ints, same_in}
use Rattle.siting_definitions.specs.Root.{floor_root, ceil_root}
use Rattle.siting_definitions.specs.Point.{Place, Pt, point_of}
use Rattle.siting_definitions.specs.Instance.{DemandPt, Instance, place_of}
use Rattle.siting_definitions.specs.Cost.{distance2, total_of}
use Rattle.siting_definitions.specs.Square.{Square}
use Rattle.siting_definitions.specs.Bounds.{near2, far2, capped, coarse_radius, fine_radius, lower_radius, upper_radius, coarse_of, fine_of, lower_of, upper_of}
use Rattle.dist_bounds.specs.Limits.{longest}
use Rattle.siting_definitions.proofs.Integers.{int_lt-true, int_lt-false}
use Rattle.std.proofs.lemmas.Bool.{cond-true, cond-false}
use Rattle.root_enclosure.proofs.RootLemmas.{floor_root-finer, ceil_root-finer, floor_root-le-ceil_root, ceil_root-le}
use Rattle.objectives.proofs.BoundLemmas.{at_positive, at_negative}

-- ---- a weight that was tested
weight-passed : (w : ℤ) → unsigned_abs w ≤ 16000000 → to_z w64 (of_z w64 w) ≡ w
weight-passed w h = same_in _ _ (omega (arith, ints))

-- a test of a weight's sign, as the code makes it
pub attracts : (w : ℤ) → unsigned_abs w ≤ 16000000 → int_lt (pos 0) (to_z w64 (of_z w64 w)) ≡ true → pos 0 <ℤ w
attracts w small h = int_lt-true (pos 0) w (rw (weight-passed w small) at h)

-- where it fails
pub repels : (w : ℤ) → unsigned_abs w ≤ 16000000 → int_lt (pos 0) (to_z w64 (of_z w64 w)) ≡ false → w ≤ℤ pos 0
repels w small h = int_lt-false (pos 0) w (rw (weight-passed w small) at h)

-- ---- the radii, by the steps in which the code makes them
-- of the fine bound: b tells whether the point attracts
pub fine-by : (s : Square) (d : DemandPt) (a : Place) (m f r : ℕ) (b : Bool) → b ≡ int_lt (pos 0) d.w → a ≡ place_of d → m ≡ cond (not b) (far2 s a) (near2 s a) → f ≡ cond (not b) (ceil_root (m * 2 ^ 32)) (floor_root (m * 2 ^ 32)) → r ≡ capped d.cutoff (2 ^ 32) f → r ≡ fine_radius s d
unfolding fine_radius
fine-by s d a m f r true sign ea em ef er =
    er ∙ ap (capped d.cutoff (2 ^ 32)) (ef ∙ ap (λ n. floor_root (n * 2 ^ 32)) (em ∙ ap (near2 s) ea)) ∙ sym (cond-true _ _ _ (sym sign))
fine-by s d a m f r false sign ea em ef er =
    er ∙ ap (capped d.cutoff (2 ^ 32)) (ef ∙ ap (λ n. ceil_root (n * 2 ^ 32)) (em ∙ ap (far2 s) ea)) ∙ sym (cond-false _ _ _ (sym sign))

-- of a site's upper cost
pub upper-by : (z : Pt) (d : DemandPt) (m f r : ℕ) (b : Bool) → b ≡ int_lt (pos 0) d.w → m ≡ distance2 (place_of d) (point_of z) → f ≡ cond b (ceil_root (m * 2 ^ 32)) (floor_root (m * 2 ^ 32)) → r ≡ capped d.cutoff (2 ^ 32) f → r ≡ upper_radius z d
unfolding upper_radius
upper-by z d m f r true sign em ef er =
    er ∙ ap (capped d.cutoff (2 ^ 32)) (ef ∙ ap (λ n. ceil_root (n * 2 ^ 32)) em) ∙ sym (cond-true _ _ _ (sym sign))
upper-by z d m f r false sign em ef er =
    er ∙ ap (capped d.cutoff (2 ^ 32)) (ef ∙ ap (λ n. floor_root (n * 2 ^ 32)) em) ∙ sym (cond-false _ _ _ (sym sign))

-- a capped radius in grid units, rounded down and rounded up, is the radius in grid units, capped
capped-down : (o : Option ℤ) (f : ℕ) → capped o (2 ^ 32) f / 65536 ≡ capped o 65536 (f / 65536)
capped-down None f = refl
capped-down (Some k) f = omega arith

capped-up : (o : Option ℤ) (f : ℕ) → (capped o (2 ^ 32) f + 65535) / 65536 ≡ capped o 65536 ((f + 65535) / 65536)
capped-up None f = refl
capped-up (Some k) f = omega arith

-- of the coarse bound: the fine radius in grid units
pub coarse-by : (s : Square) (d : DemandPt) (f r : ℕ) (b : Bool) → b ≡ int_lt (pos 0) d.w → f ≡ fine_radius s d → r ≡ cond (not b) ((f + 65535) / 65536) (f / 65536) → r ≡ coarse_radius s d
unfolding coarse_radius fine_radius
coarse-by s d f r true sign ef er =
    let n = near2 s (place_of d) in
    let fine = ef ∙ cond-true _ _ _ (sym sign) in
    er ∙ ap (λ n. n / 65536) fine ∙ capped-down d.cutoff (floor_root (n * 2 ^ 32)) ∙ ap (capped d.cutoff 65536) (floor_root-finer n) ∙ sym (cond-true _ _ _ (sym sign))
coarse-by s d f r false sign ef er =
    let n = far2 s (place_of d) in
    let fine = ef ∙ cond-false _ _ _ (sym sign) in
    er ∙ ap (λ n. (n + 65535) / 65536) fine ∙ capped-up d.cutoff (ceil_root (n * 2 ^ 32)) ∙ ap (capped d.cutoff 65536) (ceil_root-finer n) ∙ sym (cond-false _ _ _ (sym sign))

-- ---- how great a root is
pub fine_ceil-small : (m r : ℕ) → m ≤ longest * longest → r ≡ ceil_root (m * 2 ^ 32) → r ≤ 65536 * longest
fine_ceil-small m r h e = rw e (ceil_root-le (m * 2 ^ 32) 31588352000000000 (omega arith))

pub fine_floor-small : (m r : ℕ) → m ≤ longest * longest → r ≡ floor_root (m * 2 ^ 32) → r ≤ 65536 * longest
fine_floor-small m r h e =
    rw e (omega (arith, floor_root-le-ceil_root (m * 2 ^ 32), ceil_root-le (m * 2 ^ 32) 31588352000000000 (omega arith)))

pub fine_root-small : (up : Bool) (m r : ℕ) → m ≤ longest * longest → r ≡ cond up (ceil_root (m * 2 ^ 32)) (floor_root (m * 2 ^ 32)) → r ≤ 65536 * longest
fine_root-small true m r h e = fine_ceil-small m r h e
fine_root-small false m r h e = fine_floor-small m r h e

-- ---- of a site, by the sign of the weight
-- of a site's lower cost, of a point that attracts
pub lower-attracting : (z : Pt) (d : DemandPt) (m f r : ℕ) → pos 0 <ℤ d.w → m ≡ distance2 (place_of d) (point_of z) → f ≡ floor_root (m * 2 ^ 32) → r ≡ capped d.cutoff (2 ^ 32) f → r ≡ lower_radius z d
unfolding lower_radius
lower-attracting z d m f r h em ef er =
    er ∙ ap (capped d.cutoff (2 ^ 32)) (ef ∙ ap (λ n. floor_root (n * 2 ^ 32)) em) ∙ sym (at_positive d _ _ h)

-- and of one that repels
pub lower-repelling : (z : Pt) (d : DemandPt) (m f r : ℕ) → d.w ≤ℤ pos 0 → m ≡ distance2 (place_of d) (point_of z) → f ≡ ceil_root (m * 2 ^ 32) → r ≡ capped d.cutoff (2 ^ 32) f → r ≡ lower_radius z d
unfolding lower_radius
lower-repelling z d m f r h em ef er =
    er ∙ ap (capped d.cutoff (2 ^ 32)) (ef ∙ ap (λ n. ceil_root (n * 2 ^ 32)) em) ∙ sym (at_negative d _ _ h)

-- of a site's upper cost, of a point that attracts
pub upper-attracting : (z : Pt) (d : DemandPt) (m f r : ℕ) → pos 0 <ℤ d.w → m ≡ distance2 (place_of d) (point_of z) → f ≡ ceil_root (m * 2 ^ 32) → r ≡ capped d.cutoff (2 ^ 32) f → r ≡ upper_radius z d
unfolding upper_radius
upper-attracting z d m f r h em ef er =
    er ∙ ap (capped d.cutoff (2 ^ 32)) (ef ∙ ap (λ n. ceil_root (n * 2 ^ 32)) em) ∙ sym (at_positive d _ _ h)

-- and of one that repels
pub upper-repelling : (z : Pt) (d : DemandPt) (m f r : ℕ) → d.w ≤ℤ pos 0 → m ≡ distance2 (place_of d) (point_of z) → f ≡ floor_root (m * 2 ^ 32) → r ≡ capped d.cutoff (2 ^ 32) f → r ≡ upper_radius z d
unfolding upper_radius
upper-repelling z d m f r h em ef er =
    er ∙ ap (capped d.cutoff (2 ^ 32)) (ef ∙ ap (λ n. floor_root (n * 2 ^ 32)) em) ∙ sym (at_negative d _ _ h)

-- ---- bounds and costs, by the totals of which the code makes them
twice-passed : (t : ℤ) → unsigned_abs t ≤ 16000000 * longest → to_z w64 (of_z w64 (to_z w128 (of_z w128 t))) ≡ t
twice-passed t h = same_in _ _ (omega (arith, ints))

-- the coarse bound
pub coarse-from : (i : Instance) (s : Square) (t : ℤ) → unsigned_abs t ≤ 16000000 * longest → t ≡ total_of i (map (coarse_radius s) i.points) → to_z w64 (of_z w64 (to_z w128 (of_z w128 t))) ≡ coarse_of i s
unfolding coarse_of
coarse-from i s t h e = twice-passed t h ∙ e

-- the fine bound
pub fine-from : (i : Instance) (s : Square) (t r : ℤ) → FitsSigned w128 t → FitsSigned w64 r → t ≡ total_of i (map (fine_radius s) i.points) → r ≡ round_down (to_z w128 (of_z w128 t)) → to_z w64 (of_z w64 r) ≡ fine_of i s
unfolding fine_of
fine-from i s t r f g et er = to_z-of_z w64 r g ∙ er ∙ ap round_down (to_z-of_z w128 t f ∙ et)

-- the lower cost
pub lower-from : (i : Instance) (z : Pt) (t r : ℤ) → FitsSigned w128 t → FitsSigned w64 r → t ≡ total_of i (map (lower_radius z) i.points) → r ≡ round_down (to_z w128 (of_z w128 t)) → to_z w64 (of_z w64 r) ≡ lower_of i z
unfolding lower_of
lower-from i z t r f g et er = to_z-of_z w64 r g ∙ er ∙ ap round_down (to_z-of_z w128 t f ∙ et)

-- the upper cost
pub upper-from : (i : Instance) (z : Pt) (t r : ℤ) → FitsSigned w128 t → FitsSigned w64 r → t ≡ total_of i (map (upper_radius z) i.points) → r ≡ round_up (to_z w128 (of_z w128 t)) → to_z w64 (of_z w64 r) ≡ upper_of i z
unfolding upper_of
upper-from i z t r f g et er = to_z-of_z w64 r g ∙ er ∙ ap round_up (to_z-of_z w128 t f ∙ et)
