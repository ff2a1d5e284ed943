-- The ranks of a tree's squares rise strictly in preorder.
use Rattle.std.proofs.Common.{◌≡◌, ℕ, zero, suc, ◌+◌, ◌-◌, ◌*◌, ◌^◌, ◌<◌, ◌≤◌, ◌⊎◌, ◌↔◌, ⊎_elim, inl, inr, Bool, true, false, List, ◌++◌, map, ℤ, pos, ◌+ℤ◌, refl, ap, sub-one, arith}
use Rattle.std.specs.List.Sorted.{IsPermutation, IsNonDecreasingBy, IsStrictlyIncreasing}
use Rattle.std.proofs.Math.Nat.{pow-suc, one-le-pow}
use Rattle.std.proofs.lemmas.Int.{ints}
use Rattle.std.proofs.lemmas.Bool.{cases_order}
use Rattle.siting_definitions.specs.Square.{Square, quarter_of, is_right, is_upper, far_by}
use Rattle.siting_definitions.specs.Tree.{Tree, Leaf, Branch, Fits, TreeSquare, preorder}
use Rattle.dyadic_square.specs.Order.{spread, way_between, z_of, rank_of}
use Rattle.dyadic_square.proofs.Numbers.{two_halves}
use Rattle.dyadic_square.proofs.Bits.{spread-last}
use Rattle.dyadic_square.proofs.Bag.{Rising, Rising-append, Rising-within, increasing_from_Rising, sorted_same, totals_from_permutation}
use Rattle.dyadic_square.proofs.Trees.{same_tree_square, tree_square_decides}

-- s stands in a column and a row of squares of its level from the root's corner on
pub record IsAligned (root s : Square) : Type 0 where
  pub column : ℕ
  pub row : ℕ
  pub x : s.x ≡ root.x +ℤ pos (column * 2 ^ s.level)
  pub y : s.y ≡ root.y +ℤ pos (row * 2 ^ s.level)

pub aligned-refl : (root : Square) → IsAligned root root
aligned-refl root = record { column = 0; row = 0; x = omega (arith, ints); y = omega (arith, ints) }

-- the halves of a span that begins at a multiple of its length begin at multiples of theirs
half_begins : (from low : ℤ) (place level : ℕ) (far : Bool) → 0 < level → low ≡ from +ℤ pos (place * 2 ^ level) → low +ℤ pos (far_by far (2 ^ (level - 1))) ≡ from +ℤ pos ((2 * place + far_by far 1) * 2 ^ (level - 1))
half_begins from low place level true above e =
    let twice : place * 2 ^ level ≡ place * (2 ^ (level - 1) + 2 ^ (level - 1)) = ap (λ n. place * n) (two_halves level above) in
    omega (arith, ints)
half_begins from low place level false above e =
    let twice : place * 2 ^ level ≡ place * (2 ^ (level - 1) + 2 ^ (level - 1)) = ap (λ n. place * n) (two_halves level above) in
    omega (arith, ints)

-- the quarters of an aligned square are aligned
pub aligned-quarter : (root s : Square) (i : ℕ) → 0 < s.level → IsAligned root s → IsAligned root (quarter_of s i)
aligned-quarter root s i above a = record {
  column = 2 * a.column + far_by (is_right i) 1;
  row = 2 * a.row + far_by (is_upper i) 1;
  x = half_begins root.x s.x a.column s.level (is_right i) above a.x;
  y = half_begins root.y s.y a.row s.level (is_upper i) above a.y;
}

way_is : (from low : ℤ) (n : ℕ) → low ≡ from +ℤ pos n → way_between low from ≡ n
way_is from low n e = omega (arith, ints)

one_small : (far : Bool) → far_by far 1 < 2
one_small true = omega arith
one_small false = omega arith

-- the bits of the way to the half of a span
half_bits : (from low : ℤ) (place level : ℕ) (far : Bool) → 0 < level → level ≤ 37 → low ≡ from +ℤ pos (place * 2 ^ level) → spread 40 (way_between (low +ℤ pos (far_by far (2 ^ (level - 1)))) from) ≡ spread 40 (way_between low from) + 4 ^ (level - 1) * far_by far 1
half_bits from low place zero far above small e = absurd (omega arith)
half_bits from low place (suc n) far above small e =
    let one_less : suc n - 1 ≡ n = omega arith in
    let near = way_is from low (place * 2 ^ suc n) e in
    let beyond = way_is from (low +ℤ pos (far_by far (2 ^ (suc n - 1)))) ((2 * place + far_by far 1) * 2 ^ (suc n - 1)) (half_begins from low place (suc n) far above e) in
    rw (near, beyond, one_less) (spread-last n (39 - n) 40 place (far_by far 1) (omega arith) (one_small far))

pub z-quarter : (root s : Square) (i : ℕ) → 0 < s.level → s.level ≤ 37 → IsAligned root s → z_of root (quarter_of s i) ≡ z_of root s + 4 ^ (s.level - 1) * (far_by (is_right i) 1 + 2 * far_by (is_upper i) 1)
unfolding z_of
z-quarter root s i above small a =
    omega (arith, half_bits root.x s.x a.column s.level (is_right i) above small a.x, half_bits root.y s.y a.row s.level (is_upper i) above small a.y)

-- a rank, written out
pub rank_is : (root s : Square) → rank_of root s ≡ 64 * z_of root s + (63 - s.level)
unfolding rank_of
rank_is root s = refl

four_quarters : (level : ℕ) → 0 < level → 4 ^ level ≡ 4 * 4 ^ (level - 1)
four_quarters zero h = absurd (omega arith)
four_quarters (suc n) h = rw (pow-suc 4 n, sub-one) (omega arith)

-- the ranks of a tree of s rise from that of s on, below all that follow
pub ranks-rise : (t : Tree) (root s : Square) → s.level ≤ 37 → Fits t s.level → IsAligned root s → Rising (λ (q : TreeSquare). rank_of root q.square) (rank_of root s) (preorder t s) (64 * (z_of root s + 4 ^ s.level))
ranks-rise Leaf root s small fits a = (omega arith, omega (arith, rank_is root s, one-le-pow s.level 4 (omega arith)))
ranks-rise (Branch a b c d) root s small fits al =
    let n : TreeSquare → ℕ = λ q. rank_of root q.square in
    let q0 = quarter_of s 0 in
    let q1 = quarter_of s 1 in
    let q2 = quarter_of s 2 in
    let q3 = quarter_of s 3 in
    let step = 4 ^ (s.level - 1) in
    let lower : s.level - 1 ≤ 37 = omega arith in
    let all = four_quarters s.level fits.0 in
    let z0 : z_of root q0 ≡ z_of root s + step * 0 = z-quarter root s 0 fits.0 small al in
    let z1 : z_of root q1 ≡ z_of root s + step * 1 = z-quarter root s 1 fits.0 small al in
    let z2 : z_of root q2 ≡ z_of root s + step * 2 = z-quarter root s 2 fits.0 small al in
    let z3 : z_of root q3 ≡ z_of root s + step * 3 = z-quarter root s 3 fits.0 small al in
    let r0 = ranks-rise a root q0 lower fits.1 (aligned-quarter root s 0 fits.0 al) in
    let r1 = ranks-rise b root q1 lower fits.2 (aligned-quarter root s 1 fits.0 al) in
    let r2 = ranks-rise c root q2 lower fits.3 (aligned-quarter root s 2 fits.0 al) in
    let r3 = ranks-rise d root q3 lower fits.4 (aligned-quarter root s 3 fits.0 al) in
    let base = 64 * z_of root s in
    let m0 = Rising-within n (preorder a q0) (rank_of root q0) (64 * (z_of root q0 + step)) (rank_of root s + 1) (base + 64 * step) (omega (arith, rank_is root s, rank_is root q0)) (omega arith) r0 in
    let m1 = Rising-within n (preorder b q1) (rank_of root q1) (64 * (z_of root q1 + step)) (base + 64 * step) (base + 128 * step) (omega (arith, rank_is root q1)) (omega arith) r1 in
    let m2 = Rising-within n (preorder c q2) (rank_of root q2) (64 * (z_of root q2 + step)) (base + 128 * step) (base + 192 * step) (omega (arith, rank_is root q2)) (omega arith) r2 in
    let m3 = Rising-within n (preorder d q3) (rank_of root q3) (64 * (z_of root q3 + step)) (base + 192 * step) (64 * (z_of root s + 4 ^ s.level)) (omega (arith, rank_is root q3)) (omega arith) r3 in (
      omega arith,
      Rising-append n (preorder a q0) (preorder b q1 ++ (preorder c q2 ++ preorder d q3)) (rank_of root s + 1) (base + 64 * step) (64 * (z_of root s + 4 ^ s.level)) m0
          (Rising-append n (preorder b q1) (preorder c q2 ++ preorder d q3) (base + 64 * step) (base + 128 * step) (64 * (z_of root s + 4 ^ s.level)) m1
          (Rising-append n (preorder c q2) (preorder d q3) (base + 128 * step) (base + 192 * step) (64 * (z_of root s + 4 ^ s.level)) m2 m3)),
    )

-- the ranks of a tree's squares rise strictly in preorder
pub preorder-rises : (t : Tree) (root : Square) → root.level ≤ 37 → Fits t root.level → IsStrictlyIncreasing (map (λ (s : TreeSquare). rank_of root s.square) (preorder t root))
preorder-rises t root small fits =
    increasing_from_Rising (λ (s : TreeSquare). rank_of root s.square) (preorder t root) (rank_of root root) (64 * (z_of root root + 4 ^ root.level))
    (ranks-rise t root root small fits (aligned-refl root))

-- so that its squares, sorted by rank, are its preorder
pub sorted-preorder : (t : Tree) (root : Square) (sorted : List TreeSquare) → root.level ≤ 37 → Fits t root.level → IsPermutation sorted (preorder t root) → IsNonDecreasingBy (λ (s : TreeSquare). rank_of root s.square) sorted → sorted ≡ preorder t root
sorted-preorder t root sorted small fits p up =
    sorted_same same_tree_square tree_square_decides (λ (s : TreeSquare). rank_of root s.square) sorted (preorder t root) (rank_of root root) (64 * (z_of root root + 4 ^ root.level))
    (totals_from_permutation sorted (preorder t root) p) up (ranks-rise t root root small fits (aligned-refl root))

-- the order of ranks is that of z, and of two squares with one z the larger comes first
pub rank_order : (root a b : Square) → a.level ≤ 37 → b.level ≤ 37 → (rank_of root a < rank_of root b) ↔ ((z_of root a < z_of root b) ⊎ ((z_of root a ≡ z_of root b) × (b.level < a.level)))
rank_order root a b small_a small_b =
    let ra = rank_is root a in
    let rb = rank_is root b in (
      λ less.
          ⊎_elim (λ (e : z_of root a ≡ z_of root b). inr (e, omega arith))
          (λ (differ : (z_of root a < z_of root b) ⊎ (z_of root b < z_of root a)).
          ⊎_elim (λ (l : z_of root a < z_of root b). inl l) (λ (g : z_of root b < z_of root a). absurd (omega arith)) differ)
          (cases_order (z_of root a) (z_of root b)),
      λ order.
          ⊎_elim (λ (l : z_of root a < z_of root b). omega arith)
          (λ (tie : (z_of root a ≡ z_of root b) × (b.level < a.level)). omega (arith, tie.0, tie.1)) order,
    )
