-- Sums and products of integers, and powers of two.
use Rattle.std.proofs.Common.{◌≡◌, ℕ, zero, suc, ◌+◌, ◌-◌, ◌*◌, ◌^◌, ◌<◌, ◌≤◌, ℤ, pos, ◌+ℤ◌, ◌*ℤ◌, ap, sub-one, arith}
use Rattle.std.proofs.Math.Nat.{pow-suc, pow-le-pow_right}
use Rattle.std.proofs.lemmas.Int.{ints}
use borrow.Author.Differences.{same_in, sum_is_lem, product_is}

-- sums of an integer and naturals
pub plus_zero : (z : ℤ) → z +ℤ pos 0 ≡ z
plus_zero z = omega (arith, ints)

-- one after the other
pub plus_plus : (z : ℤ) (m n : ℕ) → (z +ℤ pos m) +ℤ pos n ≡ z +ℤ pos (m + n)
plus_plus z m n = omega (arith, ints)

-- and a multiple of one
pub times_plus : (q : ℕ) (z : ℤ) (n : ℕ) → pos q *ℤ (z +ℤ pos n) ≡ pos q *ℤ z +ℤ pos (q * n)
times_plus q z n =
    let sum = ap (λ m. q * m) (sum_is_lem z (pos n)) in
    same_in _ _ (omega (arith, ints, product_is (pos q) (z +ℤ pos n), product_is (pos q) z, sum_is_lem (pos q *ℤ z) (pos (q * n))))

-- a power of two is twice the one before
pub two_halves : (level : ℕ) → 0 < level → 2 ^ level ≡ 2 ^ (level - 1) + 2 ^ (level - 1)
two_halves zero h = absurd (omega arith)
two_halves (suc n) h = rw (pow-suc 2 n, sub-one) (omega arith)

-- the side of a square within the limits
pub pow_small : (level : ℕ) → level ≤ 37 → 2 ^ level ≤ 2 ^ 37
pow_small level small = pow-le-pow_right {n = 2} (omega arith) small
