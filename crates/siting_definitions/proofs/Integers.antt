-- Identities and inequalities of whole numbers. `diff a b` is a - b for two naturals; `simp diffs` turns a polynomial over
-- such differences into one difference of naturals, on which `omega` decides.
use Rattle.std.proofs.lemmas.Int.{by_lt_z, clamps}
use Rattle.std.proofs.lemmas.Bool.{cases_lt}
use Rattle.std.proofs.Common.{⊎_elim, sym, ◌≡◌, ℕ, ◌+◌, ◌-◌, ◌*◌, ◌≤◌, ◌<◌, ℤ, pos, negsuc, ◌+ℤ◌, ◌-ℤ◌, ◌*ℤ◌, neg_ℤ, ◌≤ℤ◌, ◌<ℤ◌, ap, arith}
use Rattle.std.proofs.Math.Nat.{mul-le-mul_left}
use borrow.Author.Differences.{up, down, same_in, sum_is_lem, neg_is, product_is, at_most_in, below_in, le_out, lt_out, ints, true_is_le, false_is_le, true_is_lt, false_is_lt}
use Rattle.std.specs.Prelude.{int_le, int_lt, unsigned_abs, true, false}
use Rattle.std.specs.Int.{int_min}

-- the difference of two naturals, as a whole number
pub diff : ℕ → ℕ → ℤ
diff a b = pos a -ℤ pos b

-- the positive and the negative part of a difference
pub diff-parts : (a b : ℕ) → up (diff a b) + b ≡ down (diff a b) + a
unfolding diff
diff-parts a b = omega (arith, sum_is_lem (pos a) (neg_ℤ (pos b)), neg_is (pos b))

-- two differences are equal where the crosswise sums are
pub diff-eq : (a b c d : ℕ) → a + d ≡ c + b → diff a b ≡ diff c d
diff-eq a b c d e = same_in _ _ (omega (arith, diff-parts a b, diff-parts c d))

-- each whole number is the difference of its parts
pub as_diff : (z : ℤ) → z ≡ diff (up z) (down z)
as_diff z = same_in _ _ (omega (arith, diff-parts (up z) (down z)))

-- a natural as a difference
pub pos-diff : (n : ℕ) → pos n ≡ diff n 0
pos-diff n = same_in _ _ (omega (arith, diff-parts n 0))

pub diff-neg : (a b : ℕ) → neg_ℤ (diff a b) ≡ diff b a
diff-neg a b = same_in _ _ (omega (arith, diff-parts a b, diff-parts b a, neg_is (diff a b)))

pub diff-add : (a b c d : ℕ) → diff a b +ℤ diff c d ≡ diff (a + c) (b + d)
diff-add a b c d =
    same_in _ _ (omega (arith, diff-parts a b, diff-parts c d, diff-parts (a + c) (b + d), sum_is_lem (diff a b) (diff c d)))

pub diff-minus : (a b c d : ℕ) → diff a b -ℤ diff c d ≡ diff (a + d) (b + c)
diff-minus a b c d =
    same_in _ _
    (omega (arith, diff-parts a b, diff-parts c d, diff-parts (a + d) (b + c), sum_is_lem (diff a b) (neg_ℤ (diff c d)), neg_is (diff c d)))

-- the product of two differences
pub diff-mul : (a b c d : ℕ) → diff a b *ℤ diff c d ≡ diff (a * c + b * d) (a * d + b * c)
diff-mul a b c d =
    let x = up (diff a b) in
    let x' = down (diff a b) in
    let y = up (diff c d) in
    let y' = down (diff c d) in
    let e1 : (x + b) * y ≡ (x' + a) * y = ap (λ n. n * y) (diff-parts a b) in
    let e2 : (x + b) * y' ≡ (x' + a) * y' = ap (λ n. n * y') (diff-parts a b) in
    let e3 : a * (y + d) ≡ a * (y' + c) = ap (λ n. a * n) (diff-parts c d) in
    let e4 : b * (y + d) ≡ b * (y' + c) = ap (λ n. b * n) (diff-parts c d) in
    same_in _ _ (omega (arith, e1, e2, e3, e4, diff-parts (a * c + b * d) (a * d + b * c), product_is (diff a b) (diff c d)))

-- a polynomial over differences as one difference
pub ruleset diffs = (diff-add, diff-minus, diff-neg, diff-mul)

-- two differences in order, by the crosswise sums
pub diff-lt : (a b c d : ℕ) → a + d < c + b → diff a b <ℤ diff c d
diff-lt a b c d h = below_in _ _ (omega (arith, diff-parts a b, diff-parts c d))

-- ---- products
mul_add-diff : (a a' b b' c c' : ℕ) → diff a a' *ℤ (diff b b' +ℤ diff c c') ≡ diff a a' *ℤ diff b b' +ℤ diff a a' *ℤ diff c c'
mul_add-diff a a' b b' c c' = simp diffs (diff-eq _ _ _ _ (omega arith))

-- products of whole numbers of any signs: over a sum and a difference, associative, commutative
pub mul_add_ℤ : (a b c : ℤ) → a *ℤ (b +ℤ c) ≡ a *ℤ b +ℤ a *ℤ c
mul_add_ℤ a b c = rw (as_diff a, as_diff b, as_diff c) (mul_add-diff (up a) (down a) (up b) (down b) (up c) (down c))

mul_minus-diff : (a a' b b' c c' : ℕ) → diff a a' *ℤ (diff b b' -ℤ diff c c') ≡ diff a a' *ℤ diff b b' -ℤ diff a a' *ℤ diff c c'
mul_minus-diff a a' b b' c c' = simp diffs (diff-eq _ _ _ _ (omega arith))

pub mul_minus_ℤ : (a b c : ℤ) → a *ℤ (b -ℤ c) ≡ a *ℤ b -ℤ a *ℤ c
mul_minus_ℤ a b c = rw (as_diff a, as_diff b, as_diff c) (mul_minus-diff (up a) (down a) (up b) (down b) (up c) (down c))

mul_assoc-diff : (a a' b b' c c' : ℕ) → (diff a a' *ℤ diff b b') *ℤ diff c c' ≡ diff a a' *ℤ (diff b b' *ℤ diff c c')
mul_assoc-diff a a' b b' c c' = simp diffs (diff-eq _ _ _ _ (omega arith))

pub mul_assoc_ℤ : (a b c : ℤ) → (a *ℤ b) *ℤ c ≡ a *ℤ (b *ℤ c)
mul_assoc_ℤ a b c = rw (as_diff a, as_diff b, as_diff c) (mul_assoc-diff (up a) (down a) (up b) (down b) (up c) (down c))

mul_comm-diff : (a a' b b' : ℕ) → diff a a' *ℤ diff b b' ≡ diff b b' *ℤ diff a a'
mul_comm-diff a a' b b' = simp diffs (diff-eq _ _ _ _ (omega arith))

pub mul_comm_ℤ : (a b : ℤ) → a *ℤ b ≡ b *ℤ a
mul_comm_ℤ a b = rw (as_diff a, as_diff b) (mul_comm-diff (up a) (down a) (up b) (down b))

pub add_mul_ℤ : (a b c : ℤ) → (a +ℤ b) *ℤ c ≡ a *ℤ c +ℤ b *ℤ c
add_mul_ℤ a b c = rw (mul_comm_ℤ (a +ℤ b) c, mul_comm_ℤ a c, mul_comm_ℤ b c) (mul_add_ℤ c a b)

neg_mul-diff : (a a' b b' : ℕ) → neg_ℤ (diff a a') *ℤ diff b b' ≡ neg_ℤ (diff a a' *ℤ diff b b')
neg_mul-diff a a' b b' = simp diffs (diff-eq _ _ _ _ (omega arith))

-- the sign of a factor is that of the product
pub neg_mul_ℤ : (a b : ℤ) → neg_ℤ a *ℤ b ≡ neg_ℤ (a *ℤ b)
neg_mul_ℤ a b = rw (as_diff a, as_diff b) (neg_mul-diff (up a) (down a) (up b) (down b))

-- ---- order
pub le_refl_ℤ : (a : ℤ) → a ≤ℤ a
le_refl_ℤ a = omega (arith, ints)

pub le_trans_ℤ : (a b c : ℤ) → a ≤ℤ b → b ≤ℤ c → a ≤ℤ c
le_trans_ℤ a b c h k = omega (arith, ints)

pub le_lt_trans_ℤ : (a b c : ℤ) → a ≤ℤ b → b <ℤ c → a <ℤ c
le_lt_trans_ℤ a b c h k = omega (arith, ints)

-- an order times a natural
pub mul_le_ℤ : (a b : ℤ) (n : ℕ) → a ≤ℤ b → (a *ℤ pos n) ≤ℤ (b *ℤ pos n)
mul_le_ℤ a b n h =
    let e : n * (up a + down b) ≤ n * (up b + down a) = mul-le-mul_left n (le_out a b h) in
    at_most_in _ _ (omega (arith, e, product_is a (pos n), product_is b (pos n)))

-- the same, with the natural on the left
pub scale_le_ℤ : (n : ℕ) (a b : ℤ) → a ≤ℤ b → (pos n *ℤ a) ≤ℤ (pos n *ℤ b)
scale_le_ℤ n a b h =
    let e : (a *ℤ pos n) ≤ℤ (b *ℤ pos n) = mul_le_ℤ a b n h in
    omega (arith, ints, e, mul_comm_ℤ (pos n) a, mul_comm_ℤ (pos n) b)

-- a strict order times a natural above 0
pub mul_lt_ℤ : (a b : ℤ) (n : ℕ) → 1 ≤ n → a <ℤ b → (a *ℤ pos n) <ℤ (b *ℤ pos n)
mul_lt_ℤ a b n one h =
    let e : n * (up a + down b + 1) ≤ n * (up b + down a) = mul-le-mul_left n (omega (arith, lt_out a b h)) in
    below_in _ _ (omega (arith, e, product_is a (pos n), product_is b (pos n)))

-- the product of two numbers above 0 is above 0
pub mul_above_ℤ : (a b : ℤ) → pos 0 <ℤ a → pos 0 <ℤ b → pos 0 <ℤ (a *ℤ b)
mul_above_ℤ a (pos n) h k =
    let e : (pos 0 *ℤ pos n) <ℤ (a *ℤ pos n) = mul_lt_ℤ (pos 0) a n (omega (arith, ints)) h in omega (arith, ints, e)
mul_above_ℤ a (negsuc n) h k = absurd (omega (arith, ints))

-- a natural above 0 on both sides of an order may be dropped
pub le_of_mul_le_ℤ : (a b : ℤ) (n : ℕ) → 1 ≤ n → (a *ℤ pos n) ≤ℤ (b *ℤ pos n) → a ≤ℤ b
le_of_mul_le_ℤ a b n one h =
    by_lt_z b a (λ less. let more : (b *ℤ pos n) <ℤ (a *ℤ pos n) = mul_lt_ℤ b a n one less in absurd (omega (arith, ints))) (λ le. le)

-- squares of naturals keep the order, both ways
pub square_le : (m n : ℕ) → m ≤ n → m * m ≤ n * n
square_le m n h = omega (arith, mul-le-mul_left m h, mul-le-mul_left n h)

pub square_cancel_le : (m n : ℕ) → m * m ≤ n * n → m ≤ n
square_cancel_le m n h =
    ⊎_elim (λ less. let more : (n + 1) * (n + 1) ≤ m * m = square_le (n + 1) m (omega arith) in absurd (omega arith)) (λ le. le) (cases_lt n m)

-- twice a product is at most the sum of both squares
twice-ordered : (m n : ℕ) → m ≤ n → 2 * (m * n) ≤ m * m + n * n
twice-ordered m n h = let k = n - m in let e : n ≡ m + k = omega arith in rw e (omega arith)

pub twice-product : (m n : ℕ) → 2 * (m * n) ≤ m * m + n * n
twice-product m n =
    ⊎_elim (λ less. twice-ordered m n (omega arith)) (λ more. let e = twice-ordered n m more in omega (arith, e)) (cases_lt m n)

-- ---- the size of a number
-- the size of a number of at least 0 is the number
pub size_of_nonneg : (z : ℤ) → pos 0 ≤ℤ z → pos (unsigned_abs z) ≡ z
size_of_nonneg z h = same_in _ _ (omega (arith, ints))

-- a number of at least n has a size of at least n
pub le_size : (n : ℕ) (z : ℤ) → pos n ≤ℤ z → n ≤ unsigned_abs z
le_size n z h = omega (arith, ints)

-- ---- what a test means
pub int_le-true : (a b : ℤ) → int_le a b ≡ true → a ≤ℤ b
int_le-true a b h = omega (arith, ints)

pub int_le-false : (a b : ℤ) → int_le a b ≡ false → b <ℤ a
int_le-false a b h = omega (arith, ints)

pub int_lt-true : (a b : ℤ) → int_lt a b ≡ true → a <ℤ b
int_lt-true a b h = omega (arith, ints)

pub int_lt-false : (a b : ℤ) → int_lt a b ≡ false → b ≤ℤ a
int_lt-false a b h = omega (arith, ints)

pub le-int_le : (a b : ℤ) → a ≤ℤ b → int_le a b ≡ true
le-int_le a b h = sym (true_is_le a b (le_out a b h))

pub lt-int_le : (a b : ℤ) → b <ℤ a → int_le a b ≡ false
lt-int_le a b h = sym (false_is_le a b (lt_out b a h))

pub lt-int_lt : (a b : ℤ) → a <ℤ b → int_lt a b ≡ true
lt-int_lt a b h = sym (true_is_lt a b (lt_out a b h))

pub le-int_lt : (a b : ℤ) → b ≤ℤ a → int_lt a b ≡ false
le-int_lt a b h = sym (false_is_lt a b (le_out b a h))

-- ---- the lesser of two
pub int_min-assoc : (a b c : ℤ) → int_min (int_min a b) c ≡ int_min a (int_min b c)
int_min-assoc a b c = same_in _ _ (omega (arith, ints, clamps))
