-- The bits of a number, each at twice its place.
use Rattle.std.proofs.Common.{◌≡◌, ℕ, zero, suc, ◌+◌, ◌*◌, ◌/◌, ◌%◌, ◌^◌, ◌<◌, ◌==◌, Bool, true, ◌&&◌, List, [], ◌∷◌, length, get_or, refl, ◌∙◌, ap, arith}
use Rattle.std.proofs.Math.Nat.{pow-suc}
use Rattle.std.proofs.lemmas.Nat.{shr-shr, mod-pow-add}
use Rattle.std.proofs.lemmas.Bool.{and_parts, eqb-true}
use Rattle.dyadic_square.specs.Order.{spread}

pub spread-suc : (n a : ℕ) → spread (suc n) a ≡ 4 * spread n (a / 2) + a % 2
unfolding spread
spread-suc n a = refl

pub spread-zero : (a : ℕ) → spread 0 a ≡ 0
unfolding spread
spread-zero a = refl

-- the bits of a number that ends in k bits 0
pub spread-scaled : (k n a : ℕ) → spread (k + n) (a * 2 ^ k) ≡ 4 ^ k * spread n a
spread-scaled zero n a =
    let from : zero + n ≡ n = omega arith in
    let whole : a * 2 ^ zero ≡ a = omega arith in
    rw (from, whole) (omega arith)
spread-scaled (suc k) n a =
    let from : suc k + n ≡ suc (k + n) = omega arith in
    let twice : a * 2 ^ suc k ≡ 2 * (a * 2 ^ k) = rw (pow-suc 2 k) (omega arith) in
    let half : 2 * (a * 2 ^ k) / 2 ≡ a * 2 ^ k = omega arith in
    let even : 2 * (a * 2 ^ k) % 2 ≡ 0 = omega arith in
    rw (from, twice, spread-suc (k + n) (2 * (a * 2 ^ k)), half, even, pow-suc 4 k, spread-scaled k n a) (omega arith)

-- the last bit before the k bits 0
pub spread-last : (k n m a b : ℕ) → m ≡ k + suc n → b < 2 → spread m ((2 * a + b) * 2 ^ k) ≡ spread m (a * 2 ^ suc k) + 4 ^ k * b
spread-last k n m a b e h =
    let half : (2 * a + b) / 2 ≡ a = omega arith in
    let odd : (2 * a + b) % 2 ≡ b = omega arith in
    let with : spread (k + suc n) ((2 * a + b) * 2 ^ k) ≡ 4 ^ k * (4 * spread n a + b) =
    spread-scaled k (suc n) (2 * a + b) ∙ ap (λ v. 4 ^ k * v) (rw (spread-suc n (2 * a + b), half, odd) refl) in
    let as_suc : k + suc n ≡ suc k + n = omega arith in
    let without : spread (k + suc n) (a * 2 ^ suc k) ≡ 4 ^ suc k * spread n a = rw as_suc (spread-scaled (suc k) n a) in
    rw (e, with, without, pow-suc 4 k) (omega arith)

-- the bits of two parts
pub spread-parts : (m n a : ℕ) → spread (m + n) a ≡ 4 ^ m * spread n (a / 2 ^ m) + spread m (a % 2 ^ m)
spread-parts zero n a =
    let from : zero + n ≡ n = omega arith in
    let whole : a / 2 ^ zero ≡ a = omega arith in
    rw (from, whole, spread-zero (a % 2 ^ zero)) (omega arith)
spread-parts (suc m) n a =
    let from : suc m + n ≡ suc (m + n) = omega arith in
    let next : m + 1 ≡ suc m = omega arith in
    let other : 1 + m ≡ suc m = omega arith in
    let low : a % 2 ^ suc m ≡ (a / 2 % 2 ^ m) * 2 + a % 2 = rw next at (mod-pow-add a m 1) in
    let high : a / 2 / 2 ^ m ≡ a / 2 ^ suc m = rw other at (shr-shr a 1 m) in
    let half : (a % 2 ^ suc m) / 2 ≡ a / 2 % 2 ^ m = omega (arith, low) in
    let odd : (a % 2 ^ suc m) % 2 ≡ a % 2 = omega (arith, low) in
    rw (from, spread-suc (m + n) a, spread-suc m (a % 2 ^ suc m), half, odd, spread-parts m n (a / 2), high, pow-suc 4 m) (omega arith)

-- whether the numbers of a list are the bits of the bytes from k on
abbrev pub spreads_from : ℕ → List ℕ → Bool
spreads_from k [] = true
spreads_from k (v ∷ vs) = (v == spread 8 k) && spreads_from (suc k) vs

-- a table that was tested has the spread of each place
pub spread_at : (vs : List ℕ) (k i : ℕ) → spreads_from k vs ≡ true → i < length vs → get_or vs i 0 ≡ spread 8 (k + i)
spread_at [] k i s h = absurd (omega arith)
spread_at (v ∷ vs) k zero s h =
    let whole : k + zero ≡ k = omega arith in
    rw whole (eqb-true v (spread 8 k) (and_parts (v == spread 8 k) (spreads_from (suc k) vs) s).0)
spread_at (v ∷ vs) k (suc i) s h =
    let next : k + suc i ≡ suc k + i = omega arith in
    rw next (spread_at vs (suc k) i (and_parts (v == spread 8 k) (spreads_from (suc k) vs) s).1 (omega arith))

-- higher bits don't count
pub spread-low : (n a : ℕ) → spread n (a % 2 ^ n) ≡ spread n a
spread-low n a =
    let whole : n + 0 ≡ n = omega arith in
    let parts : spread n a ≡ 4 ^ n * spread 0 (a / 2 ^ n) + spread n (a % 2 ^ n) = rw whole at (spread-parts n 0 a) in
    let none = spread-zero (a / 2 ^ n) in
    let nothing : 4 ^ n * spread 0 (a / 2 ^ n) ≡ 4 ^ n * 0 = ap (λ v. 4 ^ n * v) none in
    omega (arith, parts, nothing)

-- and one of 256 that of each byte
pub spread_of_byte : (vs : List ℕ) (b : ℕ) → spreads_from 0 vs ≡ true → length vs ≡ 256 → b < 256 → get_or vs b 0 ≡ spread 8 b
spread_of_byte vs b s e h = let from : 0 + b ≡ b = omega arith in rw from at (spread_at vs 0 b s (omega arith))
