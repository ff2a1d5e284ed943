-- Whole square roots: they exist, they are the only ones, and how they grow.
use Rattle.std.proofs.Common.{◌≡◌, ℕ, zero, suc, ◌+◌, ◌*◌, ◌/◌, ◌^◌, ◌<◌, ◌≤◌, Bool, true, false, cond, ◌&&◌, eqb, ltb, leb, refl, add-zero, arith, ⊎_elim}
use Rattle.std.proofs.lemmas.Bool.{cases_lt}
use mir.Val.{bool_byte}
use borrow.Author.Tests.{eqb-true, eqb-false, ltb-true, ltb-false}
use lib.Dec.{leb→le, nleb→lt}
use Rattle.siting_definitions.specs.Root.{IsFloorRoot, IsCeilRoot, root_of_digits, floor_root, ceil_root}
use Rattle.siting_definitions.proofs.Integers.{square_le, square_cancel_le}
use Rattle.std.specs.Float.Ieee.{size}
use lib.Ieee.Digits.{size-lt}

-- ---- squares

-- the lesser square has the lesser root
pub lt-of-squares : (a b : ℕ) → a * a < b * b → a < b
lt-of-squares a b h = ⊎_elim (λ l. l) (λ g. let back = square_le b a g in omega arith) (cases_lt a b)

-- ---- the root, rounded down

digit : (r m : ℕ) (b : Bool) → IsFloorRoot (m / 4) r → leb ((2 * r + 1) * (2 * r + 1)) m ≡ b → IsFloorRoot m (cond b (2 * r + 1) (2 * r))
digit r m true h e = record { at_most = leb→le _ _ (rw e tt); next_above = omega (arith, h.next_above) }
digit r m false h e = record { at_most = omega (arith, h.at_most); next_above = nleb→lt _ _ (rw e tt) }

digits : (n m : ℕ) → m < 2 ^ n → IsFloorRoot m (root_of_digits n m)
unfolding root_of_digits
digits zero m h = record { at_most = omega arith; next_above = omega arith }
digits (suc n) m h = digit (root_of_digits n (m / 4)) m _ (digits n (m / 4) (omega arith)) refl

-- every number has a root
pub floor_root-is : (m : ℕ) → IsFloorRoot m (floor_root m)
unfolding floor_root
floor_root-is m = digits (size m) m (size-lt m)

-- two roots of one number are the same
pub floor_roots_agree : (m f g : ℕ) → IsFloorRoot m f → IsFloorRoot m g → f ≡ g
floor_roots_agree m f g hf hg =
    let one : f < g + 1 = lt-of-squares f (g + 1) (omega (arith, hf.at_most, hg.next_above)) in
    let two : g < f + 1 = lt-of-squares g (f + 1) (omega (arith, hg.at_most, hf.next_above)) in
    omega arith

-- it is the only one
pub floor_root-unique : (m f : ℕ) → IsFloorRoot m f → f ≡ floor_root m
floor_root-unique m f h = floor_roots_agree m f (floor_root m) h (floor_root-is m)

-- a number whose square is not above m is not above the root
pub le-floor_root : (m f : ℕ) → f * f ≤ m → f ≤ floor_root m
le-floor_root m f h =
    let above = (floor_root-is m).next_above in
    let l : f < floor_root m + 1 = lt-of-squares f (floor_root m + 1) (omega arith) in
    omega arith

-- a number whose square is above m is above the root
pub floor_root-lt : (m c : ℕ) → m < c * c → floor_root m < c
floor_root-lt m c h =
    let below = (floor_root-is m).at_most in
    lt-of-squares (floor_root m) c (omega arith)

-- a greater number has no lesser root
pub floor_root-mono : (m n : ℕ) → m ≤ n → floor_root m ≤ floor_root n
floor_root-mono m n h =
    let below = (floor_root-is m).at_most in
    le-floor_root n (floor_root m) (omega arith)

-- ---- the root, rounded up

exact : (m f : ℕ) → m ≤ f * f → f * f ≤ m → IsCeilRoot m f
exact m f l g = record { at_least = l; least = λ d h. square_cancel_le f d (omega arith) }

next : (m f : ℕ) → f * f < m → m < (f + 1) * (f + 1) → IsCeilRoot m (f + 1)
next m f l g = record { at_least = omega arith; least = λ d h. let above : f < d = lt-of-squares f d (omega arith) in omega arith }

by_equality : (m f : ℕ) (b : Bool) → IsFloorRoot m f → eqb (f * f) m ≡ b → IsCeilRoot m (cond b f (f + 1))
by_equality m f true h e = exact m f (let same : f * f ≡ m = eqb-true (f * f) m e in omega arith) h.at_most
by_equality m f false h e = next m f (let other : f * f ≡ m → ⊥ = eqb-false (f * f) m e in omega (arith, h.at_most)) h.next_above

by_rest : (m f rest : ℕ) (b : Bool) → IsFloorRoot m f → f * f + rest ≡ m → ltb 0 rest ≡ b → IsCeilRoot m (f + bool_byte b)
by_rest m f rest true h e t = let some : 0 < rest = ltb-true 0 rest t in next m f (omega arith) h.next_above
by_rest m f rest false h e t = let none : rest ≤ 0 = ltb-false 0 rest t in simp add-zero (exact m f (omega arith) h.at_most)

-- the root rounded down, and one more where something is left of m
pub ceil_root-from_rest : (m f rest : ℕ) → IsFloorRoot m f → f * f + rest ≡ m → IsCeilRoot m (f + bool_byte (ltb 0 rest))
ceil_root-from_rest m f rest h e = by_rest m f rest _ h e refl

-- every number has a root
pub ceil_root-is : (m : ℕ) → IsCeilRoot m (ceil_root m)
unfolding ceil_root
ceil_root-is m = by_equality m (floor_root m) _ (floor_root-is m) refl

-- two roots of one number are the same
pub ceil_roots_agree : (m c d : ℕ) → IsCeilRoot m c → IsCeilRoot m d → c ≡ d
ceil_roots_agree m c d hc hd =
    let one : c ≤ d = hc.least d hd.at_least in
    let two : d ≤ c = hd.least c hc.at_least in
    omega arith

-- it is the only one
pub ceil_root-unique : (m c : ℕ) → IsCeilRoot m c → c ≡ ceil_root m
ceil_root-unique m c h = ceil_roots_agree m c (ceil_root m) h (ceil_root-is m)

-- the root rounded up or down, and one more where something is left of m and it is to be rounded up
pub rounded : (m f rest : ℕ) (up : Bool) → IsFloorRoot m f → f * f + rest ≡ m → f + bool_byte (up && ltb 0 rest) ≡ cond up (ceil_root m) (floor_root m)
rounded m f rest true h e = ceil_root-unique m _ (ceil_root-from_rest m f rest h e)
rounded m f rest false h e = simp add-zero (floor_root-unique m f h)

-- a number whose square is not below m is not below the root
pub ceil_root-le : (m c : ℕ) → m ≤ c * c → ceil_root m ≤ c
ceil_root-le m c h = (ceil_root-is m).least c h

-- a greater number has no lesser root
pub ceil_root-mono : (m n : ℕ) → m ≤ n → ceil_root m ≤ ceil_root n
ceil_root-mono m n h =
    let least = (ceil_root-is n).at_least in
    ceil_root-le m (ceil_root n) (omega arith)

-- ---- both
-- the root rounded down is at most the one rounded up
pub floor_root-le-ceil_root : (m : ℕ) → floor_root m ≤ ceil_root m
floor_root-le-ceil_root m =
    let below = (floor_root-is m).at_most in
    let least = (ceil_root-is m).at_least in
    square_cancel_le (floor_root m) (ceil_root m) (omega arith)

-- which is at most one greater
pub ceil_root-le-floor_root : (m : ℕ) → ceil_root m ≤ floor_root m + 1
ceil_root-le-floor_root m =
    let above = (floor_root-is m).next_above in
    ceil_root-le m (floor_root m + 1) (omega arith)

-- ---- in units of which 65536 make one

-- a root rounded down isn't less in finer units
pub floor_root-finer_above : (n : ℕ) → 65536 * floor_root n ≤ floor_root (n * 2 ^ 32)
floor_root-finer_above n =
    let below = (floor_root-is n).at_most in
    le-floor_root (n * 2 ^ 32) (65536 * floor_root n) (omega arith)

-- nor greater by a whole unit
pub floor_root-finer_below : (n : ℕ) → floor_root (n * 2 ^ 32) ≤ 65536 * floor_root n + 65535
floor_root-finer_below n =
    let above = (floor_root-is n).next_above in
    let l : floor_root (n * 2 ^ 32) < 65536 * (floor_root n + 1) = floor_root-lt (n * 2 ^ 32) (65536 * (floor_root n + 1)) (omega arith) in
    omega arith

-- so that the quotient is the root in whole units
pub floor_root-finer : (n : ℕ) → floor_root (n * 2 ^ 32) / 65536 ≡ floor_root n
floor_root-finer n = omega (arith, floor_root-finer_above n, floor_root-finer_below n)

-- a root rounded up isn't greater in finer units
pub ceil_root-finer_below : (n : ℕ) → ceil_root (n * 2 ^ 32) ≤ 65536 * ceil_root n
ceil_root-finer_below n =
    let least = (ceil_root-is n).at_least in
    ceil_root-le (n * 2 ^ 32) (65536 * ceil_root n) (omega arith)

-- nor less by a whole unit
pub ceil_root-finer_above : (n : ℕ) → 65536 * ceil_root n ≤ ceil_root (n * 2 ^ 32) + 65535
ceil_root-finer_above n =
    let q = (ceil_root (n * 2 ^ 32) + 65535) / 65536 in
    let least = (ceil_root-is (n * 2 ^ 32)).at_least in
    let squares : ceil_root (n * 2 ^ 32) * ceil_root (n * 2 ^ 32) ≤ (65536 * q) * (65536 * q) =
    square_le (ceil_root (n * 2 ^ 32)) (65536 * q) (omega arith) in
    let l : ceil_root n ≤ q = ceil_root-le n q (omega arith) in
    omega arith

-- so that the quotient, rounded up, is the root in whole units
pub ceil_root-finer : (n : ℕ) → (ceil_root (n * 2 ^ 32) + 65535) / 65536 ≡ ceil_root n
ceil_root-finer n = omega (arith, ceil_root-finer_above n, ceil_root-finer_below n)
