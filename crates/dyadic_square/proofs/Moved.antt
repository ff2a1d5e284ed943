-- What code makes of a sum of a border and a length: corners, quarters and centres are what they should be.
use Rattle.std.proofs.Common.{◌≡◌, ℕ, ◌-◌, ◌^◌, ◌<◌, ◌≤◌, ℤ, pos, ◌+ℤ◌, ◌≤ℤ◌, w64, to_z, of_z, ◌∙◌, ap, arith}
use Rattle.std.proofs.lemmas.Int.{ints}
use Rattle.siting_definitions.specs.Point.{Pt}
use Rattle.siting_definitions.specs.Square.{Square, IsSquare, is_right, is_upper, far_by, corner_of, quarter_of, centre_of}
use Rattle.dyadic_square.proofs.Numbers.{two_halves}
use Rattle.dyadic_square.proofs.Within.{far_small}

-- what the code makes of z + a
abbrev pub moved : ℤ → ℤ → ℤ
moved z a = to_z w64 (of_z w64 (to_z w64 (of_z w64 z) +ℤ to_z w64 (of_z w64 a)))

-- a border moved by a part of the side, as the code makes it
pub moved_is : (z a : ℤ) (n len : ℕ) → a ≡ pos n → n ≤ len → pos 0 ≤ℤ (z +ℤ pos (2 ^ 38)) → (z +ℤ pos len) ≤ℤ pos (2 ^ 38) → moved z a ≡ z +ℤ pos n
moved_is z a n len e small low high = omega (arith, ints)

pub pt_is : (x x' y y' : ℤ) → x ≡ x' → y ≡ y' → let a : Pt = record { x = x; y = y } in let b : Pt = record { x = x'; y = y' } in a ≡ b
pt_is x x' y y' ex ey =
    let across : ℤ → Pt = λ z. record { x = z; y = y } in
    let upwards : ℤ → Pt = λ z. record { x = x'; y = z } in
    ap across ex ∙ ap upwards ey

square_at : (x x' y y' : ℤ) (level : ℕ) → x ≡ x' → y ≡ y' → let a : Square = record { x = x; y = y; level = level } in let b : Square = record { x = x'; y = y'; level = level } in a ≡ b
square_at x x' y y' level ex ey =
    let across : ℤ → Square = λ z. record { x = z; y = y; level = level } in
    let upwards : ℤ → Square = λ z. record { x = x'; y = z; level = level } in
    ap across ex ∙ ap upwards ey

-- corner i of a square, by the ways that the code adds
pub corner_from : (s : Square) (i : ℕ) (a b : ℤ) → IsSquare s → a ≡ pos (far_by (is_right i) (2 ^ s.level)) → b ≡ pos (far_by (is_upper i) (2 ^ s.level)) → let made : Pt = record { x = moved s.x a; y = moved s.y b } in made ≡ corner_of s i
corner_from s i a b limits ea eb =
    pt_is _ _ _ _
    (moved_is s.x a (far_by (is_right i) (2 ^ s.level)) (2 ^ s.level) ea (far_small (is_right i) (2 ^ s.level)) limits.left limits.right)
    (moved_is s.y b (far_by (is_upper i) (2 ^ s.level)) (2 ^ s.level) eb (far_small (is_upper i) (2 ^ s.level)) limits.lower limits.upper)

-- quarter i
pub quarter_from : (s : Square) (i : ℕ) (a b : ℤ) → 0 < s.level → IsSquare s → a ≡ pos (far_by (is_right i) (2 ^ (s.level - 1))) → b ≡ pos (far_by (is_upper i) (2 ^ (s.level - 1))) → let made : Square = record { x = moved s.x a; y = moved s.y b; level = s.level - 1 } in made ≡ quarter_of s i
quarter_from s i a b above limits ea eb =
    let half = 2 ^ (s.level - 1) in
    let twice = two_halves s.level above in
    square_at _ _ _ _ (s.level - 1)
    (moved_is s.x a (far_by (is_right i) half) (2 ^ s.level) ea (omega (arith, twice, far_small (is_right i) half)) limits.left limits.right)
    (moved_is s.y b (far_by (is_upper i) half) (2 ^ s.level) eb (omega (arith, twice, far_small (is_upper i) half)) limits.lower limits.upper)

-- the centre
pub centre_from : (s : Square) (a : ℤ) → 0 < s.level → IsSquare s → a ≡ pos (2 ^ (s.level - 1)) → let made : Pt = record { x = moved s.x a; y = moved s.y a } in made ≡ centre_of s
centre_from s a above limits e =
    let twice = two_halves s.level above in
    pt_is _ _ _ _
    (moved_is s.x a (2 ^ (s.level - 1)) (2 ^ s.level) e (omega (arith, twice)) limits.left limits.right)
    (moved_is s.y a (2 ^ (s.level - 1)) (2 ^ s.level) e (omega (arith, twice)) limits.lower limits.upper)
