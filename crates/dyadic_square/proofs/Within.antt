-- Squares that lie within another: the quarters of a square, and the squares of a tree.
use Rattle.std.proofs.Common.{ℕ, ◌-◌, ◌^◌, ◌<◌, ◌≤◌, Bool, true, false, [], ◌∷◌, arith}
use Rattle.std.specs.List.{All}
use Rattle.std.proofs.lemmas.Int.{ints}
use Rattle.std.proofs.lemmas.List.Elements.{All-nil, All-cons, All-append, All-weaker}
use Rattle.siting_definitions.specs.Square.{Square, IsSquare, quarter_of, quarters, is_right, is_upper, far_by}
use Rattle.siting_definitions.specs.Tree.{Tree, Leaf, Branch, Fits, TreeSquare, preorder}
use Rattle.dyadic_square.specs.Within.{LiesWithin}
use Rattle.dyadic_square.proofs.Numbers.{two_halves}

-- a quarter begins half a side away at most
pub far_small : (far : Bool) (half : ℕ) → far_by far half ≤ half
far_small true half = omega arith
far_small false half = omega arith

-- a quarter lies within its square
pub quarter-within : (s : Square) (i : ℕ) → 0 < s.level → LiesWithin s (quarter_of s i)
quarter-within s i above = record {
  level = omega arith;
  left = omega (arith, ints);
  right = omega (arith, ints, two_halves s.level above, far_small (is_right i) (2 ^ (s.level - 1)));
  lower = omega (arith, ints);
  upper = omega (arith, ints, two_halves s.level above, far_small (is_upper i) (2 ^ (s.level - 1)));
}

pub within-refl : (s : Square) → LiesWithin s s
within-refl s = record { level = omega arith; left = omega (arith, ints); right = omega (arith, ints); lower = omega (arith, ints); upper = omega (arith, ints) }

pub within-trans : (a b c : Square) → LiesWithin a b → LiesWithin b c → LiesWithin a c
within-trans a b c o i = record { level = omega arith; left = omega (arith, ints); right = omega (arith, ints); lower = omega (arith, ints); upper = omega (arith, ints) }

-- what lies within a square within the limits is within the limits
pub square_within : (root s : Square) → IsSquare root → LiesWithin root s → IsSquare s
square_within root s limits within = record { level = omega arith; left = omega (arith, ints); right = omega (arith, ints); lower = omega (arith, ints); upper = omega (arith, ints) }

-- and is within the limits where the square is
pub quarter-lawful : (s : Square) (i : ℕ) → 0 < s.level → IsSquare s → IsSquare (quarter_of s i)
quarter-lawful s i above limits = square_within s (quarter_of s i) limits (quarter-within s i above)

-- what holds of each quarter holds of the list of them
pub quarters-all : (P : Square → Type 0) (s : Square) → ((i : ℕ) → P (quarter_of s i)) → All P (quarters s)
quarters-all P s each =
    All-cons P (quarter_of s 0) (quarter_of s 1 ∷ quarter_of s 2 ∷ quarter_of s 3 ∷ []) (each 0)
    (All-cons P (quarter_of s 1) (quarter_of s 2 ∷ quarter_of s 3 ∷ []) (each 1)
    (All-cons P (quarter_of s 2) (quarter_of s 3 ∷ []) (each 2)
    (All-cons P (quarter_of s 3) [] (each 3) (All-nil P))))

-- what holds of the root, and of the quarters of each square of which it holds, holds of all squares of a tree
pub tree-all : (P : Square → Type 0) (each : (s : Square) (i : ℕ) → 0 < s.level → P s → P (quarter_of s i)) → (t : Tree) (root : Square) → Fits t root.level → P root → All (λ (s : TreeSquare). P s.square) (preorder t root)
tree-all P each Leaf root fits here =
    All-cons (λ (s : TreeSquare). P s.square) (record { square = root; is_split = false }) [] here (All-nil (λ (s : TreeSquare). P s.square))
tree-all P each (Branch a b c d) root fits here =
    let Q : TreeSquare → Type 0 = λ s. P s.square in
    let first = tree-all P each a (quarter_of root 0) fits.1 (each root 0 fits.0 here) in
    let second = tree-all P each b (quarter_of root 1) fits.2 (each root 1 fits.0 here) in
    let third = tree-all P each c (quarter_of root 2) fits.3 (each root 2 fits.0 here) in
    let fourth = tree-all P each d (quarter_of root 3) fits.4 (each root 3 fits.0 here) in
    All-cons Q (record { square = root; is_split = true }) _ here
    (All-append Q (preorder a (quarter_of root 0)) _ first
    (All-append Q (preorder b (quarter_of root 1)) _ second
    (All-append Q (preorder c (quarter_of root 2)) (preorder d (quarter_of root 3)) third fourth)))

-- the squares of a tree lie within its root
pub tree-within : (t : Tree) (root : Square) → Fits t root.level → All (λ (s : TreeSquare). LiesWithin root s.square) (preorder t root)
tree-within t root fits =
    tree-all (LiesWithin root) (λ s i above within. within-trans root s (quarter_of s i) within (quarter-within s i above)) t root fits (within-refl root)

-- and are within the limits where the root is
pub tree-lawful : (t : Tree) (root : Square) → Fits t root.level → IsSquare root → All (λ (s : TreeSquare). IsSquare s.square) (preorder t root)
tree-lawful t root fits limits =
    All-weaker (λ (s : TreeSquare). LiesWithin root s.square) (λ (s : TreeSquare). IsSquare s.square)
    (λ s within. square_within root s.square limits within) (preorder t root) (tree-within t root fits)
