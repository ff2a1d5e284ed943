-- Trees of squares. A tree is a shape, and its squares are computed: no tree has a wrong square.
use Rattle.std.specs.Prelude.{ℕ, ◌-◌, ◌<◌, Bool, true, false, not}
use Rattle.std.specs.Prelude.{List, [], ◌∷◌, ◌++◌, map, filter, ⊤}
use Rattle.siting_definitions.specs.Square.{Square, quarter_of}

-- a square alone, or one with a tree for each of its quarters 0 to 3
pub data Tree : Type 0 where
  Leaf : Tree
  Branch : Tree → Tree → Tree → Tree → Tree

-- no square of level 0 is split, where the shape's square has this level
abbrev pub Fits : Tree → ℕ → Type 0
Fits Leaf level = ⊤
Fits (Branch a b c d) level =
    (0 < level) × Fits a (level - 1) × Fits b (level - 1) × Fits c (level - 1)
    × Fits d (level - 1)

-- a square of a tree, and whether it has its quarters there
pub record TreeSquare : Type 0 where
  pub square : Square
  pub is_split : Bool

-- the squares of a tree of s: s, and then the squares of its quarters' trees, in order
abbrev pub preorder : Tree → Square → List TreeSquare
preorder Leaf s = record { square = s; is_split = false } ∷ []
preorder (Branch a b c d) s =
    record { square = s; is_split = true }
    ∷ (preorder a (quarter_of s 0)
    ++ (preorder b (quarter_of s 1)
    ++ (preorder c (quarter_of s 2) ++ preorder d (quarter_of s 3))))

-- the squares that have no quarters there
abbrev pub leaves : List TreeSquare → List Square
leaves squares =
    map (λ (t : TreeSquare). t.square) (filter (λ (t : TreeSquare). not t.is_split) squares)
