-- The near set of a cost: the squares of one size in which a permitted point may cost at most this.
use Rattle.std.specs.Prelude.{ℕ, zero, suc, ℤ, int_le, Bool, not, ◌&&◌, List, [], ◌∷◌, map, filter}
use Rattle.std.specs.Prelude.{codes, Contains}
use Rattle.std.specs.Fmt.{signed_decimal}
use Rattle.siting_definitions.specs.Instance.{Instance}
use Rattle.siting_definitions.specs.Square.{Square}
use Rattle.siting_definitions.specs.Bounds.{fine_of}
use Rattle.siting_definitions.specs.Excluded.{is_excluded}
use Rattle.siting_definitions.specs.Sites.{root_of}
use Rattle.siting_definitions.specs.Tree.{Tree, Leaf, Branch, leaves, preorder}
use Rattle.siting_definitions.specs.Line.{text_of}
use Rattle.dyadic_square.specs.Within.{LiesWithin}

-- the tree in which each square is split that lies less than n levels below the root
unfoldable pub full_tree : ℕ → Tree
full_tree zero = Leaf
full_tree (suc n) = Branch (full_tree n) (full_tree n) (full_tree n) (full_tree n)

-- the squares n levels below s, in preorder
unfoldable pub squares_below : ℕ → Square → List Square
squares_below n s = leaves (preorder (full_tree n) s)

-- whether a square is near: it isn't excluded, and its fine bound is at most c
unfoldable pub is_near : Instance → ℤ → Square → Bool
is_near i c s = not (is_excluded i s) && int_le (fine_of i s) c

-- the near squares n levels below s, in preorder
unfoldable pub near_below : Instance → ℤ → ℕ → Square → List Square
near_below i c n s = filter (is_near i c) (squares_below n s)

-- the near set of c: the near squares so many levels below the root, in preorder
unfoldable pub near_list : Instance → ℤ → ℕ → List Square
near_list i c depth = near_below i c depth (root_of i)

-- the closed square s lies within one of the squares of the list
pub record LiesInOne (squares : List Square) (s : Square) : Type 0 where
  pub square : Square
  pub listed : Contains squares square
  pub within : LiesWithin square s

-- the line of a square: its lower left corner, in grid units
abbrev pub square_line : Square → List (List ℕ)
square_line s = codes "square" ∷ signed_decimal s.x ∷ signed_decimal s.y ∷ []

-- the lines of these squares, in order
unfoldable pub squares_text : List Square → List ℕ
squares_text squares = text_of (map square_line squares)
