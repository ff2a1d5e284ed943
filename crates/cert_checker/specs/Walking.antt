-- Reading the squares of a tree in preorder.
use Rattle.std.specs.Prelude.{◌+◌, ◌*◌, ◌<◌, ◌≤◌, Bool, List, [], ◌∷◌, length, ⊤}
use Rattle.std.specs.Bool.{OnTrue}
use Rattle.siting_definitions.specs.Square.{Square}
use Rattle.dyadic_square.specs.Walk.{coming_after}

-- Few squares are to come after each: three at most for each level that is above it. A square of
-- level 37 leaves at most 112.
abbrev pub AreFew : List Square → Type 0
AreFew [] = ⊤
AreFew (s ∷ squares) = (length squares + 3 * s.level ≤ 111) × AreFew squares

-- a square is to come, and where it is split its level is above 0
abbrev pub CanStep : List Square → Bool → Type 0
CanStep [] is_split = ⊥
CanStep (s ∷ squares) is_split = OnTrue is_split (0 < s.level)

-- what is to come after the next square
abbrev pub squares_after : List Square → Bool → List Square
squares_after [] is_split = []
squares_after (s ∷ squares) is_split = coming_after s is_split squares
