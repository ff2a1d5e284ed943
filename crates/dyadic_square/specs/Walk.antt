-- Trees as they are read in preorder, with a list of the squares to come.
use Rattle.std.specs.Prelude.{◌≡◌, ◌<◌, Bool, if◌then◌else◌, List, [], ◌∷◌, ◌++◌, ⊤}
use Rattle.std.specs.Bool.{OnTrue}
use Rattle.siting_definitions.specs.Square.{Square, quarters}
use Rattle.siting_definitions.specs.Tree.{TreeSquare}

-- what comes after s: its quarters first, where it is split
abbrev pub coming_after : Square → Bool → List Square → List Square
coming_after s is_split coming = if is_split then quarters s ++ coming else coming

-- each square read is the next to come, one of level 0 isn't split, and nothing is to come at the
-- end
abbrev pub Walks : List Square → List TreeSquare → Type 0
Walks [] [] = ⊤
Walks [] (t ∷ ts) = ⊥
Walks (s ∷ coming) [] = ⊥
Walks (s ∷ coming) (t ∷ ts) =
    (t.square ≡ s) × OnTrue t.is_split (0 < s.level) × Walks (coming_after s t.is_split coming) ts
