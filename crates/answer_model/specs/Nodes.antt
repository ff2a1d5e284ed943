-- The nodes of an answer: its marks with the squares of its tree.
use Rattle.std.specs.Prelude.{List, [], ◌∷◌}
use Rattle.siting_definitions.specs.declared.Mark.{Mark}
use Rattle.siting_definitions.specs.Square.{Square}
use Rattle.siting_definitions.specs.Sites.{root_of}
use Rattle.siting_definitions.specs.Marks.{is_split}
use Rattle.siting_definitions.specs.Answer.{Answer}
use Rattle.dyadic_square.specs.Walk.{coming_after}
use Rattle.discard_log.specs.declared.node.Node.{Node}

-- each mark with the square that is then the next to come; where it is split, its quarters come
-- after it
abbrev pub nodes_in_order : List Square → List Mark → List Node
nodes_in_order [] ms = []
nodes_in_order (s ∷ coming) [] = []
nodes_in_order (s ∷ coming) (m ∷ ms) =
    record { square = s; mark = m } ∷ nodes_in_order (coming_after s (is_split m) coming) ms

-- the nodes of an answer, in preorder
abbrev pub nodes_of : Answer → List Node
nodes_of a = nodes_in_order (root_of a.head.instance ∷ []) a.marks
