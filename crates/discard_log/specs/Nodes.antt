-- Nodes as squares of a tree, and a list of nodes with one mark changed.
use Rattle.std.specs.Prelude.{ℕ, zero, suc, List, [], ◌∷◌}
use Rattle.siting_definitions.specs.declared.Mark.{Mark}
use Rattle.siting_definitions.specs.Tree.{TreeSquare}
use Rattle.siting_definitions.specs.Marks.{is_split}
use Rattle.discard_log.specs.declared.node.Node.{Node}

-- a node's square, which is split where its mark says so
abbrev pub tree_square : Node → TreeSquare
tree_square n = record { square = n.square; is_split = is_split n.mark }

-- a node's mark
abbrev pub mark_of : Node → Mark
mark_of n = n.mark

-- the nodes with this mark at index i
abbrev pub with_mark : List Node → ℕ → Mark → List Node
with_mark [] i mark = []
with_mark (n ∷ ns) zero mark = record n { mark = mark } ∷ ns
with_mark (n ∷ ns) (suc i) mark = n ∷ with_mark ns i mark
