-- What contracts see of a log: its nodes in the order in which they came, and for how many more
-- there is room.
use Rattle.std.specs.Prelude.{ℕ, List}
use Rattle.discard_log.specs.declared.node.Node.{Node}

-- the nodes, and the room for more
pub record LogView : Type 0 where
  pub nodes : List Node
  pub spare : ℕ
