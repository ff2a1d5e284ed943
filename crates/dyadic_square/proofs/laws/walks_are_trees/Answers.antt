use Rattle.dyadic_square.proofs.Walks.{tree-walk, walk-preorder}
use Rattle.dyadic_square.proofs.laws.walks_are_trees.Goals as goal

pub returns-clause-tree : goal.returns-clause-tree
returns-clause-tree c = tree-walk

pub returns-clause-walk : goal.returns-clause-walk
returns-clause-walk c = walk-preorder
