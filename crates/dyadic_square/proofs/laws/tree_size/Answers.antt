use Rattle.dyadic_square.proofs.Trees.{tree-size}
use Rattle.dyadic_square.proofs.laws.tree_size.Goals as goal

pub returns : goal.returns
returns c = tree-size
