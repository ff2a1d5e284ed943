use Rattle.dyadic_square.proofs.Within.{tree-within, tree-lawful}
use Rattle.dyadic_square.proofs.laws.tree_lies_within.Goals as goal

pub returns-clause-limits : goal.returns-clause-limits
returns-clause-limits c = tree-lawful

pub returns-clause-within : goal.returns-clause-within
returns-clause-within c = tree-within
