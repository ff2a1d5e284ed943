use Rattle.dyadic_square.proofs.Order.{sorted-preorder}
use Rattle.dyadic_square.proofs.laws.sorted_is_preorder.Goals as goal

pub returns : goal.returns
returns c = sorted-preorder
