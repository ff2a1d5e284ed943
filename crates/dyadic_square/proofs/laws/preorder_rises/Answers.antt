use Rattle.dyadic_square.proofs.Order.{preorder-rises}
use Rattle.dyadic_square.proofs.laws.preorder_rises.Goals as goal

pub returns : goal.returns
returns c = preorder-rises
