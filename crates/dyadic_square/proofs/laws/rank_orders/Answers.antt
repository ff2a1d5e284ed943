use Rattle.dyadic_square.proofs.Order.{rank_order}
use Rattle.dyadic_square.proofs.laws.rank_orders.Goals as goal

pub returns : goal.returns
returns c = rank_order
