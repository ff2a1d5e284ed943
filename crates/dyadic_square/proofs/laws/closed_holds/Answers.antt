use Rattle.dyadic_square.proofs.Tiling.{holds_closed_from_holds}
use Rattle.dyadic_square.proofs.laws.closed_holds.Goals as goal

pub returns : goal.returns
returns c = holds_closed_from_holds
