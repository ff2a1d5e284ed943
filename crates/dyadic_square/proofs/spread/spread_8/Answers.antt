use Rattle.std.proofs.Common.{◌≡◌, true, refl, arith}
use Rattle.dyadic_square.specs.declared.spread.TheConstants.{SPREAD}
use Rattle.dyadic_square.specs.Order.{spread}
use Rattle.dyadic_square.proofs.Bits.{spreads_from, spread_of_byte}
use Rattle.dyadic_square.proofs.spread.spread_8.Goals as goal

table : spreads_from 0 SPREAD ≡ true
unfolding spread
table = refl

pub returns : goal.returns
returns c = spread_of_byte SPREAD c.args.bits table refl (omega arith)
