use Rattle.std.proofs.Common.{arith}
use Rattle.dyadic_square.proofs.Bits.{spread-parts}
use Rattle.dyadic_square.proofs.spread.spread_16.Goals as goal

pub returns : goal.returns
returns c = omega (arith, spread-parts 8 8 c.args.bits)
