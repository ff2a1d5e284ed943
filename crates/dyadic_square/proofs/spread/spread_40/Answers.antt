use Rattle.std.proofs.Common.{◌/◌, ◌^◌, arith}
use Rattle.dyadic_square.proofs.Bits.{spread-parts, spread-low}
use Rattle.dyadic_square.proofs.spread.spread_40.Goals as goal

pub returns-clause-value : goal.returns-clause-value
returns-clause-value c =
    omega (arith, spread-parts 32 8 c.args.bits, spread-low 8 (c.args.bits / 2 ^ 32))
