use Rattle.std.proofs.Common.{arith}
use Rattle.std.proofs.lemmas.Int.{ints}
use Rattle.dyadic_square.proofs.Numbers.{pow_small}
use Rattle.dyadic_square.proofs.square.Square.side_len.Goals as goal

pub returns-clause-within : goal.returns-clause-within
returns-clause-within c = omega (arith, ints, pow_small c.self.inside.level c.self.invariant.level)
