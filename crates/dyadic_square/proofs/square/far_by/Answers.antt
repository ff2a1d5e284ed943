use Rattle.std.proofs.Common.{arith}
use Rattle.std.proofs.lemmas.Int.{ints}
use Rattle.std.proofs.lemmas.Nat.{one_shl}
use Rattle.dyadic_square.proofs.Numbers.{pow_small}
use Rattle.dyadic_square.proofs.square.far_by.Goals as goal

pub overflow_cast-result-then-far : goal.overflow_cast-result-then-far
overflow_cast-result-then-far c =
    rw (one_shl c.args.level 64 (omega arith)) (omega (arith, ints, pow_small c.args.level c.requires))

pub returns-then-far : goal.returns-then-far
returns-then-far c =
    rw (one_shl c.args.level 64 (omega arith), c.if-far.true) (omega (arith, ints, pow_small c.args.level c.requires))
