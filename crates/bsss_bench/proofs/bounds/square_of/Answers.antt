use Rattle.std.proofs.Common.{arith}
use Rattle.std.proofs.lemmas.Int.{ints}
use Rattle.dyadic_square.proofs.Numbers.{pow_small}
use Rattle.bsss_bench.proofs.bounds.square_of.Goals as goal

pub of-requires : goal.of-requires
of-requires c =
    let power = pow_small c.args.row.level (omega arith) in
    record { level = omega arith; left = omega (arith, ints); right = omega (arith, ints, power); lower = omega (arith, ints); upper = omega (arith, ints, power) }
