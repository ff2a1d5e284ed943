use Rattle.std.proofs.Common.{arith}
use Rattle.std.proofs.lemmas.Int.{ints, clamps}
use Rattle.dist_bounds.proofs.Axes.{greatest_way}
use Rattle.dist_bounds.proofs.way_outside.Goals as goal

pub returns-clause-value : goal.returns-clause-value
returns-clause-value c = greatest_way c.args.low c.args.high c.args.a c.max.result c.max-2.result c.requires.low c.requires.high (omega arith) c.max.ensures.value c.max-2.ensures.value

pub returns-clause-size : goal.returns-clause-size
returns-clause-size c = omega (arith, ints, clamps, c.max.ensures.value, c.max-2.ensures.value)
