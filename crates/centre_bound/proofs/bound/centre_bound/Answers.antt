use Rattle.std.proofs.Common.{arith}
use Rattle.std.proofs.lemmas.Int.{clamps}
use borrow.Author.Differences.{ints, same_in}
use Rattle.centre_bound.proofs.CutLemmas.{centre_bound_of-bounds}
use Rattle.centre_bound.proofs.bound.centre_bound.Goals as goal

pub bound_from_fine-requires : goal.bound_from_fine-requires
bound_from_fine-requires c = let e = c.fine.ensures.value in same_in _ _ (omega (arith, ints, e))

pub returns-clause-value : goal.returns-clause-value
returns-clause-value c = let e = c.bound_from_fine.ensures.value in same_in _ _ (omega (arith, ints, e))

pub returns-clause-bound : goal.returns-clause-bound
returns-clause-bound c p held = rw (returns-clause-value c) (centre_bound_of-bounds c.args.instance.now c.args.square p held)

pub returns-clause-size : goal.returns-clause-size
returns-clause-size c =
    omega (arith, ints, clamps, c.bound_from_fine.ensures.least, c.bound_from_fine.ensures.most, c.fine.ensures.size)
