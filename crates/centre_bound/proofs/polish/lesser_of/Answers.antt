use Rattle.std.proofs.Common.{◌≤ℤ◌, arith}
use Rattle.std.proofs.lemmas.Int.{clamps}
use borrow.Author.Differences.{ints, same_in}
use Rattle.centre_bound.proofs.PolishLemmas.{lesser_by_fine}
use Rattle.centre_bound.proofs.polish.lesser_of.Goals as goal

pub returns-then-found-fine : goal.returns-then-found-fine
returns-then-found-fine c =
    let most : c.args.found ≤ℤ c.args.fine = omega (arith, ints) in
    let e = lesser_by_fine c.args.instance.now c.args.square c.args.found c.args.fine c.requires most in
    same_in _ _ (omega (arith, ints, e))

pub returns-else-found-fine : goal.returns-else-found-fine
returns-else-found-fine c =
    let e = c.bound_from_fine.ensures.value in
    same_in _ _ (omega (arith, ints, clamps, e))
