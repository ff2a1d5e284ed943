use Rattle.std.proofs.Common.{◌≡◌, ◌^◌, refl, arith}
use borrow.Author.Differences.{ints}
use Rattle.near_set.specs.Ceiling.{diagonal_of}
use Rattle.near_set.proofs.ceiling.diagonal.Goals as goal

pub returns-clause-value : goal.returns-clause-value
unfolding diagonal_of
returns-clause-value c =
    let side : c.unsigned_abs.result ≡ 2 ^ c.args.sq.level = omega (arith, ints, c.side_len.ensures.value, c.unsigned_abs.ensures.value) in
    rw side refl
