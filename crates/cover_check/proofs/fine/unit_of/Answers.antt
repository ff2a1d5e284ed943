use Rattle.std.proofs.Common.{◌≤◌, ◌^◌, arith}
use Rattle.std.proofs.lemmas.Int.{ints}
use Rattle.std.proofs.lemmas.Nat.{one_shl}
use Rattle.std.proofs.Math.Nat.{pow-le-pow_right}
use Rattle.cover_check.proofs.fine.unit_of.Goals as goal

pub returns-clause-size : goal.returns-clause-size
returns-clause-size c =
    let small : 2 ^ c.args.shift ≤ 2 ^ 20 = pow-le-pow_right {n = 2} (omega arith) c.requires in
    rw (one_shl c.args.shift 64 (omega arith)) (omega (arith, ints, small))
