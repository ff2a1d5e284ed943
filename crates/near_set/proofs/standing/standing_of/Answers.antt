use Rattle.std.proofs.Common.{sym, subst}
use Rattle.near_set.specs.Standing.{FitsBelow}
use Rattle.near_set.proofs.NearLemmas.{far_if_excluded, stands_inside}
use Rattle.near_set.proofs.standing.standing_of.Goals as goal

pub returns-then-excluded : goal.returns-then-excluded
returns-then-excluded c = far_if_excluded c.args.instance.now c.args.cost c.args.sq (sym c.if-excluded.ensures)

pub returns-in-Inside : goal.returns-in-Inside
returns-in-Inside c =
    stands_inside c.args.instance.now c.args.cost c.args.sq (sym c.if-excluded.ensures)
    (subst (FitsBelow c.args.instance.now c.args.cost c.args.sq) c.in-Inside.is c.requires)
