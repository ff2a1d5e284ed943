use Rattle.std.proofs.Common.{FitsSigned, w64, arith}
use Rattle.std.proofs.lemmas.Int.{to_z-of_z}
use Rattle.near_set.proofs.NearLemmas.{below_quarter, near_below-one, none_below_far, near_if_stands, length-parts, counted_on}
use Rattle.near_set.proofs.near.+count_below.Goals as goal

pub returns-in-Far : goal.returns-in-Far
returns-in-Far t c =
    let fits : FitsSigned w64 c.args.cost = c.ranges.cost in
    let far = simp to_z-of_z at c.in-Far.ensures in
    rw (none_below_far c.args.instance.now c.args.cost c.args.depth c.args.sq c.requires.depth far) (omega arith)

pub returns-then-depth-eq0 : goal.returns-then-depth-eq0
returns-then-depth-eq0 t c =
    let fits : FitsSigned w64 c.args.cost = c.ranges.cost in
    let stands = simp to_z-of_z at c.standing_of-standing.ensures in
    let near = near_if_stands c.args.instance.now c.args.cost c.args.sq c.standing_of-standing.result stands c.in-Near.is in
    rw (near_below-one c.args.instance.now c.args.cost c.args.depth c.args.sq c.if-depth-eq0.true near) (omega arith)

pub count_below-one-requires : goal.count_below-one-requires
count_below-one-requires t c =
    rw c.quarter.ensures
    (omega arith, (omega arith, below_quarter c.args.instance.now _ c.args.sq 0 c.standing_of-standing.result (omega arith) c.standing_of-standing.ensures))

pub count_below-requires : goal.count_below-requires
count_below-requires t c =
    rw c.quarter-in-Near.ensures
    (omega arith, (omega arith, below_quarter c.args.instance.now _ c.args.sq 1 c.standing_of-standing.result (omega arith) c.standing_of-standing.ensures))

pub count_below-requires-in-Near : goal.count_below-requires-in-Near
count_below-requires-in-Near t c =
    rw c.quarter-in-Near-2.ensures
    (omega arith, (omega arith, below_quarter c.args.instance.now _ c.args.sq 2 c.standing_of-standing.result (omega arith) c.standing_of-standing.ensures))

pub count_below-requires-in-Near-2 : goal.count_below-requires-in-Near-2
count_below-requires-in-Near-2 t c =
    rw c.quarter-in-Near-3.ensures
    (omega arith, (omega arith, below_quarter c.args.instance.now _ c.args.sq 3 c.standing_of-standing.result (omega arith) c.standing_of-standing.ensures))

pub returns-else-depth-eq0 : goal.returns-else-depth-eq0
returns-else-depth-eq0 t c =
    let fits : FitsSigned w64 c.args.cost = c.ranges.cost in
    let one = simp (to_z-of_z, c.quarter.ensures) at c.count_below-one.ensures in
    let two = simp (to_z-of_z, c.quarter-in-Near.ensures) at c.count_below.ensures in
    let three = simp (to_z-of_z, c.quarter-in-Near-2.ensures) at c.count_below-in-Near.ensures in
    let four = simp (to_z-of_z, c.quarter-in-Near-3.ensures) at c.count_below-in-Near-2.ensures in
    rw (length-parts c.args.instance.now c.args.cost c.args.depth c.args.sq (omega arith))
    (counted_on _ _ _ _ _ (counted_on _ _ _ _ _ (counted_on _ _ _ _ _ one two) three) four)
