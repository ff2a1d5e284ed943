use Rattle.std.proofs.Common.{[], refl, sym, FitsSigned, w64, arith}
use Rattle.std.proofs.lemmas.Int.{to_z-of_z}
use Rattle.std.proofs.lemmas.List.{append-nil}
use Rattle.port_io.proofs.PutLemmas.{Put-kept, PutOn-then, PutOn-stop}
use Rattle.near_set.proofs.NearLemmas.{below_quarter, near_below-one, none_below_far, near_if_stands, squares_text-none, squares_text-one, text-parts}
use Rattle.near_set.proofs.near.+write_below.Goals as goal

pub returns-in-Far : goal.returns-in-Far
returns-in-Far g t c =
    let fits : FitsSigned w64 c.args.cost = c.ranges.cost in
    let far = simp to_z-of_z at c.in-Far.ensures in
    let kept = Put-kept _ _ [] (g.met.K.Sink.nothing c.args.out.now.sink.now) refl (sym (append-nil _)) c.requires.is_open in
    rw (none_below_far c.args.instance.now c.args.cost c.args.depth c.args.sq c.requires.depth far, squares_text-none)
    (record { same = refl; put = kept })

pub returns-then-depth-eq0 : goal.returns-then-depth-eq0
returns-then-depth-eq0 g t c =
    let fits : FitsSigned w64 c.args.cost = c.ranges.cost in
    let stands = simp to_z-of_z at c.standing_of-standing.ensures in
    let near = near_if_stands c.args.instance.now c.args.cost c.args.sq c.standing_of-standing.result stands c.in-Near.is in
    rw (near_below-one c.args.instance.now c.args.cost c.args.depth c.args.sq c.if-depth-eq0.true near, squares_text-one c.args.sq) c.write_square.ensures

pub write_below-requires : goal.write_below-requires
write_below-requires g t c κs outlives =
    let above = below_quarter c.args.instance.now _ c.args.sq 0 c.standing_of-standing.result (omega arith) c.standing_of-standing.ensures in
    (omega arith, (outlives, (c.requires.is_open, (rw c.quarter.ensures (omega arith), rw c.quarter.ensures above))))

pub returns-in_err-write_below-in-Near : goal.returns-in_err-write_below-in-Near
returns-in_err-write_below-in-Near g t c =
    let fits : FitsSigned w64 c.args.cost = c.ranges.cost in
    let last = simp (to_z-of_z, c.quarter.ensures) at c.in_err-write_below-in-Near.ensures in
    rw (text-parts c.args.instance.now c.args.cost c.args.depth c.args.sq (omega arith)) (PutOn-stop _ refl c.from_residual.ensures.0 last)

pub write_below-requires-in-Near : goal.write_below-requires-in-Near
write_below-requires-in-Near g t c κs outlives =
    let above = below_quarter c.args.instance.now _ c.args.sq 1 c.standing_of-standing.result (omega arith) c.standing_of-standing.ensures in
    (omega arith, (outlives, (c.in_ok-write_below-in-Near.ensures.put.failed, (rw c.quarter-in-Near.ensures (omega arith), rw c.quarter-in-Near.ensures above))))

pub returns-in_err-write_below-in-Near-2 : goal.returns-in_err-write_below-in-Near-2
returns-in_err-write_below-in-Near-2 g t c =
    let fits : FitsSigned w64 c.args.cost = c.ranges.cost in
    let one = simp (to_z-of_z, c.quarter.ensures) at c.in_ok-write_below-in-Near.ensures in
    let last = simp (to_z-of_z, c.quarter-in-Near.ensures) at c.in_err-write_below-in-Near-2.ensures in
    rw (text-parts c.args.instance.now c.args.cost c.args.depth c.args.sq (omega arith)) (PutOn-then one (PutOn-stop _ refl c.from_residual-in_err-write_below-in-Near-2.ensures.0 last))

pub write_below-requires-in-Near-2 : goal.write_below-requires-in-Near-2
write_below-requires-in-Near-2 g t c κs outlives =
    let above = below_quarter c.args.instance.now _ c.args.sq 2 c.standing_of-standing.result (omega arith) c.standing_of-standing.ensures in
    (omega arith, (outlives, (c.in_ok-write_below-in-Near-2.ensures.put.failed, (rw c.quarter-in-Near-2.ensures (omega arith), rw c.quarter-in-Near-2.ensures above))))

pub returns-in_err-write_below-in-Near-3 : goal.returns-in_err-write_below-in-Near-3
returns-in_err-write_below-in-Near-3 g t c =
    let fits : FitsSigned w64 c.args.cost = c.ranges.cost in
    let one = simp (to_z-of_z, c.quarter.ensures) at c.in_ok-write_below-in-Near.ensures in
    let two = simp (to_z-of_z, c.quarter-in-Near.ensures) at c.in_ok-write_below-in-Near-2.ensures in
    let last = simp (to_z-of_z, c.quarter-in-Near-2.ensures) at c.in_err-write_below-in-Near-3.ensures in
    rw (text-parts c.args.instance.now c.args.cost c.args.depth c.args.sq (omega arith)) (PutOn-then one (PutOn-then two (PutOn-stop _ refl c.from_residual-in_err-write_below-in-Near-3.ensures.0 last)))

pub write_below-requires-in-Near-3 : goal.write_below-requires-in-Near-3
write_below-requires-in-Near-3 g t c κs outlives =
    let above = below_quarter c.args.instance.now _ c.args.sq 3 c.standing_of-standing.result (omega arith) c.standing_of-standing.ensures in
    (omega arith, (outlives, (c.in_ok-write_below-in-Near-3.ensures.put.failed, (rw c.quarter-in-Near-3.ensures (omega arith), rw c.quarter-in-Near-3.ensures above))))

pub returns-in_ok-write_below-in-Near-3 : goal.returns-in_ok-write_below-in-Near-3
returns-in_ok-write_below-in-Near-3 g t c =
    let fits : FitsSigned w64 c.args.cost = c.ranges.cost in
    let one = simp (to_z-of_z, c.quarter.ensures) at c.in_ok-write_below-in-Near.ensures in
    let two = simp (to_z-of_z, c.quarter-in-Near.ensures) at c.in_ok-write_below-in-Near-2.ensures in
    let three = simp (to_z-of_z, c.quarter-in-Near-2.ensures) at c.in_ok-write_below-in-Near-3.ensures in
    let last = simp (to_z-of_z, c.quarter-in-Near-3.ensures) at c.write_below-in-Near-3.ensures in
    rw (text-parts c.args.instance.now c.args.cost c.args.depth c.args.sq (omega arith)) (PutOn-then one (PutOn-then two (PutOn-then three last)))
