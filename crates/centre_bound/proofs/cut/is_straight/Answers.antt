use Rattle.std.proofs.Common.{pos, rules}
use mir.Syntax.{w64}
use Rattle.std.proofs.lemmas.Int.{to_z-of_z}
use Rattle.siting_definitions.specs.Instance.{DemandPt}
use Rattle.siting_definitions.proofs.Integers.{int_lt-true, int_lt-false}
use Rattle.centre_bound.proofs.Computed.{straight-attracting, straight-repelling}
use Rattle.centre_bound.proofs.cut.is_straight.Goals as goal

pub returns-then-point-gt0 : goal.returns-then-point-gt0
returns-then-point-gt0 c =
    let d : DemandPt = record { x = c.point.inside.x; y = c.point.inside.y; w = c.point.inside.w; cutoff = c.point.inside.cutoff } in
    let above = rw (to_z-of_z w64 d.w (search rules)) at c.if-point-gt0.true in
    rw (← c.point.view_is) (straight-attracting d _ (int_lt-true (pos 0) d.w above) c.is_none.ensures)

pub returns-else-point-gt0 : goal.returns-else-point-gt0
returns-else-point-gt0 c =
    let d : DemandPt = record { x = c.point.inside.x; y = c.point.inside.y; w = c.point.inside.w; cutoff = c.point.inside.cutoff } in
    let below = rw (to_z-of_z w64 d.w (search rules)) at c.if-point-gt0.false in
    rw (← c.point.view_is) (straight-repelling d _ (int_lt-false (pos 0) d.w below) c.if-point-gt0.false)
