use Rattle.std.proofs.Common.{◌∙◌, subst, ap}
use Rattle.siting_definitions.specs.Polygon.{turned}
use Rattle.convex_region.specs.Dent.{IsFirstDent}
use Rattle.case_maker.specs.Made.{square}
use Rattle.case_maker.proofs.Squares.{corners_are, built_is, no_dent, IsPolygon-square}
use Rattle.case_maker.proofs.square.make_square.Goals as goal

pub unreachable-requires-in-Err-NotConvex : goal.unreachable-requires-in-Err-NotConvex
unreachable-requires-in-Err-NotConvex c =
    let same = corners_are c.args.low c.args.high _ _ _ _ c.requires.order c.requires.high c.of.ensures c.of-2.ensures c.of-3.ensures c.of-4.ensures in
    let first = rw c.in-Err-NotConvex.field-0-is at c.in-Err-NotConvex.ensures in
    no_dent (square c.args.low c.args.high) _ _ (IsPolygon-square c.args.low c.args.high c.requires.order c.requires.high)
    (subst (λ vs. IsFirstDent (turned vs) c.in-Err-NotConvex.field-0-0 c.in-Err-NotConvex.field-0-1) same first.2)

pub returns-in-Ok : goal.returns-in-Ok
returns-in-Ok c =
    let same = corners_are c.args.low c.args.high _ _ _ _ c.requires.order c.requires.high c.of.ensures c.of-2.ensures c.of-3.ensures c.of-4.ensures in
    built_is (square c.args.low c.args.high) _ (IsPolygon-square c.args.low c.args.high c.requires.order c.requires.high) (c.in-Ok.ensures.0 ∙ ap turned same)
