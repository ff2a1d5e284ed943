use Rattle.std.proofs.Common.{sym, ap, subst}
use Rattle.siting_definitions.specs.Point.{Pt}
use Rattle.dist_bounds.specs.Limits.{IsWithinSquares}
use Rattle.dist_bounds.proofs.Axes.{coordinate-passed, distance_passed, distance2-from}
use Rattle.dist_bounds.proofs.distance2.Goals as goal

pub returns-clause-value : goal.returns-clause-value
returns-clause-value c =
    let x = subst IsWithinSquares (ap (λ (p : Pt). p.x) (sym c.z.view_is)) c.requires.x in
    let y = subst IsWithinSquares (ap (λ (p : Pt). p.y) (sym c.z.view_is)) c.requires.y in
    rw (← c.z.view_is, ← c.a.view_is)
    (distance2-from _ _ c.on_grid.result c.on_grid-2.result c.way.result c.way-2.result c.sum_of_squares.result
    (coordinate-passed c.on_grid.result c.a.inside.x c.a.invariant.x c.on_grid.ensures.value)
    (coordinate-passed c.on_grid-2.result c.a.inside.y c.a.invariant.y c.on_grid-2.ensures.value)
    (distance_passed c.z.inside.x c.on_grid.result _ x c.on_grid.ensures.size c.way.ensures.value)
    (distance_passed c.z.inside.y c.on_grid-2.result _ y c.on_grid-2.ensures.size c.way-2.ensures.value)
    c.sum_of_squares.ensures.value)
