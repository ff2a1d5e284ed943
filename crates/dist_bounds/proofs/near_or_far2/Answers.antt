use Rattle.std.proofs.Common.{◌^◌}
use Rattle.dist_bounds.proofs.Axes.{spans_of, coordinate-passed, end-small, end-after, near-passed, far-passed, near2-from, far2-from, by_far}
use Rattle.dist_bounds.proofs.near_or_far2.Goals as goal

pub way_to_end-requires-2-clause-high : goal.way_to_end-requires-2-clause-high
way_to_end-requires-2-clause-high c =
    let s = c.sq.inside in
    let spans = spans_of (record { x = s.x; y = s.y; level = s.level }) _ c.side_len-side.result c.sq.invariant c.sq.view_is c.side_len-side.ensures.value c.side_len-side.ensures.within in
    end-small s.y c.side_len-side.result (2 ^ s.level) spans.1

pub way_to_end-requires-2-clause-order : goal.way_to_end-requires-2-clause-order
way_to_end-requires-2-clause-order c =
    let s = c.sq.inside in
    let spans = spans_of (record { x = s.x; y = s.y; level = s.level }) _ c.side_len-side.result c.sq.invariant c.sq.view_is c.side_len-side.ensures.value c.side_len-side.ensures.within in
    end-after s.y c.side_len-side.result (2 ^ s.level) spans.1

pub returns-clause-value : goal.returns-clause-value
returns-clause-value c =
    let s = c.sq.inside in
    let spans = spans_of (record { x = s.x; y = s.y; level = s.level }) _ c.side_len-side.result c.sq.invariant c.sq.view_is c.side_len-side.ensures.value c.side_len-side.ensures.within in
    rw (← c.sq.view_is, ← c.a.view_is)
    (by_far c.args.far _ _ _
    (λ far.
    far2-from _ _ c.on_grid.result c.on_grid-2.result c.way_to_end.result c.way_to_end-2.result c.sum_of_squares.result
    (coordinate-passed c.on_grid.result c.a.inside.x c.a.invariant.x c.on_grid.ensures.value)
    (coordinate-passed c.on_grid-2.result c.a.inside.y c.a.invariant.y c.on_grid-2.ensures.value)
    (far-passed s.x c.side_len-side.result c.on_grid.result (2 ^ s.level) _ spans.0 c.on_grid.ensures.size (c.way_to_end.ensures.far far))
    (far-passed s.y c.side_len-side.result c.on_grid-2.result (2 ^ s.level) _ spans.1 c.on_grid-2.ensures.size (c.way_to_end-2.ensures.far far))
    c.sum_of_squares.ensures.value)
    (λ near.
    near2-from _ _ c.on_grid.result c.on_grid-2.result c.way_to_end.result c.way_to_end-2.result c.sum_of_squares.result
    (coordinate-passed c.on_grid.result c.a.inside.x c.a.invariant.x c.on_grid.ensures.value)
    (coordinate-passed c.on_grid-2.result c.a.inside.y c.a.invariant.y c.on_grid-2.ensures.value)
    (near-passed s.x c.side_len-side.result c.on_grid.result (2 ^ s.level) _ spans.0 c.on_grid.ensures.size (c.way_to_end.ensures.near near))
    (near-passed s.y c.side_len-side.result c.on_grid-2.result (2 ^ s.level) _ spans.1 c.on_grid-2.ensures.size (c.way_to_end-2.ensures.near near))
    c.sum_of_squares.ensures.value))
