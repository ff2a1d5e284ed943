use Rattle.std.proofs.Common.{sym, ap, ◌∙◌}
use Rattle.siting_definitions.specs.Point.{point_of}
use Rattle.siting_definitions.specs.Instance.{DemandPt, place_of}
use Rattle.siting_definitions.specs.Cost.{distance2}
use Rattle.objectives.proofs.Computed.{attracts, repels, lower-attracting, lower-repelling, upper-attracting, upper-repelling}
use Rattle.objectives.proofs.radii.enclosing_radii.Goals as goal

pub returns-then-d-gt0-clause-lower : goal.returns-then-d-gt0-clause-lower
returns-then-d-gt0-clause-lower c =
    let d : DemandPt = record { x = c.d.inside.x; y = c.d.inside.y; w = c.d.inside.w; cutoff = c.d.inside.cutoff } in
    let distance = c.squared_distance.ensures.value ∙ ap (λ (d : DemandPt). distance2 (place_of d) (point_of c.args.site)) (sym c.d.view_is) in
    rw (← c.d.view_is)
    (lower-attracting c.args.site d _ _ _ (attracts d.w c.d.invariant.w c.if-d-gt0.true) distance c.enclosing_roots-floor.ensures.floor c.capped_radius-floor.ensures.value)

pub returns-then-d-gt0-clause-upper : goal.returns-then-d-gt0-clause-upper
returns-then-d-gt0-clause-upper c =
    let d : DemandPt = record { x = c.d.inside.x; y = c.d.inside.y; w = c.d.inside.w; cutoff = c.d.inside.cutoff } in
    let distance = c.squared_distance.ensures.value ∙ ap (λ (d : DemandPt). distance2 (place_of d) (point_of c.args.site)) (sym c.d.view_is) in
    rw (← c.d.view_is)
    (upper-attracting c.args.site d _ _ _ (attracts d.w c.d.invariant.w c.if-d-gt0.true) distance c.enclosing_roots-floor.ensures.ceil c.capped_radius-ceil.ensures.value)

pub returns-else-d-gt0-clause-lower : goal.returns-else-d-gt0-clause-lower
returns-else-d-gt0-clause-lower c =
    let d : DemandPt = record { x = c.d.inside.x; y = c.d.inside.y; w = c.d.inside.w; cutoff = c.d.inside.cutoff } in
    let distance = c.squared_distance.ensures.value ∙ ap (λ (d : DemandPt). distance2 (place_of d) (point_of c.args.site)) (sym c.d.view_is) in
    rw (← c.d.view_is)
    (lower-repelling c.args.site d _ _ _ (repels d.w c.d.invariant.w c.if-d-gt0.false) distance c.enclosing_roots-floor.ensures.ceil c.capped_radius-ceil.ensures.value)

pub returns-else-d-gt0-clause-upper : goal.returns-else-d-gt0-clause-upper
returns-else-d-gt0-clause-upper c =
    let d : DemandPt = record { x = c.d.inside.x; y = c.d.inside.y; w = c.d.inside.w; cutoff = c.d.inside.cutoff } in
    let distance = c.squared_distance.ensures.value ∙ ap (λ (d : DemandPt). distance2 (place_of d) (point_of c.args.site)) (sym c.d.view_is) in
    rw (← c.d.view_is)
    (upper-repelling c.args.site d _ _ _ (repels d.w c.d.invariant.w c.if-d-gt0.false) distance c.enclosing_roots-floor.ensures.floor c.capped_radius-floor.ensures.value)
