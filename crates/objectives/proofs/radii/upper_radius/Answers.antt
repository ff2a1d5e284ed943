use Rattle.std.proofs.Common.{sym, ap, ◌∙◌}
use Rattle.std.specs.Prelude.{int_lt, pos}
use Rattle.siting_definitions.specs.Point.{point_of}
use Rattle.siting_definitions.specs.Instance.{DemandPt, place_of}
use Rattle.siting_definitions.specs.Cost.{distance2}
use Rattle.objectives.proofs.Computed.{upper-by}
use Rattle.objectives.proofs.radii.upper_radius.Goals as goal

pub returns-clause-value : goal.returns-clause-value
returns-clause-value c =
    let d : DemandPt = record { x = c.d.inside.x; y = c.d.inside.y; w = c.d.inside.w; cutoff = c.d.inside.cutoff } in
    let sign = c.attracts.ensures ∙ ap (λ (d : DemandPt). int_lt (pos 0) d.w) (sym c.d.view_is) in
    let distance = c.squared_distance-squared.ensures.value ∙ ap (λ (d : DemandPt). distance2 (place_of d) (point_of c.args.site)) (sym c.d.view_is) in
    rw (← c.d.view_is)
    (upper-by c.args.site d _ _ _ c.attracts.result sign distance c.fine_root.ensures.value c.capped_radius.ensures.value)
