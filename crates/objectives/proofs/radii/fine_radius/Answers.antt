use Rattle.std.proofs.Common.{sym, ap, ◌∙◌}
use Rattle.std.specs.Prelude.{int_lt, pos}
use Rattle.siting_definitions.specs.Instance.{DemandPt, place_of}
use Rattle.objectives.proofs.Computed.{fine-by}
use Rattle.objectives.proofs.radii.fine_radius.Goals as goal

pub returns-clause-value : goal.returns-clause-value
returns-clause-value c =
    let d : DemandPt = record { x = c.d.inside.x; y = c.d.inside.y; w = c.d.inside.w; cutoff = c.d.inside.cutoff } in
    let sign = c.attracts-repels.ensures ∙ ap (λ (d : DemandPt). int_lt (pos 0) d.w) (sym c.d.view_is) in
    let place = c.place_of.ensures ∙ ap place_of (sym c.d.view_is) in
    rw (← c.d.view_is)
    (fine-by c.args.sq d _ _ _ _ c.attracts-repels.result sign place c.near_or_far2.ensures.value c.fine_root-root.ensures.value c.capped_radius.ensures.value)
