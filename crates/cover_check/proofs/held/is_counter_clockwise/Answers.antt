use Rattle.std.proofs.Common.{◌≡◌, w64, to_z, of_z, ◌∙◌, ap}
use Rattle.siting_definitions.specs.Point.{Place}
use Rattle.edge_chain.specs.Triangle.{Triangle}
use Rattle.cover_check.proofs.BeyondLemmas.{coded, product_of, turn_is}
use Rattle.cover_check.proofs.held.is_counter_clockwise.Goals as goal

pub returns : goal.returns
returns c =
    let t = c.args.t in
    let a = c.a.view_is ∙ ap (λ (s : Triangle). s.a) c.t.view_is in
    let b = c.b.view_is ∙ ap (λ (s : Triangle). s.b) c.t.view_is in
    let d = c.c.view_is ∙ ap (λ (s : Triangle). s.c) c.t.view_is in
    let ax : to_z w64 (of_z w64 c.a.inside.x) ≡ t.a.x = coded _ c.a.invariant.x ∙ ap (λ (v : Place). v.x) a in
    let ay : to_z w64 (of_z w64 c.a.inside.y) ≡ t.a.y = coded _ c.a.invariant.y ∙ ap (λ (v : Place). v.y) a in
    let bx : to_z w64 (of_z w64 c.b.inside.x) ≡ t.b.x = coded _ c.b.invariant.x ∙ ap (λ (v : Place). v.x) b in
    let by : to_z w64 (of_z w64 c.b.inside.y) ≡ t.b.y = coded _ c.b.invariant.y ∙ ap (λ (v : Place). v.y) b in
    let cx : to_z w64 (of_z w64 c.c.inside.x) ≡ t.c.x = coded _ c.c.invariant.x ∙ ap (λ (v : Place). v.x) d in
    let cy : to_z w64 (of_z w64 c.c.inside.y) ≡ t.c.y = coded _ c.c.invariant.y ∙ ap (λ (v : Place). v.y) d in
    turn_is t _ _
    (product_of c.product-left.result c.way.result c.way-2.result _ _ _ _ _ _ _ _ c.product-left.ensures.size c.way.ensures.size c.way-2.ensures.size c.product-left.ensures.value c.way.ensures.value c.way-2.ensures.value bx ax cy ay)
    (product_of c.product-right.result c.way-3.result c.way-4.result _ _ _ _ _ _ _ _ c.product-right.ensures.size c.way-3.ensures.size c.way-4.ensures.size c.product-right.ensures.value c.way-3.ensures.value c.way-4.ensures.value by ay cx ax)
