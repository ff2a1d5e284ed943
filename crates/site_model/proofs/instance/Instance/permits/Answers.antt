use Rattle.std.proofs.Common.{◌≡◌, Bool, true, false, not, ◌&&◌, sym, ap, ◌∙◌}
use Rattle.std.specs.List.{list_any}
use Rattle.std.proofs.lemmas.Bool.{false≢true}
use Rattle.siting_definitions.specs.Point.{point_of}
use Rattle.siting_definitions.specs.Polygon.{covers, covers_inside}
use Rattle.siting_definitions.specs.Instance.{Instance}
use Rattle.siting_definitions.specs.Permitted.{permits}
use Rattle.site_model.proofs.instance.Instance.permits.Goals as goal

when_covered : (a b s : Bool) → a ≡ true → s ≡ b → not s ≡ (a && not b)
when_covered true b s e same = ap not same
when_covered false b s e same = absurd (false≢true e)

when_not_covered : (a b r : Bool) → r ≡ false → r ≡ a → r ≡ (a && not b)
when_not_covered true b r e same = absurd (false≢true (sym e ∙ same))
when_not_covered false b r e same = e

pub returns-then-some_covers : goal.returns-then-some_covers
unfolding permits
returns-then-some_covers c =
    let p = point_of c.args.p in
    let outer = c.some_covers.ensures ∙ ap (list_any (λ vs. covers vs p)) (c.as_slice.ensures.value ∙ ap (λ (i : Instance). i.permitted) c.self.view_is) in
    let inner =
    c.some_covers_inside.ensures ∙ ap (list_any (λ vs. covers_inside vs p)) (c.as_slice-then-some_covers.ensures.value ∙ ap (λ (i : Instance). i.forbidden) c.self.view_is) in
    when_covered _ _ c.some_covers_inside.result (sym outer ∙ c.if-some_covers.true) inner

pub returns-else-some_covers : goal.returns-else-some_covers
unfolding permits
returns-else-some_covers c =
    let p = point_of c.args.p in
    let outer = c.some_covers.ensures ∙ ap (list_any (λ vs. covers vs p)) (c.as_slice.ensures.value ∙ ap (λ (i : Instance). i.permitted) c.self.view_is) in
    when_not_covered _ _ c.some_covers.result c.if-some_covers.false outer
