use Rattle.std.proofs.Common.{◌≡◌, ◌≤◌, List, length, sym, ◌∙◌, ap, subst}
use Rattle.std.specs.List.{All}
use Rattle.siting_definitions.specs.Point.{Place}
use Rattle.siting_definitions.specs.Instance.{Instance}
use Rattle.cover_check.specs.Verdict.{fine_polygons}
use Rattle.cover_check.proofs.VerdictLemmas.{few_corners}
use Rattle.cover_check.proofs.checking.wanted_piece.Goals as goal

pub first_wanted-requires-clause-few : goal.first_wanted-requires-clause-few
first_wanted-requires-clause-few c =
    let cover = c.args.cover.now in
    let same : c.as_slice-6.result.now ≡ fine_polygons cover.shift cover.instance.forbidden =
    c.as_slice-6.ensures.value ∙ c.in_ok-pieces.ensures
    ∙ ap (λ s. fine_polygons s c.forbidden-2.result.now) c.shift.ensures.value
    ∙ ap (λ vss. fine_polygons cover.shift vss) (c.forbidden-2.ensures ∙ ap (λ (i : Instance). i.forbidden) c.instance.ensures.value) in
    subst (λ (vss : List (List Place)). All (λ vs. 3 ≤ length vs) vss) (sym same) (few_corners cover.shift cover.instance.forbidden c.instance.ensures.limits.forbidden)
