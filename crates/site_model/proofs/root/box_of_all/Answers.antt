use Rattle.std.proofs.Common.{◌≤◌, ap, ◌∙◌, subst, arith}
use Rattle.std.proofs.lemmas.List.Elements.{All-more}
use Rattle.siting_definitions.specs.Instance.{IsPolygon}
use Rattle.site_model.specs.Box.{box_round}
use Rattle.site_model.proofs.Vertices.{bounds-more}
use Rattle.site_model.proofs.root.box_of_all.Goals as goal

pub loop-i-preserved : goal.loop-i-preserved
loop-i-preserved c =
    let some : 1 ≤ c.loop-i.i = omega arith in (
      bounds-more c.args.polygons.now c.loop-i.i c.index-polygons-i.result c.loop-i.bounds c.box_round-bounds.result c.loop-i-test.true some
          c.loop-i.invariant.1 c.index-polygons-i.is c.bounds.ensures.polygon c.loop-i.invariant.0
          (c.box_round-bounds.ensures ∙ ap (box_round c.loop-i.bounds) c.bounds.ensures.value),
      All-more IsPolygon c.args.polygons.now c.loop-i.i c.index-polygons-i.result c.loop-i-test.true c.loop-i.invariant.1
          (subst IsPolygon c.index-polygons-i.is c.bounds.ensures.polygon),
    )
