use Rattle.std.proofs.Common.{◌≡◌, ◌∙◌, ◌++◌, List, length, take, drop, reverse, sym, ap, FitsSigned, w64, arith, rules}
use Rattle.std.proofs.lemmas.List.{with_items_is}
use Rattle.siting_definitions.specs.Point.{Place}
use Rattle.siting_definitions.specs.Polygon.{turned}
use Rattle.convex_region.proofs.Edges.{turned_back, turned_not, length-turned, area_below, area_not_below}
use Rattle.convex_region.proofs.build.turned_list.Goals.{then-doubled_area-lt0, else-doubled_area-lt0}
use Rattle.convex_region.proofs.build.turned_list.Goals as goal

pub returns : goal.returns
returns c =
    let fits : FitsSigned w64 c.doubled_area.result = search rules in
    let vertices = c.args.vertices.now in
    elim c.if-doubled_area-lt0.branch [
      | then-doubled_area-lt0 w ↦
          let less = area_below c.doubled_area.result _ fits c.doubled_area.ensures w.if-doubled_area-lt0.true in
          let at : w.as_mut_slice.result.now ≡ vertices = w.as_mut_slice.ensures.value ∙ c.in_ok-all.ensures.items in
          let now : w.reverse_after_first.new.vertices ≡ turned vertices =
          w.reverse_after_first.ensures ∙ ap (λ (vs : List Place). take 1 vs ++ reverse (drop 1 vs)) at ∙ sym (turned_back vertices less) in
          let same : length w.reverse_after_first.new.vertices ≡ c.in_ok-all.all.len = omega (arith, ap length now, length-turned vertices, c.in_ok-all.ensures.len) in
          ap (λ v. v.items) w.all-is ∙ with_items_is c.in_ok-all.all w.reverse_after_first.new.vertices same ∙ now
      | else-doubled_area-lt0 w ↦
          let more = area_not_below c.doubled_area.result _ fits c.doubled_area.ensures w.if-doubled_area-lt0.false in
          ap (λ v. v.items) w.all-is ∙ c.in_ok-all.ensures.items ∙ sym (turned_not vertices more)
    ]
