use Rattle.std.proofs.Common.{sym, ap, ◌∙◌, subst, arith}
use Rattle.site_model.specs.Box.{IsBoxWithin, square_of_box}
use Rattle.site_model.proofs.Rooted.{all_held}
use Rattle.site_model.proofs.Vertices.{IsBoxWithin-bounds}
use Rattle.site_model.proofs.root.square_round.Goals as goal

pub square_over-requires : goal.square_over-requires
square_over-requires c =
    let few = c.bounds.ensures.polygon.few in
    subst IsBoxWithin (sym c.bounds.ensures.value) (IsBoxWithin-bounds c.args.polygon.now (omega arith) c.bounds.ensures.polygon.places)

pub returns-clause-vertices : goal.returns-clause-vertices
returns-clause-vertices c = all_held c.args.polygon.now _ (c.square_over.ensures ∙ ap square_of_box c.bounds.ensures.value)
