use Rattle.std.proofs.Common.{sym, ◌∙◌, subst, arith}
use Rattle.site_model.specs.Box.{IsBoxWithin}
use Rattle.siting_definitions.specs.Sites.{vertices}
use Rattle.site_model.proofs.Vertices.{some_vertices, places_of, IsBoxWithin-bounds}
use Rattle.site_model.proofs.Rooted.{root_is}
use Rattle.site_model.proofs.root.root_over.Goals as goal

pub square_over-requires : goal.square_over-requires
square_over-requires c =
    let ps = c.args.permitted.now in
    let polygons = c.box_of_all.ensures.polygons in
    subst IsBoxWithin (sym c.box_of_all.ensures.value) (IsBoxWithin-bounds (vertices ps) (some_vertices ps (omega arith) polygons) (places_of ps polygons))

pub returns-clause-value : goal.returns-clause-value
returns-clause-value c = λ i same.
    c.square_over.ensures ∙ root_is c.box_of_all.result c.args.permitted.now i c.box_of_all.ensures.value same
