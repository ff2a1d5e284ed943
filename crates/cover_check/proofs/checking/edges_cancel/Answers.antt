use Rattle.std.proofs.Common.{◌↔◌, List, ◌++◌, map, ◌∙◌, ap, subst}
use Rattle.std.specs.Prelude.{IfOk, IsTrue}
use Rattle.edge_chain.specs.Chain.{Edge, reversed, edges_of, Cancel}
use Rattle.edge_chain.specs.Triangle.{triangle_edges}
use Rattle.cover_check.specs.Cover.{Owned}
use Rattle.cover_check.proofs.checking.edges_cancel.Goals as goal

pub returns : goal.returns
returns c =
    let cover = c.args.cover.now in
    let region = c.as_slice.ensures.value ∙ c.in_ok-region.ensures ∙ ap edges_of c.region.ensures in
    let edges =
    c.in_ok-edges.ensures
    ∙ ap (λ (os : List Owned). triangle_edges (map (λ (o : Owned). o.triangle) os) ++ map reversed c.as_slice.result.now) c.triangles.ensures
    ∙ ap (λ (es : List Edge). triangle_edges (map (λ (o : Owned). o.triangle) cover.triangles) ++ map reversed es) region in
    subst (λ (es : List Edge). IfOk c.cancel.result (λ b. IsTrue b ↔ Cancel es)) edges c.cancel.ensures
