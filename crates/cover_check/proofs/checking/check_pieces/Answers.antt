use Rattle.std.proofs.Common.{ℕ, Option, subst}
use Rattle.edge_chain.specs.Chain.{edges_of}
use Rattle.cover_check.specs.Verdict.{HasWanted, fine_polygons}
use Rattle.cover_check.proofs.VerdictLemmas.{tells_cover}
use Rattle.cover_check.proofs.checking.check_pieces.Goals as goal

pub returns-in-None : goal.returns-in-None
returns-in-None c =
    let cover = c.args.cover.now in
    tells_cover cover c.requires.edges c.requires.triangles
    (subst (λ (o : Option ℕ). HasWanted (edges_of cover.region) (edges_of cover.forbidden) (fine_polygons cover.shift cover.instance.forbidden) o) c.in-None.is c.in_ok-wanted_piece.ensures)
