use Rattle.std.proofs.Common.{◌≡◌, [], ◌∷◌, ◌++◌, arith}
use Rattle.text_lines.specs.Lines.{fields_of}
use Rattle.cover_text.proofs.RowLemmas.{vertices_more}
use Rattle.cover_text.proofs.rows.read_vertices.Goals as goal

pub pairs-preserved : goal.pairs-preserved
pairs-preserved c =
    let pushed : c.push.new.self.items ≡ c.pairs.vertices.items ++ c.in-Ok.read.0 ∷ [] = grind arith in
    vertices_more (fields_of c.pairs.rest.now) (fields_of c.in-Ok.read.1.now) c.pairs.vertices.items c.push.new.self.items c.in-Ok.read.0 _ c.in-Ok.ensures.value c.pairs.invariant pushed
