use Rattle.std.proofs.Common.{◌≡◌, length}
use Rattle.text_lines.specs.Lines.{fields_of}
use Rattle.cover_text.specs.Rows.{vertices_of}
use Rattle.cover_text.proofs.RowLemmas.{behind}
use Rattle.cover_text.proofs.rows.read_vertices.Given as goal

abbrev pub invariant-pairs : goal.invariant-pairs
invariant-pairs l = behind l.vertices.items (vertices_of (fields_of l.rest)) ≡ vertices_of (fields_of l.fields)

abbrev pub decreases-pairs : goal.decreases-pairs
decreases-pairs l = length l.rest
