use Rattle.std.proofs.Common.{refl}
use Rattle.port_io.proofs.PutLemmas.{PutOn-then, PutOn-stop}
use Rattle.instance_text.proofs.Written.{polygon_text-parts}
use Rattle.instance_text.proofs.write.write_polygon.Goals as goal

pub returns-in_err-put : goal.returns-in_err-put
returns-in_err-put g c =
    rw (polygon_text-parts c.args.word.now c.args.polygon.now) (PutOn-stop _ refl c.from_residual.ensures.0 c.in_err-put.ensures)

pub returns-in_err-write_vertices : goal.returns-in_err-write_vertices
returns-in_err-write_vertices g c =
    rw (polygon_text-parts c.args.word.now c.args.polygon.now)
    (PutOn-then c.in_ok-put.ensures (PutOn-stop _ refl c.from_residual-in_err-write_vertices.ensures.0 c.in_err-write_vertices.ensures))

pub returns : goal.returns
returns g c =
    rw (polygon_text-parts c.args.word.now c.args.polygon.now)
    (PutOn-then c.in_ok-put.ensures (PutOn-then c.in_ok-write_vertices.ensures c.put-2.ensures))
