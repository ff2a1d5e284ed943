use Rattle.std.proofs.Common.{◌<◌, length, refl, arith}
use Rattle.siting_definitions.specs.Polygon.{origin}
use Rattle.port_io.proofs.PutLemmas.{PutOn-next, PutOn-next_stop}
use Rattle.instance_text.specs.Written.{vertex_text}
use Rattle.instance_text.proofs.write.write_vertices.Goals as goal

pub loop-i-preserved : goal.loop-i-preserved
loop-i-preserved g c =
    let inside : c.loop-i.i < length c.args.polygon.now = omega arith in
    PutOn-next vertex_text c.args.polygon.now c.loop-i.i origin inside c.loop-i.invariant (rw c.vertex.ensures at c.in_ok-write_vertex.ensures)

pub returns-in_err-write_vertex : goal.returns-in_err-write_vertex
returns-in_err-write_vertex g c =
    let inside : c.loop-i.i < length c.args.polygon.now = omega arith in
    PutOn-next_stop vertex_text c.args.polygon.now c.loop-i.i origin inside refl c.from_residual.ensures.0 c.loop-i.invariant
    (rw c.vertex.ensures at c.in_err-write_vertex.ensures)
