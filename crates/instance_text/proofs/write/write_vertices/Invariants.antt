use Rattle.std.proofs.Common.{take, Ok}
use Rattle.std.specs.List.{flat_map}
use Rattle.port_io.specs.Output.{PutOn}
use Rattle.instance_text.specs.Written.{vertex_text}
use Rattle.instance_text.proofs.write.write_vertices.Given as goal

-- the text of what stands before was put
abbrev pub invariant-loop-i : goal.invariant-loop-i
invariant-loop-i g l =
    PutOn {T = Unit {0}} {E = Unit {0}} g.K.Sink.room g.K.Sink.taken g.K.Sink.faults g.K.Sink.is_strict l.fn.out l.out (flat_map vertex_text (take l.i l.polygon)) (Ok tt)
