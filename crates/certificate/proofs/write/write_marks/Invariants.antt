use Rattle.std.proofs.Common.{take, Ok}
use Rattle.std.specs.List.{flat_map}
use Rattle.port_io.specs.Output.{PutOn}
use Rattle.certificate.specs.Written.{node_text}
use Rattle.certificate.proofs.write.write_marks.Given as goal

-- the lines of the nodes before were put
abbrev pub invariant-loop-node : goal.invariant-loop-node
invariant-loop-node g l =
    PutOn {T = Unit {0}} {E = Unit {0}} g.K.Sink.room g.K.Sink.taken g.K.Sink.faults g.K.Sink.is_strict l.fn.out l.out (flat_map node_text (take l.node-index l.nodes)) (Ok tt)
