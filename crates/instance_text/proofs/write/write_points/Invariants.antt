use Rattle.std.proofs.Common.{take, Ok}
use Rattle.std.specs.List.{flat_map}
use Rattle.port_io.specs.Output.{PutOn}
use Rattle.instance_text.specs.Written.{point_text}
use Rattle.instance_text.proofs.write.write_points.Given as goal

-- the text of what stands before was put
abbrev pub invariant-loop-point : goal.invariant-loop-point
invariant-loop-point g l =
    PutOn {T = Unit {0}} {E = Unit {0}} g.K.Sink.room g.K.Sink.taken g.K.Sink.faults g.K.Sink.is_strict l.fn.out l.out
    (flat_map point_text (take l.point-index l.points)) (Ok tt)
