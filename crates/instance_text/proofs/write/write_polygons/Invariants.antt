use Rattle.std.proofs.Common.{take, Ok}
use Rattle.std.specs.List.{flat_map}
use Rattle.port_io.specs.Output.{PutOn}
use Rattle.instance_text.specs.Written.{polygon_text}
use Rattle.instance_text.proofs.write.write_polygons.Given as goal

-- the text of what stands before was put
abbrev pub invariant-loop-polygon : goal.invariant-loop-polygon
invariant-loop-polygon g l =
    PutOn {T = Unit {0}} {E = Unit {0}} g.K.Sink.room g.K.Sink.taken g.K.Sink.faults g.K.Sink.is_strict l.fn.out l.out
    (flat_map (polygon_text l.word) (take l.polygon-index l.polygons)) (Ok tt)
