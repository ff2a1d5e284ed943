use Rattle.std.proofs.Common.{take, Ok}
use Rattle.std.specs.List.{flat_map}
use Rattle.port_io.specs.Output.{PutOn, piece_text}
use Rattle.port_io.proofs.buffered.Out.put_pieces.Given as goal

-- the pieces before this one were put
abbrev pub invariant-loop-piece : goal.invariant-loop-piece
invariant-loop-piece g l =
    PutOn {T = Unit {0}} {E = Unit {0}} g.K.Sink.room g.K.Sink.taken g.K.Sink.faults g.K.Sink.is_strict l.fn.self l.self
    (flat_map piece_text (take l.piece-index l.pieces)) (Ok tt)
