use Rattle.std.proofs.Common.{◌≡◌, ◌≤◌, ◌-◌, length, take}
use Rattle.std.specs.Prelude.{IsTrue}
use Rattle.port_io.specs.Bytes.{Took}
use Rattle.port_io.proofs.buffered.write_all.Given as goal

-- the sink took the bytes before `at`
abbrev pub invariant-loop-at : goal.invariant-loop-at
invariant-loop-at g l = record {
  within : l.at ≤ length l.bytes;
  took : Took (g.K.Sink.room l.fn.sink) (g.K.Sink.taken l.fn.sink) (g.K.Sink.taken l.sink) (take l.at l.bytes);
  room : g.K.Sink.room l.sink ≡ g.K.Sink.room l.fn.sink;
  later : g.K.Sink.faults l.fn.sink ≤ g.K.Sink.faults l.sink;
  quiet : IsTrue g.K.Sink.is_strict → g.K.Sink.faults l.sink ≡ g.K.Sink.faults l.fn.sink;
}

-- each turn writes a byte at least
abbrev pub decreases-loop-at : goal.decreases-loop-at
decreases-loop-at g l = length l.bytes - l.at
