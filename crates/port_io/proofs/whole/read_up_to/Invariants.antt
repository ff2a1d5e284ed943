use Rattle.std.proofs.Common.{◌≡◌, ◌≤◌, ◌-◌, vec_len}
use Rattle.std.specs.Prelude.{IsTrue}
use Rattle.std.specs.Io.KnownBytes.{Consumes}
use Rattle.port_io.proofs.whole.read_up_to.Given as goal

-- the bytes read so far are a front of what was left, and fit the limit
abbrev pub invariant-loop-count : goal.invariant-loop-count
invariant-loop-count g l = record {
  short : vec_len l.bytes ≤ l.limit;
  front : Consumes (g.S.Source.left l.fn.source) (g.S.Source.left l.source) l.bytes.items;
  later : g.S.Source.faults l.fn.source ≤ g.S.Source.faults l.source;
  quiet : IsTrue g.S.Source.is_strict → g.S.Source.faults l.source ≡ g.S.Source.faults l.fn.source;
}

-- each turn reads a byte at least
abbrev pub decreases-loop-count : goal.decreases-loop-count
decreases-loop-count g l = l.limit - vec_len l.bytes
