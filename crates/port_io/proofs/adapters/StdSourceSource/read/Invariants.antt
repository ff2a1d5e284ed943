use Rattle.std.proofs.Common.{◌≡◌}
use Rattle.std.specs.Io.KnownBytes.{Keeps}
use Rattle.port_io.proofs.adapters.StdSourceSource.read.Given as goal

-- reads that were interrupted changed nothing
abbrev pub invariant-loop : goal.invariant-loop
invariant-loop g l = record {
  left : Keeps (g.R.Read.remaining l.fn.self.inner) (g.R.Read.remaining l.self.inner);
  faults : l.self.faults ≡ l.fn.self.faults;
}
