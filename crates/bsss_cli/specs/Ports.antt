-- What contracts see of the source and the sink of a run.
use Rattle.std.specs.Prelude.{◌≡◌, ◌≢◌, ℕ, ◌≤◌, Bool, true, List, Option, IsTrue, ⊤}
use Rattle.port_io.specs.Output.{SinkView, sink_view}
use Rattle.bsss_cli.specs.declared.status.Status.{Status}
use Rattle.bsss_cli.specs.declared.status.Status.TheVariants.{Rejected, ReadFault, WriteFault}

-- the ghost members of a type of sources
pub record SourceGhosts (S : Type 0) : Type 0 where
  pub left : S → Option (List ℕ)
  pub faults : S → ℕ
  pub is_strict : Bool

abbrev pub source_ghosts : {S : Type 0} → (S → Option (List ℕ)) → (S → ℕ) → Bool → SourceGhosts S
source_ghosts left faults is_strict =
    record { left = left; faults = faults; is_strict = is_strict }

-- the ghost members of a type of sinks
pub record SinkGhosts (K : Type 0) : Type 0 where
  pub room : K → Option ℕ
  pub taken : K → Option (List ℕ)
  pub faults : K → ℕ
  pub is_strict : Bool

abbrev pub sink_ghosts : {K : Type 0} → (K → Option ℕ) → (K → Option (List ℕ)) → (K → ℕ) → Bool
    → SinkGhosts K
sink_ghosts room taken faults is_strict =
    record { room = room; taken = taken; faults = faults; is_strict = is_strict }

-- what a sink shows
abbrev pub view : {K : Type 0} → SinkGhosts K → K → SinkView
view k sink = sink_view k.room k.taken k.faults k.is_strict sink

-- A status that tells that no read failed: each but ReadFault. Where a command reads ahead of the
-- first fault of its input, a read may have failed after that, and so before its text was written.
abbrev pub TellsOfReads : (reads_ahead : Bool) → Status → Type 0
TellsOfReads reads_ahead ReadFault = ⊥
TellsOfReads true (Rejected fault) = ⊥
TellsOfReads true WriteFault = ⊥
TellsOfReads reads_ahead status = ⊤

-- What stays of a source in a run with this status: its count of faults never falls, and where the
-- count of a source stays in each call that doesn't fail, it stayed if the status tells so.
pub record KeepsSource {S : Type 0} (s : SourceGhosts S) (reads_ahead : Bool) (before after : S)
    (status : Status) : Type 0 where
  pub later : s.faults before ≤ s.faults after
  pub heard : IsTrue s.is_strict → TellsOfReads reads_ahead status
      → s.faults after ≡ s.faults before

-- What stays of a sink in a run with this status: its room, and the count of faults as of a source.
pub record KeepsSink {K : Type 0} (k : SinkGhosts K) (before after : K) (status : Status)
    : Type 0 where
  pub room : k.room after ≡ k.room before
  pub later : k.faults before ≤ k.faults after
  pub heard : IsTrue k.is_strict → status ≢ WriteFault → k.faults after ≡ k.faults before
