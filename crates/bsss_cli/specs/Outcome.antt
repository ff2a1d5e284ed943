-- What a run of the program answers, reads and writes, whatever its command.
use Rattle.std.specs.Prelude.{◌≡◌, ◌≢◌, ◌⊎◌, ℕ, ◌+◌, ◌≤◌, length, Bool, true, false, List, []}
use Rattle.std.specs.Prelude.{Option, Some, None, IfSome, ⊤}
use Rattle.std.specs.Io.KnownBytes.{Consumes}
use Rattle.port_io.specs.Faults.{Rose}
use Rattle.port_io.specs.Bytes.{piece_size, Took, TookFront}
use Rattle.port_io.specs.Output.{SinkView}
use Rattle.bsss_cli.specs.declared.status.Status.{Status}
use Rattle.bsss_cli.specs.declared.status.Status.TheVariants.{ReadFault, WriteFault, NoMemory}
use Rattle.bsss_cli.specs.Status.{Portion, Whole, Front, Nothing, meaning_of, HasReadAll}
use Rattle.bsss_cli.specs.Status.{HasWrittenNothing, IsOutside}
use Rattle.bsss_cli.specs.Ports.{SourceGhosts, SinkGhosts, view, KeepsSource, KeepsSink}

-- What a run with a command promises. Where a source tells its bytes, these are `told`.
pub record Promise : Type 1 where
  -- whether it reads its source
  pub reads : Bool
  -- whether it takes memory
  pub takes_memory : Bool
  -- whether it reads ahead of the first fault of its input
  pub reads_ahead : Bool
  -- what was read of its source, and what is left, when it answers a status, where the source tells
  -- its bytes
  pub stops : (got : List ℕ) (left : Option (List ℕ)) → Status → Type 0
  -- the statuses that it may answer, each with the text that it writes then
  pub answers : (told : Option (List ℕ)) → Status → (text : List ℕ) → Type 0
  -- the statuses that must come where the outside has no fault and there is memory
  pub wanted : (told : Option (List ℕ)) → Status → Type 0

-- it reads nothing, takes no memory, and answers one status with one text
abbrev pub refusal : Status → List ℕ → Promise
refusal says words = record {
  reads = false;
  takes_memory = false;
  reads_ahead = false;
  stops = λ got left status. ⊤;
  answers = λ told status text. (status ≡ says) × (text ≡ words);
  wanted = λ told status. ⊤;
}

-- P of the bytes that a source tells, or of some bytes where it tells none
abbrev pub OfBytes : Option (List ℕ) → (List ℕ → Type 0) → Type 0
OfBytes None P = (bytes : List ℕ) × P bytes
OfBytes (Some bytes) P = P bytes

-- How much of its source a command read that reads within a limit: a fault of reading and want of
-- memory came before more than the limit was read, and never is more than a piece read past it.
abbrev pub ReadsWithin : ℕ → List ℕ → Status → Type 0
ReadsWithin limit got ReadFault = length got ≤ limit
ReadsWithin limit got NoMemory = length got ≤ limit
ReadsWithin limit got status = length got ≤ limit + piece_size

-- ---- what was written
-- the sink took the whole text of an answer
pub record Finished (p : Promise) (told : Option (List ℕ)) (before after : SinkView)
    (status : Status) : Type 0 where
  pub text : List ℕ
  pub answers : p.answers told status text
  pub took : Took before.room before.taken after.taken text

-- the sink took a prefix of the text of what the run was to answer
pub record CutShort (p : Promise) (told : Option (List ℕ)) (before after : SinkView)
    : Type 0 where
  pub status : Status
  pub text : List ℕ
  pub answers : p.answers told status text
  pub took : TookFront before.room before.taken after.taken text

abbrev pub WritesSo : Portion → Promise → Option (List ℕ) → SinkView → SinkView → Status → Type 0
WritesSo Whole p told before after status = Finished p told before after status
WritesSo Front p told before after status = CutShort p told before after
WritesSo Nothing p told before after status = after.taken ≡ before.taken

-- What the sink took, by the status: nothing after a fault of reading and after want of memory, a
-- prefix of a text after a fault of writing, and else the whole text of the answer.
abbrev pub Writes : Promise → Option (List ℕ) → SinkView → SinkView → Status → Type 0
Writes p told before after status = WritesSo (meaning_of status).taken p told before after status

-- what comes where the outside has no fault and there is memory
abbrev pub Completes : Promise → Option (List ℕ) → Status → Type 0
Completes p told status = p.wanted told status ⊎ IsOutside status

-- ---- what a run did to its sink and its source, of which these are the ghost members
-- It wrote a text to say this status: the sink took the whole text, or a front of it and the status
-- is WriteFault.
pub record Says {K : Type 0} (k : SinkGhosts K) (before after : K) (says : Status) (text : List ℕ)
    (status : Status) : Type 0 where
  pub outcome :
      ((status ≡ says) × Took (k.room before) (k.taken before) (k.taken after) text)
      ⊎ ((status ≡ WriteFault) × TookFront (k.room before) (k.taken before) (k.taken after) text
      × Rose (k.faults before) (k.faults after))
  pub sink : KeepsSink k before after status

-- it wrote as it promised, and no read failed
pub record Ended {K : Type 0} (k : SinkGhosts K) (p : Promise) (told : Option (List ℕ))
    (before after : K) (status : Status) : Type 0 where
  pub written : Writes p told (view k before) (view k after) status
  pub unwritten : HasWrittenNothing status → after ≡ before
  pub write_fault : status ≡ WriteFault → Rose (k.faults before) (k.faults after)
  pub no_read_fault : status ≢ ReadFault
  pub memory : status ≡ NoMemory → p.takes_memory ≡ true
  pub sink : KeepsSink k before after status

-- the bytes that were read of a source that tells them
pub record HasRead (p : Promise) (before after : Option (List ℕ)) (status : Status) : Type 0 where
  pub got : List ℕ
  pub consumed : Consumes before after got
  pub stops : p.stops got after status

-- What a run did: it read and wrote as it promised, and each status has its cause.
pub record Ran {S K : Type 0} (s : SourceGhosts S) (k : SinkGhosts K) (p : Promise)
    (old_source new_source : S) (old_sink new_sink : K) (status : Status) : Type 0 where
  -- what the sink took
  pub written : Writes p (s.left old_source) (view k old_sink) (view k new_sink) status
  pub unwritten : HasWrittenNothing status → new_sink ≡ old_sink
  -- the causes from outside: a fault was counted, or memory was taken
  pub write_fault : status ≡ WriteFault → Rose (k.faults old_sink) (k.faults new_sink)
  pub read_fault : status ≡ ReadFault → Rose (s.faults old_source) (s.faults new_source)
  pub memory : status ≡ NoMemory → p.takes_memory ≡ true
  -- what was read
  pub reader : status ≡ ReadFault → p.reads ≡ true
  pub unread : p.reads ≡ false → new_source ≡ old_source
  pub read : p.reads ≡ true → HasReadAll status
      → IfSome (s.left old_source) (λ bytes. s.left new_source ≡ Some [])
  pub stops : p.reads ≡ true
      → IfSome (s.left old_source)
      (λ bytes. HasRead p (s.left old_source) (s.left new_source) status)
  -- what stays, so that another run may follow
  pub source : KeepsSource s p.reads_ahead old_source new_source status
  pub sink : KeepsSink k old_sink new_sink status
