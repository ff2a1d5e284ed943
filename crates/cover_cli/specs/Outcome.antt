-- What a run answers, reads and writes.
use Rattle.std.specs.Prelude.{◌≡◌, ◌≢◌, ◌⊎◌, ℕ, ◌<◌, ◌≤◌, length, true, List, [], Option, Some, None, Ok, Err, IfSome, IsTrue, ⊤}
use Rattle.siting_definitions.specs.Point.{Point}
use Rattle.siting_definitions.specs.Instance.{IsInstance}
use Rattle.siting_definitions.specs.Permitted.{permits}
use Rattle.edge_chain.specs.Chain.{edges_of}
use Rattle.edge_chain.specs.Limit.{IsLimit}
use Rattle.edge_chain.specs.Wanted.{IsWanted}
use Rattle.cover_check.specs.Cover.{Cover, IsCover, fine_point, lies_in}
use Rattle.cover_check.specs.Verdict.{Tells}
use Rattle.cover_text.specs.declared.faults.CoverError.TheVariants.{Fault, Instance}
use Rattle.cover_text.specs.Reading.{reading}
use Rattle.port_io.specs.Faults.{Rose}
use Rattle.port_io.specs.Bytes.{Took, TookFront}
use Rattle.port_io.specs.Output.{SinkView}
use Rattle.cover_cli.specs.declared.TheConstants.{TEXT_LIMIT}
use Rattle.cover_cli.specs.declared.status.Verdict.{Verdict}
use Rattle.cover_cli.specs.declared.status.Verdict.TheVariants.{Covered, BadCover, BadInstance, Uncovered, TooLong}
use Rattle.cover_cli.specs.declared.status.Status.{Status}
use Rattle.cover_cli.specs.declared.status.Status.TheVariants.{Said, ReadFault, WriteFault}
use Rattle.cover_cli.specs.Texts.{text_of}
use Rattle.cover_cli.specs.Ports.{SourceView}

-- ---- what bytes come to
-- they are the text of a cover, whose instance is within the limits, and P holds of it
pub record ReadsAs (bytes : List ℕ) (P : Cover → Type 0) : Type 0 where
  pub short : length bytes ≤ TEXT_LIMIT
  pub cover : Cover
  pub read : reading bytes ≡ Ok cover
  pub limits : IsInstance cover.instance
  pub holds : P cover

-- what is said of bytes holds of them
abbrev pub Judges : List ℕ → Verdict → Type 0
Judges bytes Covered = ReadsAs bytes IsCover
Judges bytes (BadCover fault) = (length bytes ≤ TEXT_LIMIT) × (reading bytes ≡ Err (Fault fault))
Judges bytes (BadInstance fault) =
    (length bytes ≤ TEXT_LIMIT) × (reading bytes ≡ Err (Instance fault))
Judges bytes (Uncovered fault) = ReadsAs bytes (λ cover. Tells cover (Some fault))
Judges bytes TooLong = TEXT_LIMIT < length bytes

-- what is said of a cover holds of it
abbrev pub JudgesCover : Cover → Verdict → Type 0
JudgesCover c Covered = IsCover c
JudgesCover c (Uncovered fault) = Tells c (Some fault)
JudgesCover c verdict = ⊥

-- P of the bytes that a source tells, or of some bytes where it tells none
abbrev pub OfBytes : Option (List ℕ) → (List ℕ → Type 0) → Type 0
OfBytes None P = (bytes : List ℕ) × P bytes
OfBytes (Some bytes) P = P bytes

-- what is said of the bytes of a source holds of them; of bytes that it doesn't tell nothing is known
-- where they are too many
abbrev pub Answers : Option (List ℕ) → Verdict → Type 0
Answers None TooLong = ⊤
Answers told verdict = OfBytes told (λ bytes. Judges bytes verdict)

-- ---- what was written
-- the sink took a front of the text of what was to be said
pub record CutShort (told : Option (List ℕ)) (before after : SinkView) : Type 0 where
  pub verdict : Verdict
  pub answers : Answers told verdict
  pub took : TookFront before.room before.taken after.taken (text_of verdict)

-- the sink took the text of what is said, a front of one after a fault of writing, and nothing after
-- a fault of reading and where memory ran out
abbrev pub Writes : Option (List ℕ) → SinkView → SinkView → Status → Type 0
Writes told before after (Said verdict) =
    Answers told verdict × Took before.room before.taken after.taken (text_of verdict)
Writes told before after WriteFault = CutShort told before after
Writes told before after status = after ≡ before

-- the source was read to its end where the whole of its bytes is judged
abbrev pub ReadsAll : Option (List ℕ) → Option (List ℕ) → Status → Type 0
ReadsAll told left (Said TooLong) = ⊤
ReadsAll told left (Said verdict) = IfSome told (λ bytes. left ≡ Some [])
ReadsAll told left status = ⊤

-- What a run did: it wrote as was said, each fault has its cause, and a port that counts no fault in
-- a call that doesn't fail counted none where none is answered.
pub record Ran (source rest : SourceView) (before after : SinkView) (status : Status) : Type 0 where
  pub written : Writes source.left before after status
  pub read : ReadsAll source.left rest.left status
  pub write_fault : status ≡ WriteFault → Rose before.faults after.faults
  pub read_fault : status ≡ ReadFault → Rose source.faults rest.faults
  pub room : after.room ≡ before.room
  pub source_later : source.faults ≤ rest.faults
  pub sink_later : before.faults ≤ after.faults
  pub source_heard : IsTrue source.is_strict → status ≢ ReadFault → rest.faults ≡ source.faults
  pub sink_heard : IsTrue before.is_strict → status ≢ WriteFault → after.faults ≡ before.faults

-- what was written to say a verdict, or could not be
pub record Says (before after : SinkView) (verdict : Verdict) (status : Status) : Type 0 where
  pub outcome :
      ((status ≡ Said verdict) × Took before.room before.taken after.taken (text_of verdict))
      ⊎ ((status ≡ WriteFault)
      × TookFront before.room before.taken after.taken (text_of verdict)
      × Rose before.faults after.faults)
  pub room : after.room ≡ before.room
  pub later : before.faults ≤ after.faults
  pub heard : IsTrue before.is_strict → status ≢ WriteFault → after.faults ≡ before.faults

-- ---- what `covered` says
-- the instance permits each point of the tile that is a limit of points inside the region and outside
-- the forbidden areas
abbrev pub Permits : Cover → Type 0
Permits c =
    (p : Point) → lies_in c.tile (fine_point c.shift p) ≡ true
    → IsLimit (IsWanted (edges_of c.region) (edges_of c.forbidden)) (fine_point c.shift p)
    → permits c.instance p ≡ true

-- so it does where this is the status
abbrev pub PermitsWanted : Option (List ℕ) → Status → Type 0
PermitsWanted told (Said Covered) = OfBytes told (λ bytes. ReadsAs bytes Permits)
PermitsWanted told status = ⊤

-- a fault of the outside, or want of memory
abbrev pub IsOutside : Status → Type 0
IsOutside (Said verdict) = ⊥
IsOutside status = ⊤

-- what comes where the outside has no fault and there is memory: `covered` to each cover within the
-- limit
abbrev pub Completes : Option (List ℕ) → Status → Type 0
Completes told status =
    IfSome told (λ bytes. (c : Cover) → length bytes ≤ TEXT_LIMIT → reading bytes ≡ Ok c → IsCover c
    → (status ≡ Said Covered) ⊎ IsOutside status)
