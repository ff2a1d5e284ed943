-- What a command answers that loads an answer, where that is not a valid one.
use Rattle.std.specs.Prelude.{◌≡◌, ℕ, ◌<◌, ◌≤◌, true, false, List, [], length, Option, Some, IfSome}
use Rattle.std.specs.Prelude.{Err, ⊤}
use Rattle.std.specs.Io.KnownBytes.{Consumes}
use Rattle.siting_definitions.specs.AnswerText.{answer_text}
use Rattle.siting_definitions.specs.Answer.{Head, Answer, IsValid}
use Rattle.discard_log.specs.declared.node.Node.{Node}
use Rattle.search_answer.specs.Ending.{answer_of}
use Rattle.cert_checker.specs.declared.faults.CheckFault.{CheckFault}
use Rattle.cert_checker.specs.declared.faults.CheckError.TheVariants as errors
use Rattle.cert_checker.specs.Checking.{checking}
use Rattle.resume_job.specs.Loading.{AreOfValid}
use Rattle.siting_definitions.specs.declared.TheConstants.{LOAD_LIMIT}
use Rattle.bsss_cli.specs.declared.status.Status.{Status}
use Rattle.bsss_cli.specs.declared.status.Status.TheVariants.{Rejected, TooLong}
use Rattle.bsss_cli.specs.Texts.{too_long, rejected}
use Rattle.bsss_cli.specs.Ports.{SourceGhosts, KeepsSource}
use Rattle.bsss_cli.specs.Outcome.{Promise, OfBytes, ReadsWithin}

-- the bytes are the text of this valid answer
pub record IsTextOfValid (a : Answer) (bytes : List ℕ) : Type 0 where
  pub valid : IsValid a
  pub text : bytes ≡ answer_text a

-- the bytes may be loaded, are not the text of a valid answer, and this is their first fault
pub record IsRejectedAs (fault : CheckFault) (bytes : List ℕ) : Type 0 where
  pub short : length bytes ≤ LOAD_LIMIT
  pub says : checking bytes ≡ Err (errors.Fault fault)

-- The refusals, each with the text that is written then. A valid answer has neither: it is never
-- too long.
abbrev pub LoadAnswers : Option (List ℕ) → Status → List ℕ → Type 0
LoadAnswers told TooLong text =
    (text ≡ too_long) × IfSome told (λ bytes. LOAD_LIMIT < length bytes)
LoadAnswers told (Rejected fault) text =
    (text ≡ rejected fault) × OfBytes told (IsRejectedAs fault)
LoadAnswers told status text = ⊥

-- How much of its source such a command read. Also where the answer is rejected, that is all.
pub record LoadStops (got : List ℕ) (left : Option (List ℕ)) (status : Status) : Type 0 where
  pub within : ReadsWithin LOAD_LIMIT got status
  pub all : (fault : CheckFault) → status ≡ Rejected fault → left ≡ Some []

-- what such a command promises until an answer is loaded
abbrev pub loading : Promise
loading = record {
  reads = true;
  takes_memory = true;
  reads_ahead = false;
  stops = LoadStops;
  answers = LoadAnswers;
  wanted = λ told status. ⊤;
}

-- what was read of a source that tells its bytes, to its end and within the limit
pub record HasReadAnswer (before after : Option (List ℕ)) : Type 0 where
  pub got : List ℕ
  pub consumed : Consumes before after got
  pub short : length got ≤ LOAD_LIMIT
  pub end : after ≡ Some []

-- The source was read to its end, and gave the text of the valid answer with this head and these
-- nodes.
pub record IsLoaded {S : Type 0} (g : SourceGhosts S) (old new : S) (h : Head) (ns : List Node)
    : Type 0 where
  pub parts : AreOfValid h ns
  pub text : IfSome (g.left old) (λ bytes. bytes ≡ answer_text (answer_of h ns))
  pub read : IfSome (g.left old) (λ bytes. HasReadAnswer (g.left old) (g.left new))
  pub source : (status : Status) → KeepsSource g false old new status
