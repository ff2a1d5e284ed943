-- What a check answers.
use Rattle.std.specs.Prelude.{◌≡◌, ℕ, Bool, true, false, List, Option, IfSome, Result, Ok, Err}
use Rattle.siting_definitions.specs.AnswerText.{answer_text}
use Rattle.siting_definitions.specs.Answer.{Answer, IsValid}
use Rattle.siting_definitions.specs.Claims.{Claims}
use Rattle.cert_checker.specs.declared.checking.Accepted.{Accepted as Checked}
use Rattle.cert_checker.specs.declared.faults.CheckError.{CheckError}
use Rattle.cert_checker.specs.declared.faults.CheckError.TheVariants as errors
use Rattle.cert_checker.specs.Checking.{checking}
use Rattle.cert_checker.specs.CheckReading.{IsOpenSoFar, IsNeededSoFar, IsInHead}
use Rattle.pair_check.specs.BatchReading.{IsAheadSoFar}
use Rattle.bsss_cli.specs.declared.status.Status.{Status}
use Rattle.bsss_cli.specs.declared.status.Status.TheVariants.{Accepted, Rejected, TooLong}
use Rattle.bsss_cli.specs.declared.status.Status.TheVariants.{ReadFault, NoMemory}
use Rattle.bsss_cli.specs.Texts.{too_long, accepted, rejected}
use Rattle.bsss_cli.specs.Ports.{SinkGhosts}
use Rattle.bsss_cli.specs.Outcome.{Promise, OfBytes, Says}

-- the bytes are the text of a valid answer, which then claims no more than holds
pub record IsAccepted (bytes : List ℕ) : Type 0 where
  pub answer : Answer
  pub text : bytes ≡ answer_text answer
  pub valid : IsValid answer
  pub claims : Claims answer.head

-- What a check may answer, and the text that it writes then: each status only where its condition
-- on the bytes holds. Of bytes that are told, no two hold at once.
abbrev pub CheckAnswers : Option (List ℕ) → Status → List ℕ → Type 0
CheckAnswers told Accepted text = (text ≡ accepted) × OfBytes told IsAccepted
CheckAnswers told (Rejected fault) text =
    (text ≡ rejected fault) × OfBytes told (λ bytes. checking bytes ≡ Err (errors.Fault fault))
CheckAnswers told TooLong text =
    (text ≡ too_long) × OfBytes told (λ bytes. checking bytes ≡ Err errors.TooLong)
CheckAnswers told _ text = ⊥

-- what a run writes after a check, and the status with which it ends
abbrev pub SaysVerdict : {K : Type 0} → SinkGhosts K → K → K → Result Checked CheckError → Status
    → Type 0
SaysVerdict k before after (Ok checked) status = Says k before after Accepted accepted status
SaysVerdict k before after (Err (errors.Fault fault)) status =
    Says k before after (Rejected fault) (rejected fault) status
SaysVerdict k before after (Err errors.TooLong) status = Says k before after TooLong too_long status
SaysVerdict k before after (Err errors.ReadFault) status = (status ≡ ReadFault) × (after ≡ before)
SaysVerdict k before after (Err errors.NoMemory) status = (status ≡ NoMemory) × (after ≡ before)

-- acceptance of each valid answer
abbrev pub CheckWants : Option (List ℕ) → Status → Type 0
CheckWants told status =
    IfSome told (λ bytes. (a : Answer) → IsValid a → bytes ≡ answer_text a → status ≡ Accepted)

-- How much of its source a check read. Where reading failed, there was no fault so far; only the
-- head takes memory; and one worker reads no more than its first fault needs, where a team reads
-- at most a batch of lines and a piece ahead.
abbrev pub CheckStops : (team : Bool) → List ℕ → Status → Type 0
CheckStops team got ReadFault = IsOpenSoFar got
CheckStops team got NoMemory = IsInHead got
CheckStops false got status = IsNeededSoFar got
CheckStops true got status = IsAheadSoFar got

-- what a check promises by one worker, or by a team of two or more
abbrev pub check : (team : Bool) → Promise
check team = record {
  reads = true;
  takes_memory = true;
  reads_ahead = team;
  stops = λ got left status. CheckStops team got status;
  answers = CheckAnswers;
  wanted = CheckWants;
}
