-- What a solve answers.
use Rattle.std.specs.Prelude.{◌≡◌, ℕ, ℤ, ◌<◌, ◌≤◌, true, false, List, length, Option, IfSome}
use Rattle.std.specs.Prelude.{MatchOption, Ok, Err, option_map}
use Rattle.siting_definitions.specs.declared.Word.{Word}
use Rattle.siting_definitions.specs.Point.{Pt}
use Rattle.siting_definitions.specs.Instance.{Instance}
use Rattle.siting_definitions.specs.AnswerText.{answer_text}
use Rattle.siting_definitions.specs.Bounds.{upper_of}
use Rattle.siting_definitions.specs.Sites.{opening_of, opening_cost, gap_of}
use Rattle.siting_definitions.specs.Answer.{Answer, IsValid, IsWorkedBy}
use Rattle.siting_definitions.specs.Claims.{Claims}
use Rattle.instance_text.specs.Reading.{reading}
use Rattle.pool_core.specs.Job.{Job}
use Rattle.command_line.specs.declared.command.Settings.{Settings}
use Rattle.bsss_cli.specs.declared.status.Status.{Status}
use Rattle.bsss_cli.specs.declared.status.Status.TheVariants.{BadInstance, TooLong}
use Rattle.bsss_cli.specs.Status.{meaning_of, IsAnswer}
use Rattle.siting_definitions.specs.declared.TheConstants.{INSTANCE_LIMIT}
use Rattle.bsss_cli.specs.Texts.{too_long, bad_instance}
use Rattle.bsss_cli.specs.Outcome.{Promise, OfBytes, ReadsWithin}

-- the opening with its upper cost, if there is one
abbrev pub opening_offer : Instance → Option (Pt × ℤ)
opening_offer i = option_map (λ (z : Pt). (z, upper_of i z)) (opening_of i)

-- the job of solving an instance, from its opening
abbrev pub job_to : Instance → Settings → Job
job_to i s = record {
  instance = i;
  gap = gap_of s.gap (opening_cost i);
  budget = s.budget;
  pool = s.pool;
  start = opening_offer i;
}

-- the answer is one to the instance, under the settings, and ends with the word
pub record IsAnswerTo (i : Instance) (s : Settings) (end : Word) (a : Answer) : Type 0 where
  pub instance : a.head.instance ≡ i
  pub gap : a.head.gap ≡ gap_of s.gap (opening_cost i)
  pub budget : a.head.budget ≡ s.budget
  pub pool : a.head.pool ≡ s.pool
  pub word : a.head.word ≡ end
  pub claims : Claims a.head
  pub valid : IsValid a
  pub worked : IsWorkedBy a s.workers

-- the bytes are an instance text, and the text written is that of an answer to its instance
pub record Solves (s : Settings) (bytes : List ℕ) (word : Word) (text : List ℕ) : Type 0 where
  pub short : length bytes ≤ INSTANCE_LIMIT
  pub instance : Instance
  pub read : reading bytes ≡ Ok instance
  pub answer : Answer
  pub answers : IsAnswerTo instance s word answer
  pub written : text ≡ answer_text answer

-- the bytes are no instance text, and this is their fault
abbrev pub HasFault : ℕ → ℕ → List ℕ → Type 0
HasFault number line bytes =
    (length bytes ≤ INSTANCE_LIMIT)
    × (reading bytes ≡ Err (record { number = number; line = line }))

-- What a solve may answer, and the text that it writes then: each status only where its condition
-- on the bytes holds. Of bytes that are told, the refusals exclude one another and each answer.
abbrev pub SolveAnswers : Settings → Option (List ℕ) → Status → List ℕ → Type 0
SolveAnswers s told (BadInstance number line) text =
    (text ≡ bad_instance number line) × OfBytes told (HasFault number line)
SolveAnswers s told TooLong text =
    (text ≡ too_long) × IfSome told (λ bytes. INSTANCE_LIMIT < length bytes)
SolveAnswers s told status text =
    MatchOption (meaning_of status).word ⊥
    (λ word. OfBytes told (λ bytes. Solves s bytes word text))

-- an answer to each instance text within the limit
abbrev pub SolveWants : Option (List ℕ) → Status → Type 0
SolveWants told status =
    IfSome told (λ bytes. (i : Instance) → length bytes ≤ INSTANCE_LIMIT → reading bytes ≡ Ok i
    → IsAnswer status)

abbrev pub solve : Settings → Promise
solve s = record {
  reads = true;
  takes_memory = true;
  reads_ahead = false;
  stops = λ got left status. ReadsWithin INSTANCE_LIMIT got status;
  answers = SolveAnswers s;
  wanted = SolveWants;
}
