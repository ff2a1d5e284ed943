-- What a resumption answers.
use Rattle.std.specs.Prelude.{◌≡◌, ℕ, ◌<◌, ◌≤◌, true, false, List, Option, IfSome, MatchOption}
use Rattle.std.specs.Prelude.{unwrap_or}
use Rattle.siting_definitions.specs.declared.Word.{Word}
use Rattle.siting_definitions.specs.AnswerText.{answer_text}
use Rattle.siting_definitions.specs.Answer.{Answer}
use Rattle.siting_definitions.specs.Claims.{Claims}
use Rattle.resume_job.specs.Resumed.{IsResumed, IsResumedBy, open_leaves_of, splits_of}
use Rattle.bsss_cli.specs.declared.status.Status.{Status}
use Rattle.bsss_cli.specs.declared.status.Status.TheVariants.{Rejected, TooLong}
use Rattle.bsss_cli.specs.declared.status.Status.TheVariants.{SmallBudget, SmallPool}
use Rattle.bsss_cli.specs.Status.{meaning_of, IsAnswer}
use Rattle.bsss_cli.specs.Texts.{small_budget, small_pool}
use Rattle.bsss_cli.specs.Outcome.{Promise, OfBytes}
use Rattle.bsss_cli.specs.Load.{IsTextOfValid, LoadAnswers, LoadStops}

-- the pool that is given, or that of the answer
abbrev pub pool_for : Option ℕ → Answer → ℕ
pool_for pool a = unwrap_or pool a.head.pool

-- The bytes are the text of a valid answer, whose splits have leases and whose open squares have
-- room, and the text written is that of one that is resumed from it, and shows its work.
pub record Resumes (budget : ℕ) (pool : Option ℕ) (workers : ℕ) (bytes : List ℕ) (word : Word)
    (text : List ℕ) : Type 0 where
  pub former : Answer
  pub of : IsTextOfValid former bytes
  pub splits : splits_of former ≤ budget
  pub room : open_leaves_of former ≤ pool_for pool former
  pub answer : Answer
  pub resumed : IsResumed former budget (pool_for pool former) answer
  pub shown : IsResumedBy former answer workers
  pub word_is : answer.head.word ≡ word
  pub claims : Claims answer.head
  pub written : text ≡ answer_text answer

-- the bytes are the text of a valid answer with more splits than leases may be given
pub record LacksBudget (has wants : ℕ) (bytes : List ℕ) : Type 0 where
  pub former : Answer
  pub of : IsTextOfValid former bytes
  pub wants_is : wants ≡ splits_of former
  pub small : has < wants

-- the bytes are the text of a valid answer with more open leaves than the pool has room for
pub record LacksRoom (budget has wants : ℕ) (pool : Option ℕ) (bytes : List ℕ) : Type 0 where
  pub former : Answer
  pub of : IsTextOfValid former bytes
  pub has_is : has ≡ pool_for pool former
  pub wants_is : wants ≡ open_leaves_of former
  pub splits : splits_of former ≤ budget
  pub small : has < wants

-- What a resumption may answer, and the text that it writes then: each status only where its
-- condition on the bytes holds. Of bytes that are told, the refusals exclude one another and each
-- answer.
abbrev pub ResumeAnswers : ℕ → Option ℕ → ℕ → Option (List ℕ) → Status → List ℕ → Type 0
ResumeAnswers budget pool workers told (SmallBudget has wants) text =
    (text ≡ small_budget has wants) × (has ≡ budget) × OfBytes told (LacksBudget has wants)
ResumeAnswers budget pool workers told (SmallPool has wants) text =
    (text ≡ small_pool has wants) × OfBytes told (LacksRoom budget has wants pool)
ResumeAnswers budget pool workers told TooLong text = LoadAnswers told TooLong text
ResumeAnswers budget pool workers told (Rejected fault) text =
    LoadAnswers told (Rejected fault) text
ResumeAnswers budget pool workers told status text =
    MatchOption (meaning_of status).word ⊥
    (λ word. OfBytes told (λ bytes. Resumes budget pool workers bytes word text))

-- an answer to each valid answer whose splits have leases, and whose open squares have room
abbrev pub ResumeWants : ℕ → Option ℕ → Option (List ℕ) → Status → Type 0
ResumeWants budget pool told status =
    IfSome told (λ bytes. (a : Answer) → IsTextOfValid a bytes → splits_of a ≤ budget
    → open_leaves_of a ≤ pool_for pool a → IsAnswer status)

abbrev pub resume : ℕ → Option ℕ → ℕ → Promise
resume budget pool workers = record {
  reads = true;
  takes_memory = true;
  reads_ahead = false;
  stops = LoadStops;
  answers = ResumeAnswers budget pool workers;
  wanted = ResumeWants budget pool;
}
