-- From an answer that was loaded to what a resumption says of it.
use Rattle.std.proofs.Common.{◌≡◌, ℕ, ℤ, ◌≤◌, List, Option, None, Some}
use Rattle.std.proofs.Common.{refl, sym, ap, ◌∙◌, subst, arith}
use Rattle.siting_definitions.specs.declared.Word.{Word}
use Rattle.siting_definitions.specs.declared.Word.TheVariants as words
use Rattle.siting_definitions.specs.Point.{Pt}
use Rattle.siting_definitions.specs.Marks.{is_split, is_open}
use Rattle.siting_definitions.specs.Answer.{Head, Answer}
use Rattle.siting_definitions.specs.AnswerText.{answer_text}
use Rattle.discard_log.specs.declared.node.Node.{Node}
use Rattle.answer_model.proofs.ClaimsLemmas.{claims}
use Rattle.pool_core.specs.Job.{Job}
use Rattle.pool_core.specs.State.{State, split_count}
use Rattle.pool_core.specs.Begun.{IsBegunFrom}
use Rattle.pool_core.specs.Sound.{IsFinished}
use Rattle.pool_core.specs.Seats.{IsKeptBy}
use Rattle.search_answer.specs.Ending.{Finishes, answer_of}
use Rattle.resume_job.specs.declared.reopening.ReopenError.{ReopenError}
use Rattle.resume_job.specs.declared.reopening.ReopenError.TheVariants as errors
use Rattle.resume_job.specs.Reopening.{RefusesFor, IsResumption}
use Rattle.resume_job.specs.Resumed.{open_leaves_of, splits_of}
use Rattle.resume_job.proofs.ReopenLemmas.{count_by-marks}
use Rattle.resume_job.proofs.ResumeLemmas.{resumed, shown}
use Rattle.bsss_cli.specs.declared.status.Status.{Status}
use Rattle.bsss_cli.specs.declared.status.Status.TheVariants.{Rejected, TooLong, NoMemory}
use Rattle.bsss_cli.specs.declared.status.Status.TheVariants.{SmallBudget, SmallPool}
use Rattle.bsss_cli.specs.Status.{meaning_of, IsAnswer, status_of}
use Rattle.bsss_cli.specs.Texts.{small_budget, small_pool}
use Rattle.bsss_cli.specs.Ports.{SourceGhosts, SinkGhosts}
use Rattle.bsss_cli.specs.Outcome.{OfBytes, Says, Ran}
use Rattle.bsss_cli.specs.Load.{IsTextOfValid, LoadAnswers, IsLoaded}
use Rattle.bsss_cli.specs.Resume.{pool_for, Resumes, LacksBudget, LacksRoom, resume}
use Rattle.bsss_cli.specs.Resume.{ResumeAnswers, ResumeWants}
use Rattle.bsss_cli.specs.Reopened.{IsReopened}
use Rattle.bsss_cli.proofs.ReadingLemmas.{OfBytes-map}
use Rattle.bsss_cli.proofs.LoadLemmas.{LoadsFirst, loaded_text, valid_loads, one_answer}
use Rattle.bsss_cli.proofs.LoadLemmas.{Ran-loaded-says, Ran-loaded-no_memory}
use Rattle.bsss_cli.proofs.OutcomeLemmas.{status_of-whole, word_answers}

-- ---- until an answer is loaded
from_load : (budget : ℕ) (pool : Option ℕ) (workers : ℕ) (told : Option (List ℕ))
    (status : Status) (text : List ℕ) → LoadAnswers told status text
    → ResumeAnswers budget pool workers told status text
from_load budget pool workers told TooLong text h = h
from_load budget pool workers told (Rejected fault) text h = h
from_load budget pool workers told status text h = absurd h

pub resume_first : (budget : ℕ) (pool : Option ℕ) (workers : ℕ)
    → LoadsFirst (resume budget pool workers)
resume_first budget pool workers = record {
  reads = refl;
  takes = refl;
  waits = refl;
  stops = λ got left status stops. stops;
  answers = from_load budget pool workers;
}

-- ---- an answer that isn't reopened
lacks_budget : (h : Head) (ns : List Node) (budget room has wants : ℕ)
    → RefusesFor ns budget room (errors.SmallBudget has wants) → (bytes : List ℕ)
    → IsTextOfValid (answer_of h ns) bytes → LacksBudget has wants bytes
lacks_budget h ns budget room has wants refused bytes of = record {
  former = answer_of h ns;
  of = of;
  wants_is = refused.1 ∙ sym (count_by-marks is_split ns);
  small = omega (arith, refused.0, refused.1, refused.2);
}

pub says_small_budget : {S K : Type 0} {s : SourceGhosts S} {k : SinkGhosts K} {before after : K}
    {status : Status} (budget : ℕ) (pool : Option ℕ) (workers : ℕ) (old new : S) (h : Head)
    (ns : List Node) (room has wants : ℕ) (error : ReopenError) → IsLoaded s old new h ns
    → error ≡ errors.SmallBudget has wants → RefusesFor ns budget room error
    → Says k before after (SmallBudget has wants) (small_budget has wants) status
    → Ran s k (resume budget pool workers) old new before after status
says_small_budget {s = s} budget pool workers old new h ns room has wants error loaded is refuses
    said =
    let refused : RefusesFor ns budget room (errors.SmallBudget has wants) =
    subst (RefusesFor ns budget room) is refuses in
    let lacks : OfBytes (s.left old) (LacksBudget has wants) =
    OfBytes-map (s.left old) (IsTextOfValid (answer_of h ns)) (LacksBudget has wants)
    (lacks_budget h ns budget room has wants refused) (loaded_text s old new h ns loaded) in
    Ran-loaded-says {says = SmallBudget has wants} (resume budget pool workers)
    (resume_first budget pool workers) old new h ns loaded refl (refl, refused.0, lacks) said

lacks_room : (h : Head) (ns : List Node) (budget : ℕ) (pool : Option ℕ) (has wants : ℕ)
    → RefusesFor ns budget (pool_for pool (answer_of h ns)) (errors.SmallPool has wants)
    → (bytes : List ℕ) → IsTextOfValid (answer_of h ns) bytes
    → LacksRoom budget has wants pool bytes
lacks_room h ns budget pool has wants refused bytes of = record {
  former = answer_of h ns;
  of = of;
  has_is = refused.0;
  wants_is = refused.1 ∙ sym (count_by-marks is_open ns);
  splits = omega (arith, refused.2, count_by-marks is_split ns);
  small = omega (arith, refused.0, refused.1, refused.3);
}

pub says_small_pool : {S K : Type 0} {s : SourceGhosts S} {k : SinkGhosts K} {before after : K}
    {status : Status} (budget : ℕ) (pool : Option ℕ) (workers : ℕ) (old new : S) (h : Head)
    (ns : List Node) (room has wants : ℕ) (error : ReopenError) → IsLoaded s old new h ns
    → room ≡ pool_for pool (answer_of h ns) → error ≡ errors.SmallPool has wants
    → RefusesFor ns budget room error
    → Says k before after (SmallPool has wants) (small_pool has wants) status
    → Ran s k (resume budget pool workers) old new before after status
says_small_pool {s = s} budget pool workers old new h ns room has wants error loaded room_is is
    refuses said =
    let own = pool_for pool (answer_of h ns) in
    let refused : RefusesFor ns budget own (errors.SmallPool has wants) =
    subst (λ (n : ℕ). RefusesFor ns budget n (errors.SmallPool has wants)) room_is
    (subst (RefusesFor ns budget room) is refuses) in
    let lacks : OfBytes (s.left old) (LacksRoom budget has wants pool) =
    OfBytes-map (s.left old) (IsTextOfValid (answer_of h ns)) (LacksRoom budget has wants pool)
    (lacks_room h ns budget pool has wants refused) (loaded_text s old new h ns loaded) in
    Ran-loaded-says {says = SmallPool has wants} (resume budget pool workers)
    (resume_first budget pool workers) old new h ns loaded refl (refl, lacks) said

-- there was no memory to reopen it
pub lacks_memory : {S K : Type 0} {s : SourceGhosts S} {k : SinkGhosts K} (budget : ℕ)
    (pool : Option ℕ) (workers : ℕ) (old new : S) (h : Head) (ns : List Node) (sink : K)
    → IsLoaded s old new h ns → Ran s k (resume budget pool workers) old new sink sink NoMemory
lacks_memory budget pool workers =
    Ran-loaded-no_memory (resume budget pool workers) (resume_first budget pool workers)

-- ---- an answer that is reopened
of_word : (budget : ℕ) (pool : Option ℕ) (workers : ℕ) (told : Option (List ℕ)) (text : List ℕ)
    (word : Word) → OfBytes told (λ bytes. Resumes budget pool workers bytes word text)
    → ResumeAnswers budget pool workers told (status_of word) text
of_word budget pool workers told text words.Solved h = h
of_word budget pool workers told text words.PoolFull h = h
of_word budget pool workers told text words.Budget h = h
of_word budget pool workers told text words.Floor h = h
of_word budget pool workers told text words.Empty h = h

-- what a search ends with that began from the nodes of the answer is resumed from it
resumes : {S : Type 0} {s : SourceGhosts S} (budget : ℕ) (pool : Option ℕ) (workers : ℕ)
    (old new : S) (j : Job) (first last : State) (best : Option (Pt × ℤ)) (h : Head)
    (ns : List Node) (before : IsReopened s budget pool old new j first)
    → last.beginning ≡ first.beginning → IsFinished j last best → Finishes j last best h ns
    → IsKeptBy last workers → (bytes : List ℕ)
    → IsTextOfValid (answer_of before.head before.nodes) bytes
    → Resumes budget pool workers bytes h.word (answer_text (answer_of h ns))
resumes budget pool workers old new j first last best h ns before begun finished finishes kept
    bytes of =
    let room : ℕ = pool_for pool (answer_of before.head before.nodes) in
    let splits : ℕ = split_count before.nodes in
    let job = before.opened.0 in
    let resumption : IsResumption before.head before.nodes budget room last best h ns = record {
      first = first;
      begun = subst (λ (x : Job). IsBegunFrom x before.nodes splits first) job before.opened.2;
      beginning = begun;
      finished = subst (λ (x : Job). IsFinished x last best) job finished;
      finishes = subst (λ (x : Job). Finishes x last best h ns) job finishes;
    } in
    record {
      former = answer_of before.head before.nodes;
      of = of;
      splits = omega (arith, before.opened.1.splits, count_by-marks is_split before.nodes);
      room = omega (arith, before.opened.1.left_open, count_by-marks is_open before.nodes);
      answer = answer_of h ns;
      resumed = resumed before.head h before.nodes ns budget room last best before.loaded.parts
          before.opened.1 resumption;
      shown = shown before.head h before.nodes ns budget room workers last best
          before.loaded.parts before.opened.1 resumption kept;
      word_is = refl;
      claims = claims (answer_of h ns) finishes.valid;
      written = refl;
    }

-- a resumption that was begun and searched says its answer
pub resume_says : {S K : Type 0} {s : SourceGhosts S} {k : SinkGhosts K} {sink after : K}
    {status : Status} (budget : ℕ) (pool : Option ℕ) (workers : ℕ) (old new : S) (j : Job)
    (first last : State) (best : Option (Pt × ℤ)) (h : Head) (ns : List Node)
    → IsReopened s budget pool old new j first → last.beginning ≡ first.beginning
    → IsFinished j last best → Finishes j last best h ns → IsKeptBy last workers
    → Says k sink after (status_of h.word) (answer_text (answer_of h ns)) status
    → Ran s k (resume budget pool workers) old new sink after status
resume_says {s = s} budget pool workers old new j first last best h ns before begun finished
    finishes kept said =
    let former : Answer = answer_of before.head before.nodes in
    let text : List ℕ = answer_text (answer_of h ns) in
    Ran-loaded-says {says = status_of h.word} (resume budget pool workers)
    (resume_first budget pool workers) old new before.head before.nodes before.loaded
    (status_of-whole h.word)
    (of_word budget pool workers (s.left old) text h.word
    (OfBytes-map (s.left old) (IsTextOfValid former)
    (λ bytes. Resumes budget pool workers bytes h.word text)
    (resumes budget pool workers old new j first last best h ns before begun finished finishes kept)
    (loaded_text s old new before.head before.nodes before.loaded)))
    said

is_answer : (budget : ℕ) (pool : Option ℕ) (workers : ℕ) (bytes : List ℕ) (status : Status)
    (text : List ℕ) (a : Answer) → IsTextOfValid a bytes → splits_of a ≤ budget
    → open_leaves_of a ≤ pool_for pool a
    → ResumeAnswers budget pool workers (Some bytes) status text → IsAnswer status
is_answer budget pool workers bytes (SmallBudget has wants) text a of splits left h =
    let same = one_answer h.2.former a bytes h.2.of of in
    absurd (omega (arith, splits, h.1, h.2.wants_is, h.2.small, ap splits_of same))
is_answer budget pool workers bytes (SmallPool has wants) text a of splits left h =
    let same = one_answer h.1.former a bytes h.1.of of in
    let leaves = ap open_leaves_of same in
    let room = ap (pool_for pool) same in
    absurd (omega (arith, left, h.1.has_is, h.1.wants_is, h.1.small, leaves, room))
is_answer budget pool workers bytes TooLong text a of splits left h =
    absurd (valid_loads a bytes TooLong text of h)
is_answer budget pool workers bytes (Rejected fault) text a of splits left h =
    absurd (valid_loads a bytes (Rejected fault) text of h)
is_answer budget pool workers bytes status text a of splits left h =
    word_answers (λ word. Resumes budget pool workers bytes word text) (meaning_of status).word h

-- each answer of a resumption is one that is wanted
pub resume_wants : (budget : ℕ) (pool : Option ℕ) (workers : ℕ) (told : Option (List ℕ))
    (status : Status) (text : List ℕ) → ResumeAnswers budget pool workers told status text
    → ResumeWants budget pool told status
resume_wants budget pool workers None status text h = tt
resume_wants budget pool workers (Some bytes) status text h =
    λ a of splits left. is_answer budget pool workers bytes status text a of splits left h
