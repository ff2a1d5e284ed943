-- What a search ends with is an answer to its instance, and what a solve says of its bytes.
use Rattle.std.proofs.Common.{◌≡◌, ℕ, ◌≤◌, ℤ, List, Option, None, Some, IfSome, MatchOption, Ok, refl, subst, arith}
use Rattle.std.specs.Prelude.{length}
use Rattle.siting_definitions.specs.declared.Word.{Word}
use Rattle.siting_definitions.specs.declared.Word.TheVariants as words
use Rattle.siting_definitions.specs.Point.{Pt}
use Rattle.siting_definitions.specs.Instance.{Instance, IsInstance}
use Rattle.siting_definitions.specs.Answer.{Head, Answer, IsWorkedBy}
use Rattle.siting_definitions.specs.AnswerText.{answer_text}
use Rattle.instance_text.specs.Reading.{reading}
use Rattle.discard_log.specs.declared.node.Node.{Node}
use Rattle.answer_model.proofs.ClaimsLemmas.{claims}
use Rattle.pool_core.specs.Job.{Job}
use Rattle.pool_core.specs.State.{State}
use Rattle.pool_core.specs.Seats.{IsKeptBy}
use Rattle.search_answer.specs.Ending.{Finishes, answer_of}
use Rattle.command_line.specs.declared.command.Settings.{Settings}
use Rattle.bsss_cli.specs.declared.status.Status.{Status}
use Rattle.bsss_cli.specs.declared.status.Status.TheVariants.{BadInstance, TooLong, NoMemory}
use Rattle.siting_definitions.specs.declared.TheConstants.{INSTANCE_LIMIT}
use Rattle.bsss_cli.specs.Status.{meaning_of, IsAnswer, status_of}
use Rattle.bsss_cli.specs.Ports.{SourceGhosts, SinkGhosts}
use Rattle.bsss_cli.specs.Outcome.{OfBytes, Says, Ended, Ran}
use Rattle.bsss_cli.specs.Solve.{job_to, IsAnswerTo, Solves, SolveAnswers, SolveWants, solve}
use Rattle.bsss_cli.specs.Begun.{SaysInstance, IsBegun}
use Rattle.bsss_cli.proofs.OutcomeLemmas.{ok≢err, status_of-whole, word_answers, Writes-map, Ran-says, Ran-no_memory}
use Rattle.bsss_cli.proofs.ReadingLemmas.{OfBytes-map}

-- what a search of these workers ends with is an answer to its instance
pub answers : (s : Settings) (i : Instance) (pool : State) (best : Option (Pt × ℤ)) (h : Head)
    (ns : List Node) → IsInstance i → Finishes (job_to i s) pool best h ns
    → IsKeptBy pool s.workers
    → ((workers : ℕ) → IsKeptBy pool workers → IsWorkedBy (answer_of h ns) workers)
    → IsAnswerTo i s h.word (answer_of h ns)
answers s i pool best h ns lawful finishes kept worked =
    record {
      instance = finishes.instance;
      gap = finishes.gap;
      budget = finishes.budget;
      pool = finishes.pool;
      word = refl;
      claims = claims (answer_of h ns) finishes.valid;
      valid = finishes.valid;
      worked = worked s.workers kept;
    }

-- ---- what a solve answers
pub Solves-answer : (s : Settings) (bytes : List ℕ) (i : Instance) (a : Answer) → length bytes ≤ INSTANCE_LIMIT → reading bytes ≡ Ok i → IsAnswerTo i s a.head.word a → Solves s bytes a.head.word (answer_text a)
Solves-answer s bytes i a short read answered = record { short = short; instance = i; read = read; answer = a; answers = answered; written = refl }

pub SolveAnswers-word : (s : Settings) (told : Option (List ℕ)) (text : List ℕ) (word : Word) → OfBytes told (λ bytes. Solves s bytes word text) → SolveAnswers s told (status_of word) text
SolveAnswers-word s told text words.Solved h = h
SolveAnswers-word s told text words.PoolFull h = h
SolveAnswers-word s told text words.Budget h = h
SolveAnswers-word s told text words.Floor h = h
SolveAnswers-word s told text words.Empty h = h

-- what is said of some bytes is said of those of a source that doesn't tell
SolveAnswers-untold : (s : Settings) (bytes : List ℕ) (status : Status) (text : List ℕ) → SolveAnswers s (Some bytes) status text → SolveAnswers s None status text
SolveAnswers-untold s bytes (BadInstance number line) text h = (h.0, (bytes, h.1))
SolveAnswers-untold s bytes TooLong text h = (h.0, tt)
SolveAnswers-untold s bytes status text h = of_word (meaning_of status).word h
  where
    of_word : (o : Option Word) → MatchOption o ⊥ (λ word. Solves s bytes word text) → MatchOption o ⊥ (λ word. (all : List ℕ) × Solves s all word text)
    of_word None h = absurd h
    of_word (Some word) h = (bytes, h)

SolveAnswers-told : (s : Settings) (bytes : List ℕ) (told : Option (List ℕ)) → IfSome told (λ all. bytes ≡ all) → (status : Status) (text : List ℕ) → SolveAnswers s (Some bytes) status text → SolveAnswers s told status text
SolveAnswers-told s bytes None e status text h = SolveAnswers-untold s bytes status text h
SolveAnswers-told s bytes (Some all) e status text h = subst (λ (b : List ℕ). SolveAnswers s (Some b) status text) e h

-- a solve of the bytes that were read is one of those that the source tells
pub Ended-told : {K : Type 0} {k : SinkGhosts K} {before after : K} {status : Status} (s : Settings)
    (bytes : List ℕ) (told : Option (List ℕ)) → IfSome told (λ all. bytes ≡ all)
    → Ended k (solve s) (Some bytes) before after status
    → Ended k (solve s) told before after status
Ended-told {status = status} s bytes told e ended =
    record {
      written = Writes-map (solve s) (solve s) (Some bytes) told _ _ status (SolveAnswers-told s bytes told e) ended.written;
      unwritten = ended.unwritten;
      write_fault = ended.write_fault;
      no_read_fault = ended.no_read_fault;
      memory = ended.memory;
      sink = ended.sink;
    }

-- ---- from the beginning of a solve to its answer
-- A solve that was begun and searched says its answer.
pub solve_says : {S K : Type 0} {g : SourceGhosts S} {k : SinkGhosts K} {before after : K}
    {status : Status} (s : Settings) (old new : S) (j : Job) (first pool : State)
    (best : Option (Pt × ℤ)) (h : Head) (ns : List Node) → IsBegun g s old new j first
    → Finishes j pool best h ns → IsKeptBy pool s.workers
    → ((workers : ℕ) → IsKeptBy pool workers → IsWorkedBy (answer_of h ns) workers)
    → Says k before after (status_of h.word) (answer_text (answer_of h ns)) status
    → Ran g k (solve s) old new before after status
solve_says {g = g} {status = status} s old new j first pool best h ns begun finishes kept worked said =
    let i = begun.instance in
    let a : Answer = answer_of h ns in
    let done = subst (λ (x : Job). Finishes x pool best h ns) begun.job.job_is finishes in
    let answered : IsAnswerTo i s h.word a =
    answers s i pool best h ns begun.job.limits done kept worked in
    let solves = OfBytes-map (g.left old) (SaysInstance i)
    (λ bytes. Solves s bytes h.word (answer_text a))
    (λ bytes t. Solves-answer s bytes i a t.short t.read answered) begun.text in
    Ran-says (solve s) old new refl (begun.source status) (status_of-whole h.word)
    (λ x. begun.read) (begun.stops status)
    (SolveAnswers-word s (g.left old) (answer_text a) h.word solves) said

-- a solve that was begun, and for which no memory was left
pub solve_lacks_memory : {S K : Type 0} {g : SourceGhosts S} {k : SinkGhosts K} (s : Settings)
    (old new : S) (j : Job) (first : State) (sink : K) → IsBegun g s old new j first
    → Ran g k (solve s) old new sink sink NoMemory
solve_lacks_memory s old new j first sink begun =
    Ran-no_memory (solve s) old new sink refl refl (begun.source NoMemory) (begun.stops NoMemory)

-- ---- what a solve must answer
is_answer : (s : Settings) (bytes : List ℕ) (status : Status) (text : List ℕ) (i : Instance) → length bytes ≤ INSTANCE_LIMIT → reading bytes ≡ Ok i → SolveAnswers s (Some bytes) status text → IsAnswer status
is_answer s bytes (BadInstance number line) text i short read h = absurd (ok≢err (reading bytes) i (record { number = number; line = line }) read h.1.1)
is_answer s bytes TooLong text i short read h = absurd (omega (arith, h.1))
is_answer s bytes status text i short read h =
    word_answers (λ word. Solves s bytes word text) (meaning_of status).word h

-- each answer of a solve is one that is wanted
pub solve_wants : (s : Settings) (told : Option (List ℕ)) (status : Status) (text : List ℕ)
    → SolveAnswers s told status text → SolveWants told status
solve_wants s None status text h = tt
solve_wants s (Some bytes) status text h = λ i short read. is_answer s bytes status text i short read h
