-- From an answer that was loaded to what a command does that loaded it.
use Rattle.std.proofs.Common.{◌≡◌, ℕ, ◌+◌, ◌-◌, ◌<◌, ◌≤◌, List, [], Option, None, Some, IfSome, Ok, Err, Bool, true, false, ⊎_elim, refl, sym, ap, subst, ◌∙◌, arith}
use Rattle.std.specs.Prelude.{length}
use Rattle.std.proofs.lemmas.List.{length-append}
use Rattle.std.proofs.lemmas.Bool.{false≢true}
use Rattle.siting_definitions.specs.AnswerText.{answer_text}
use Rattle.siting_definitions.specs.Answer.{Head, Answer}
use Rattle.port_io.specs.Bytes.{HasRest}
use Rattle.discard_log.specs.declared.node.Node.{Node}
use Rattle.search_answer.specs.Ending.{answer_of}
use Rattle.certificate.proofs.AnswerTextLemmas.{answer_text_injective}
use Rattle.certificate.proofs.LengthLemmas.{valid-short}
use Rattle.cert_checker.specs.declared.faults.CheckFault.{CheckFault}
use Rattle.cert_checker.specs.Checking.{checking}
use Rattle.cert_checker.proofs.ValidLemmas.{valid-accepted}
use Rattle.resume_job.specs.declared.loading.LoadError.{LoadError}
use Rattle.resume_job.specs.declared.loading.LoadError.TheVariants.{TooLong as LoadTooLong, Check}
use Rattle.resume_job.specs.Loading.{IsOfSome, LoadsTo, LoadReadsAtMost}
use Rattle.siting_definitions.specs.declared.TheConstants.{LOAD_LIMIT}
use Rattle.bsss_cli.specs.declared.status.Status.{Status}
use Rattle.bsss_cli.specs.declared.status.Status.TheVariants.{Rejected, TooLong, NoMemory}
use Rattle.bsss_cli.specs.Status.{Whole, meaning_of, code_of}
use Rattle.bsss_cli.specs.Ports.{SourceGhosts, SinkGhosts, view, KeepsSource}
use Rattle.bsss_cli.specs.Outcome.{Promise, OfBytes, ReadsWithin, HasRead, Says, Ran}
use Rattle.bsss_cli.specs.Load.{IsTextOfValid, IsRejectedAs, LoadAnswers, LoadStops, loading}
use Rattle.bsss_cli.specs.Load.{HasReadAnswer, IsLoaded}
use Rattle.bsss_cli.proofs.ReadingLemmas.{ReadsWithin-within, has_read}
use Rattle.bsss_cli.proofs.OutcomeLemmas.{ok≢err, Writes-map, Ran-says, Ran-no_memory}

-- a promise of a command that loads an answer: what holds until that is loaded, it promises too
pub record LoadsFirst (p : Promise) : Type 0 where
  pub reads : p.reads ≡ true
  pub takes : p.takes_memory ≡ true
  pub waits : p.reads_ahead ≡ false
  pub stops : (got : List ℕ) (left : Option (List ℕ)) (status : Status)
      → LoadStops got left status → p.stops got left status
  pub answers : (told : Option (List ℕ)) (status : Status) (text : List ℕ)
      → LoadAnswers told status text → p.answers told status text

-- ---- what a load tells
-- what was read, from its end or its stop
pub loads_text : (told left : Option (List ℕ)) (h : Head) (ns : List Node)
    → IfSome told (λ bytes. LoadsTo bytes left (Ok (h, ns)))
    → IfSome told (λ bytes. bytes ≡ answer_text (answer_of h ns))
loads_text None left h ns e = tt
loads_text (Some bytes) left h ns e = e.0

pub loads_all : (told left : Option (List ℕ)) (h : Head) (ns : List Node)
    → IfSome told (λ bytes. LoadsTo bytes left (Ok (h, ns)))
    → IfSome told (λ xs. HasRest xs left)
    → IfSome told (λ xs. IfSome left (λ ys. length xs - length ys ≤ LOAD_LIMIT))
    → IfSome told (λ bytes. HasReadAnswer told left)
loads_all None left h ns e rest stop = tt
loads_all (Some bytes) left h ns e rest stop = of_left left e.1 rest stop
  where
    of_left : (after : Option (List ℕ)) → after ≡ Some [] → HasRest bytes after
        → IfSome after (λ ys. length bytes - length ys ≤ LOAD_LIMIT)
        → HasReadAnswer (Some bytes) after
    of_left None gone rest stop = absurd rest.rest
    of_left (Some ys) gone rest stop =
        let parts : length bytes ≡ length rest.read + length ys =
        ap length rest.rest ∙ length-append rest.read ys in
        record {
          got = rest.read;
          consumed = rest.rest;
          short = omega (arith, parts, stop);
          end = gone;
        }

-- its refusals
pub loads_rejected : (told left : Option (List ℕ)) (error : LoadError) (fault : CheckFault)
    → error ≡ Check fault → IsOfSome error
    → IfSome told (λ bytes. LoadsTo bytes left (Err error)) → OfBytes told (IsRejectedAs fault)
loads_rejected None left error fault e some loads =
    let of : IsOfSome (Check fault) = subst IsOfSome e some in
    (of.0, record { short = of.1; says = of.2 })
loads_rejected (Some bytes) left error fault e some loads =
    let of = subst (λ (x : LoadError). LoadsTo bytes left (Err x)) e loads in
    record { short = of.0; says = of.1 }

pub rejected_end : (told left : Option (List ℕ)) (error : LoadError) (fault : CheckFault)
    → error ≡ Check fault → IfSome told (λ bytes. LoadsTo bytes left (Err error))
    → IfSome told (λ bytes. left ≡ Some [])
rejected_end None left error fault e loads = tt
rejected_end (Some bytes) left error fault e loads =
    let of = subst (λ (x : LoadError). LoadsTo bytes left (Err x)) e loads in
    of.2

-- so nothing is left where its status is a rejection
pub rejected_all : (told left : Option (List ℕ)) (status : Status)
    → IfSome told (λ bytes. left ≡ Some [])
    → IfSome told (λ bytes. (fault : CheckFault) → status ≡ Rejected fault → left ≡ Some [])
rejected_all None left status end = tt
rejected_all (Some bytes) left status end = λ fault e. end

pub loads_too_long : (told left : Option (List ℕ)) (error : LoadError) → error ≡ LoadTooLong
    → IfSome told (λ bytes. LoadsTo bytes left (Err error))
    → IfSome told (λ bytes. LOAD_LIMIT < length bytes)
loads_too_long None left error e loads = tt
loads_too_long (Some bytes) left error e loads =
    subst (λ (x : LoadError). LoadsTo bytes left (Err x)) e loads

-- what was read where it refuses
pub refused_read : (told left : Option (List ℕ)) (error : LoadError) (status : Status)
    → IfSome told (λ xs. HasRest xs left)
    → IfSome told (λ xs. IfSome left
    (λ ys. LoadReadsAtMost {T = Head × List Node} (length xs - length ys) (Err error)))
    → IfSome told (λ bytes. (fault : CheckFault) → status ≡ Rejected fault → left ≡ Some [])
    → ((got : List ℕ) → LoadReadsAtMost {T = Head × List Node} (length got) (Err error)
    → ReadsWithin LOAD_LIMIT got status)
    → IfSome told (λ bytes. HasRead loading told left status)
refused_read None left error status rest stop all within = tt
refused_read (Some bytes) left error status rest stop all within =
    has_read loading (λ n. LoadReadsAtMost {T = Head × List Node} n (Err error)) (Some bytes) left
    status rest stop (λ got s. record { within = within got s; all = all })

-- for each source that tells
pub for_told : {X : List ℕ → Type 0} (told : Option (List ℕ)) → ((bytes : List ℕ) → X bytes)
    → IfSome told X
for_told None f = tt
for_told (Some bytes) f = f bytes

-- what was said is not that it is rejected
pub not_rejected : {K : Type 0} {k : SinkGhosts K} {before after : K} {text : List ℕ}
    {status : Status} → Says k before after TooLong text status → (fault : CheckFault)
    → status ≡ Rejected fault → ⊥
not_rejected said fault e =
    ⊎_elim
    (λ all. absurd (omega (arith, ap code_of (sym all.0 ∙ e))))
    (λ cut. absurd (omega (arith, ap code_of (sym cut.0 ∙ e))))
    said.outcome

-- it doesn't read ahead
kept_first : {S : Type 0} {s : SourceGhosts S} {old new : S} {status : Status} (p : Promise)
    → LoadsFirst p → KeepsSource s false old new status
    → KeepsSource s p.reads_ahead old new status
kept_first {s = s} {old = old} {new = new} {status = status} p first kept =
    subst (λ (ahead : Bool). KeepsSource s ahead old new status) (sym first.waits) kept

-- ---- a command whose answer wasn't loaded
loading_read : (p : Promise) → LoadsFirst p → (before after : Option (List ℕ)) (status : Status)
    → IfSome before (λ bytes. HasRead loading before after status)
    → IfSome before (λ bytes. HasRead p before after status)
loading_read p first None after status h = tt
loading_read p first (Some bytes) after status h = record {
  got = h.got;
  consumed = h.consumed;
  stops = first.stops h.got after status h.stops;
}

pub Ran-loading : {S K : Type 0} {s : SourceGhosts S} {k : SinkGhosts K} {old new : S}
    {before after : K} {status : Status} (p : Promise) → LoadsFirst p
    → Ran s k loading old new before after status → Ran s k p old new before after status
Ran-loading {s = s} {k = k} {old = old} {new = new} {before = before} {after = after}
    {status = status} p first ran =
    record {
      written = Writes-map loading p (s.left old) (s.left old) (view k before) (view k after) status
          (first.answers (s.left old)) ran.written;
      unwritten = ran.unwritten;
      write_fault = ran.write_fault;
      read_fault = ran.read_fault;
      memory = λ e. first.takes;
      reader = λ e. first.reads;
      unread = λ e. absurd (false≢true (sym e ∙ first.reads));
      read = λ e. ran.read refl;
      stops = λ e. loading_read p first (s.left old) (s.left new) status (ran.stops refl);
      source = kept_first p first ran.source;
      sink = ran.sink;
    }

-- ---- a command whose answer was loaded
loaded_end : (before after : Option (List ℕ))
    → IfSome before (λ bytes. HasReadAnswer before after) → IfSome before (λ bytes. after ≡ Some [])
loaded_end None after h = tt
loaded_end (Some bytes) after h = h.end

loaded_read : (p : Promise) → LoadsFirst p → (before after : Option (List ℕ)) (status : Status)
    → IfSome before (λ bytes. HasReadAnswer before after)
    → IfSome before (λ bytes. HasRead p before after status)
loaded_read p first None after status h = tt
loaded_read p first (Some bytes) after status h = record {
  got = h.got;
  consumed = h.consumed;
  stops = first.stops h.got after status (record {
    within = ReadsWithin-within LOAD_LIMIT h.got status h.short;
    all = λ fault e. h.end;
  });
}

-- what the source gave is the text of a valid answer
pub loaded_text : {S : Type 0} (g : SourceGhosts S) (old new : S) (h : Head) (ns : List Node)
    → IsLoaded g old new h ns → OfBytes (g.left old) (IsTextOfValid (answer_of h ns))
loaded_text g old new h ns loaded = by_told (g.left old) loaded.text
  where
    by_told : (told : Option (List ℕ)) → IfSome told (λ bytes. bytes ≡ answer_text (answer_of h ns))
        → OfBytes told (IsTextOfValid (answer_of h ns))
    by_told None e =
        (answer_text (answer_of h ns), record { valid = loaded.parts.valid; text = refl })
    by_told (Some bytes) e = record { valid = loaded.parts.valid; text = e }

-- it says something of the answer
pub Ran-loaded-says : {S K : Type 0} {s : SourceGhosts S} {k : SinkGhosts K} {before after : K}
    {says : Status} {text : List ℕ} {status : Status} (p : Promise) → LoadsFirst p → (old new : S)
    (h : Head) (ns : List Node) → IsLoaded s old new h ns → (meaning_of says).taken ≡ Whole
    → p.answers (s.left old) says text → Says k before after says text status
    → Ran s k p old new before after status
Ran-loaded-says {s = s} {status = status} p first old new h ns loaded whole answers said =
    Ran-says p old new first.reads (kept_first p first (loaded.source status)) whole
    (λ all. loaded_end (s.left old) (s.left new) loaded.read)
    (loaded_read p first (s.left old) (s.left new) status loaded.read) answers said

-- there was no memory to go on with it
pub Ran-loaded-no_memory : {S K : Type 0} {s : SourceGhosts S} {k : SinkGhosts K} (p : Promise)
    → LoadsFirst p → (old new : S) (h : Head) (ns : List Node) (sink : K)
    → IsLoaded s old new h ns → Ran s k p old new sink sink NoMemory
Ran-loaded-no_memory {s = s} p first old new h ns sink loaded =
    Ran-no_memory p old new sink first.reads first.takes (kept_first p first (loaded.source NoMemory))
    (loaded_read p first (s.left old) (s.left new) NoMemory loaded.read)

-- ---- a valid answer is never refused
pub valid_loads : (a : Answer) (bytes : List ℕ) (status : Status) (text : List ℕ)
    → IsTextOfValid a bytes → LoadAnswers (Some bytes) status text → ⊥
valid_loads a bytes TooLong text of h =
    let short = valid-short a of.valid in
    let same : length bytes ≡ length (answer_text a) = ap length of.text in
    omega (arith, h.1, short, same)
valid_loads a bytes (Rejected fault) text of h =
    ok≢err (checking bytes) _ _ (ap checking of.text ∙ valid-accepted a of.valid) h.1.says
valid_loads a bytes status text of h = absurd h

-- ---- what a resumption must answer
-- no bytes are the text of two valid answers
pub one_answer : (a b : Answer) (bytes : List ℕ) → IsTextOfValid a bytes → IsTextOfValid b bytes
    → a ≡ b
one_answer a b bytes one other =
    answer_text_injective a b one.valid.ranges other.valid.ranges one.valid.mark_ranges
    other.valid.mark_ranges (sym one.text ∙ other.text)
