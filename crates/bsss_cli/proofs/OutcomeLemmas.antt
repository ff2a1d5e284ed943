-- From what was written to what a run does.
use Rattle.std.proofs.Common.{◌≡◌, ◌≢◌, ℕ, List, [], Option, None, Some, IfSome, MatchOption, MatchResult, Result, Ok, Err, Bool, true, false, ⊎_elim, inl, inr, refl, sym, ap, subst, ◌∙◌, arith}
use Rattle.std.proofs.lemmas.Bool.{false≢true}
use Rattle.std.specs.Prelude.{is_some, IsTrue}
use Rattle.siting_definitions.specs.declared.Word.{Word}
use Rattle.siting_definitions.specs.declared.Word.TheVariants as words
use Rattle.port_io.specs.Faults.{Rose}
use Rattle.port_io.specs.Bytes.{Took, TookFront}
use Rattle.port_io.specs.Output.{SinkView, Wrote}
use Rattle.bsss_cli.specs.declared.status.Status.{Status}
use Rattle.bsss_cli.specs.declared.status.Status.TheVariants.{ReadFault, WriteFault, NoMemory}
use Rattle.bsss_cli.specs.Status.{Portion, Whole, Front, Nothing, meaning_of, code_of, HasReadAll, status_of, reported}
use Rattle.bsss_cli.specs.Ports.{SourceGhosts, SinkGhosts, view, KeepsSource, KeepsSink}
use Rattle.bsss_cli.specs.Outcome.{Promise, refusal, Writes, WritesSo, Completes, HasRead, Says, Ended, Ran}

-- ---- statuses
whole_is : (says status : Status) → (meaning_of says).taken ≡ Whole → says ≡ status
    → (meaning_of status).taken ≡ Whole
whole_is says status whole e = subst (λ (s : Status). (meaning_of s).taken ≡ Whole) e whole

front≢whole : Front ≢ Whole
front≢whole e = absurd cc

nothing≢whole : Nothing ≢ Whole
nothing≢whole e = absurd cc

-- an answer with a word is written whole
pub status_of-whole : (word : Word) → (meaning_of (status_of word)).taken ≡ Whole
status_of-whole words.Solved = refl
status_of-whole words.PoolFull = refl
status_of-whole words.Budget = refl
status_of-whole words.Floor = refl
status_of-whole words.Empty = refl

-- where something is said of a word, there is one
pub word_answers : (P : Word → Type 0) (o : Option Word) → MatchOption o ⊥ P → IsTrue (is_some o)
word_answers P None h = absurd h
word_answers P (Some word) h = refl

-- ---- what stays of a sink and of a source
-- a sink to which nothing was done
pub same_sink : {K : Type 0} (k : SinkGhosts K) (sink : K) (status : Status)
    → KeepsSink k sink sink status
same_sink k sink status = record { room = refl; later = omega arith; heard = λ strict e. refl }

-- a source of which nothing was read
pub same_source : {S : Type 0} (s : SourceGhosts S) (reads_ahead : Bool) (source : S)
    (status : Status) → KeepsSource s reads_ahead source source status
same_source s reads_ahead source status = record { later = omega arith; heard = λ strict e. refl }

-- ---- what was written
-- a text that was written says the status that is reported of it
pub Says-reported : {K T E : Type 0} {k : SinkGhosts K} {before after : K} {text : List ℕ}
    (says : Status) (r : Result T E) → Wrote (view k before) (view k after) text r
    → Says k before after says text (reported r says)
Says-reported says (Ok v) wrote = record {
  outcome = inl (refl, wrote.ok);
  sink = record {
    room = wrote.room;
    later = wrote.cause.later;
    heard = λ strict e. wrote.heard.quiet strict;
  };
}
Says-reported says (Err e) wrote = record {
  outcome = inr (refl, wrote.err, wrote.cause.failed);
  sink = record {
    room = wrote.room;
    later = wrote.cause.later;
    heard = λ strict unsaid. absurd (unsaid refl);
  };
}

-- the same where the status is known by an equation
pub Says-as : {K T E : Type 0} {k : SinkGhosts K} {before after : K} {text : List ℕ}
    {status : Status} (says : Status) (r : Result T E) → status ≡ reported r says
    → Wrote (view k before) (view k after) text r → Says k before after says text status
Says-as {k = k} {before = before} {after = after} {text = text} says r e wrote =
    subst (λ (s : Status). Says k before after says text s) (sym e) (Says-reported says r wrote)

-- the status of a text that was written, or could not be, says that something was to be written
pub Says-something : {K : Type 0} {k : SinkGhosts K} {before after : K} {says : Status}
    {text : List ℕ} {status : Status} → (meaning_of says).taken ≡ Whole
    → Says k before after says text status → (meaning_of status).taken ≢ Nothing
Says-something whole said =
    let Something : Status → Type 0 = λ s. (meaning_of s).taken ≢ Nothing in
    ⊎_elim
    (λ all. subst Something (sym all.0) (λ e. nothing≢whole (sym e ∙ whole)))
    (λ cut. subst Something (sym cut.0) (λ e. absurd cc))
    said.outcome

Ended-whole : {K : Type 0} (k : SinkGhosts K) (p : Promise) (told : Option (List ℕ))
    (before after : K) (says : Status) (text : List ℕ) → (meaning_of says).taken ≡ Whole
    → p.answers told says text
    → Took (k.room before) (k.taken before) (k.taken after) text → KeepsSink k before after says
    → Ended k p told before after says
Ended-whole k p told before after says text whole answers took kept =
    record {
      written = subst (λ (t : Portion). WritesSo t p told (view k before) (view k after) says)
          (sym whole) (record { text = text; answers = answers; took = took });
      unwritten = λ e. absurd (nothing≢whole (sym e ∙ whole));
      write_fault = λ e. absurd (front≢whole (whole_is says WriteFault whole e));
      no_read_fault = λ e. nothing≢whole (whole_is says ReadFault whole e);
      memory = λ e. absurd (nothing≢whole (whole_is says NoMemory whole e));
      sink = kept;
    }

Ended-front : {K : Type 0} (k : SinkGhosts K) (p : Promise) (told : Option (List ℕ))
    (before after : K) (says : Status) (text : List ℕ) → p.answers told says text
    → TookFront (k.room before) (k.taken before) (k.taken after) text
    → Rose (k.faults before) (k.faults after) → KeepsSink k before after WriteFault
    → Ended k p told before after WriteFault
Ended-front k p told before after says text answers took rose kept =
    record {
      written = record { status = says; text = text; answers = answers; took = took };
      unwritten = λ e. absurd cc;
      write_fault = λ e. rose;
      no_read_fault = λ e. absurd (omega (arith, ap code_of e));
      memory = λ e. absurd (omega (arith, ap code_of e));
      sink = kept;
    }

-- a run that says what it promised ends as it promised
pub Ended-says : {K : Type 0} {k : SinkGhosts K} {before after : K} {says : Status}
    {text : List ℕ} {status : Status} (p : Promise) (told : Option (List ℕ))
    → (meaning_of says).taken ≡ Whole → p.answers told says text → Says k before after says text status
    → Ended k p told before after status
Ended-says {k = k} {before = before} {after = after} {says = says} {text = text} {status = status}
    p told whole answers said =
    let Kept : Status → Type 0 = λ s. KeepsSink k before after s in
    let Goal : Status → Type 0 = λ s. Ended k p told before after s in
    ⊎_elim
    (λ all. subst Goal (sym all.0)
    (Ended-whole k p told before after says text whole answers all.1
    (subst Kept all.0 said.sink)))
    (λ cut. subst Goal (sym cut.0)
    (Ended-front k p told before after says text answers cut.1 cut.2
    (subst Kept cut.0 said.sink)))
    said.outcome

pub Ended-no_memory : {K : Type 0} (k : SinkGhosts K) (p : Promise) (told : Option (List ℕ))
    (sink : K) → p.takes_memory ≡ true → Ended k p told sink sink NoMemory
Ended-no_memory k p told sink takes =
    record {
      written = refl;
      unwritten = λ e. refl;
      write_fault = λ e. absurd (omega (arith, ap code_of e));
      no_read_fault = λ e. absurd (omega (arith, ap code_of e));
      memory = λ e. takes;
      sink = same_sink k sink NoMemory;
    }

-- what was written as one promise has it was written as another has it, where its answers are the
-- other's too
pub Writes-map : (p q : Promise) (told others : Option (List ℕ)) (before after : SinkView)
    (status : Status)
    → ((s : Status) (text : List ℕ) → p.answers told s text → q.answers others s text)
    → Writes p told before after status → Writes q others before after status
Writes-map p q told others before after status allows = by_portion (meaning_of status).taken
  where
    by_portion : (t : Portion) → WritesSo t p told before after status
        → WritesSo t q others before after status
    by_portion Whole h =
        record { text = h.text; answers = allows status h.text h.answers; took = h.took }
    by_portion Front h = record {
      status = h.status;
      text = h.text;
      answers = allows h.status h.text h.answers;
      took = h.took;
    }
    by_portion Nothing h = h

-- ---- what a run does
-- a command that doesn't read leaves its source as it was
pub Ran-unread : {S K : Type 0} {s : SourceGhosts S} {k : SinkGhosts K} {before after : K}
    {status : Status} (p : Promise) (source : S) → p.reads ≡ false
    → Ended k p (s.left source) before after status → Ran s k p source source before after status
Ran-unread {s = s} {status = status} p source unread ended =
    record {
      written = ended.written;
      unwritten = ended.unwritten;
      write_fault = ended.write_fault;
      sink = ended.sink;
      reader = λ e. absurd (ended.no_read_fault e);
      unread = λ e. refl;
      read = λ reads h. absurd (false≢true (sym unread ∙ reads));
      stops = λ e. absurd (false≢true (sym unread ∙ e));
      read_fault = λ e. absurd (ended.no_read_fault e);
      source = same_source s p.reads_ahead source status;
      memory = ended.memory;
    }

-- a command that refuses says so
pub Ran-refusal : {S K : Type 0} {s : SourceGhosts S} {k : SinkGhosts K} {before after : K}
    {says : Status} {text : List ℕ} {status : Status} (source : S)
    → (meaning_of says).taken ≡ Whole → Says k before after says text status
    → Ran s k (refusal says text) source source before after status
Ran-refusal {s = s} {says = says} {text = text} source whole said =
    Ran-unread (refusal says text) source refl
    (Ended-says (refusal says text) (s.left source) whole (refl, refl) said)

-- A command that reads did not fail in it, and ended: what was read, and how it ended.
pub Ran-read : {S K : Type 0} {s : SourceGhosts S} {k : SinkGhosts K} {before after : K}
    {status : Status} (p : Promise) (source rest : S) → p.reads ≡ true
    → KeepsSource s p.reads_ahead source rest status
    → (HasReadAll status → IfSome (s.left source) (λ bytes. s.left rest ≡ Some []))
    → IfSome (s.left source) (λ bytes. HasRead p (s.left source) (s.left rest) status)
    → Ended k p (s.left source) before after status
    → Ran s k p source rest before after status
Ran-read p source rest reads kept read stops ended =
    record {
      written = ended.written;
      unwritten = ended.unwritten;
      write_fault = ended.write_fault;
      sink = ended.sink;
      reader = λ e. reads;
      unread = λ e. absurd (false≢true (sym e ∙ reads));
      read = λ e. read;
      stops = λ e. stops;
      read_fault = λ e. absurd (ended.no_read_fault e);
      source = kept;
      memory = ended.memory;
    }

-- a status that was said, or could not be said, comes after all was read only where what was to be
-- said does
pub read_as_said : {K : Type 0} {k : SinkGhosts K} {before after : K} {says : Status}
    {text : List ℕ} {status : Status} → Says k before after says text status → HasReadAll status
    → HasReadAll says
read_as_said said h =
    ⊎_elim
    (λ all. subst (λ (s : Status). HasReadAll s) all.0 h)
    (λ cut. absurd (false≢true (subst (λ (s : Status). HasReadAll s) cut.0 h)))
    said.outcome

-- a command that reads says what it promised
pub Ran-says : {S K : Type 0} {s : SourceGhosts S} {k : SinkGhosts K} {before after : K}
    {says : Status} {text : List ℕ} {status : Status} (p : Promise) (source rest : S)
    → p.reads ≡ true → KeepsSource s p.reads_ahead source rest status → (meaning_of says).taken ≡ Whole
    → (HasReadAll says → IfSome (s.left source) (λ bytes. s.left rest ≡ Some []))
    → IfSome (s.left source) (λ bytes. HasRead p (s.left source) (s.left rest) status)
    → p.answers (s.left source) says text → Says k before after says text status
    → Ran s k p source rest before after status
Ran-says {s = s} p source rest reads kept whole read stops answers said =
    Ran-read p source rest reads kept (λ h. read (read_as_said said h)) stops
    (Ended-says p (s.left source) whole answers said)

pub Ran-read_fault : {S K : Type 0} {s : SourceGhosts S} {k : SinkGhosts K} (p : Promise)
    (source rest : S) (sink : K) → p.reads ≡ true → KeepsSource s p.reads_ahead source rest ReadFault
    → Rose (s.faults source) (s.faults rest)
    → IfSome (s.left source) (λ bytes. HasRead p (s.left source) (s.left rest) ReadFault)
    → Ran s k p source rest sink sink ReadFault
Ran-read_fault {k = k} p source rest sink reads kept rose stops =
    record {
      written = refl;
      unwritten = λ e. refl;
      write_fault = λ e. absurd (omega (arith, ap code_of e));
      sink = same_sink k sink ReadFault;
      reader = λ e. reads;
      unread = λ e. absurd (false≢true (sym e ∙ reads));
      read = λ e h. absurd (false≢true h);
      stops = λ e. stops;
      read_fault = λ e. rose;
      source = kept;
      memory = λ e. absurd (omega (arith, ap code_of e));
    }

pub Ran-no_memory : {S K : Type 0} {s : SourceGhosts S} {k : SinkGhosts K} (p : Promise)
    (source rest : S) (sink : K) → p.reads ≡ true → p.takes_memory ≡ true
    → KeepsSource s p.reads_ahead source rest NoMemory
    → IfSome (s.left source) (λ bytes. HasRead p (s.left source) (s.left rest) NoMemory)
    → Ran s k p source rest sink sink NoMemory
Ran-no_memory {s = s} {k = k} p source rest sink reads takes kept stops =
    Ran-read p source rest reads kept (λ h. absurd (false≢true h)) stops
    (Ended-no_memory k p (s.left source) sink takes)

-- ---- what comes where the outside has no fault
pub MatchResult-map : {T E : Type 0} {P Q : T → Type 0} {R S : E → Type 0} (r : Result T E)
    → ((x : T) → P x → Q x) → ((e : E) → R e → S e) → MatchResult r P R → MatchResult r Q S
MatchResult-map (Ok x) f g h = f x h
MatchResult-map (Err e) f g h = g e h

pub ok≢err : {T E : Type 0} (r : Result T E) (x : T) (e : E) → r ≡ Ok x → r ≡ Err e → ⊥
ok≢err (Ok y) x e h k = grind (arith)
ok≢err (Err y) x e h k = grind (arith)

-- where each answer is one that is wanted
pub Completes-writes : (p : Promise) (told : Option (List ℕ)) (before after : SinkView)
    (status : Status) → ((text : List ℕ) → p.answers told status text → p.wanted told status)
    → Writes p told before after status → Completes p told status
Completes-writes p told before after status wants h = by_portion (meaning_of status).taken refl h
  where
    by_portion : (t : Portion) → (meaning_of status).taken ≡ t
        → WritesSo t p told before after status → Completes p told status
    by_portion Whole e h = inl (wants h.text h.answers)
    by_portion Front e h = inr (λ whole. front≢whole (sym e ∙ whole))
    by_portion Nothing e h = inr (λ whole. nothing≢whole (sym e ∙ whole))
