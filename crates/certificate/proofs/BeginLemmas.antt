-- What `begin` answers, from what was read of the head and from the reader made of it.
use Rattle.std.specs.Prelude.{◌≡◌, ℕ, List, Bool, false, Option, Some, None, option_map, Result, Ok, Err, IfSome}
use Rattle.std.specs.Result.{IsErrAnd}
use Rattle.std.proofs.Common.{sym, subst, ◌∙◌, ap}
use Rattle.siting_definitions.specs.Answer.{Head}
use Rattle.line_stream.specs.Coming.{Coming}
use Rattle.line_stream.specs.Stream.{LinesState, Stream, coming_in}
use Rattle.certificate.specs.declared.reader.beginning.Beginning.{Beginning}
use Rattle.certificate.specs.declared.reader.AnswerReader.{AnswerReader}
use Rattle.certificate.specs.declared.reader.AnswerError.{AnswerError}
use Rattle.certificate.specs.HeadReading.{answer_limit, coming_of, head_reading}
use Rattle.certificate.specs.AnswerReading.{ReadInMemory}
use Rattle.certificate.specs.ReaderView.{coming, stream_of, FailsAs, ReadsTo, BeginsAs}
use Rattle.certificate.specs.Beginnings.{coming_then, nothing_read, start_of, ReadsHead, BeginRead, HeadRead}
use Rattle.certificate.proofs.ReadLemmas.{error_start, reads_to}

module _ {S : Type 0} (left : S → Option (List ℕ)) (wanted : List ℕ → Result (Head × Coming) AnswerError) where
  pub begins_after : (last : S) (beginning : Beginning) (begun : AnswerReader S × Head) (bytes : Option (List ℕ)) → coming left begun.0 ≡ coming_then (left last) beginning → begun.1 ≡ beginning.head
      → IfSome bytes (λ b. ReadsHead (wanted b) (left last) (Ok beginning)) → IfSome bytes (λ b. BeginsAs left (wanted b) (Ok begun))
  begins_after last beginning begun None comes head reads = reads
  begins_after last beginning begun (Some b) comes head reads =
      (reads.0, reads.1 ∙ ap (λ h. Ok (h, reads.0)) (sym head), comes ∙ reads.2)

  pub fails_after : (last : S) (error : AnswerError) (bytes : Option (List ℕ)) → IfSome bytes (λ b. ReadsHead (wanted b) (left last) (Err error)) → IfSome bytes (λ b. BeginsAs left (wanted b) (Err error))
  fails_after last error None reads = reads
  fails_after last error (Some b) reads = reads

-- what was read of the head, said of the reader
pub read_after : {S : Type 0} (left : S → Option (List ℕ)) (faults : S → ℕ) (start : Stream) (last : S) (beginning : Beginning) (begun : AnswerReader S × Head)
    → stream_of left faults start.is_strict begun.0 ≡ record { lines = beginning.lines; left = left last; faults = faults last; is_strict = start.is_strict } → begun.1 ≡ beginning.head → BeginRead start (left last) (faults last) (Ok beginning) → HeadRead left faults start begun
read_after left faults start last beginning begun streams head read =
    subst (λ (s : Stream). ReadInMemory head_reading start s (Ok begun.1)) (sym streams)
    (subst (λ (h : Head). ReadInMemory head_reading start (record { lines = beginning.lines; left = left last; faults = faults last; is_strict = start.is_strict }) (Ok h)) (sym head) read)

-- ---- the beginning is read
-- nothing was read yet
at_beginning : (P : Coming → Type 0) (s : LinesState) (left : Option (List ℕ)) → s ≡ nothing_read → IfSome (option_map (coming_in false answer_limit s) left) P → IfSome left (λ bytes. P (coming_of bytes))
at_beginning P s None is p = tt
at_beginning P s (Some bytes) is p = subst (λ (t : LinesState). P (coming_in false answer_limit t bytes)) is p

pub begun_stops : (a b : Stream) (e : AnswerError) (after : Option (List ℕ)) (result : Result Beginning AnswerError) → a.lines ≡ nothing_read → (let r : Result Head AnswerError = Err e in ReadInMemory head_reading a b r)
    → IsErrAnd result (λ x. x ≡ e) → IfSome a.left (λ bytes. ReadsHead (head_reading (coming_of bytes)) after result)
begun_stops a b e after result begins h is = by_left a.left (at_beginning (λ r. FailsAs (head_reading r) e) a.lines a.left begins (reads_to head_reading a b (Err e) h))
  where
    by_result : (bytes : List ℕ) (result : Result Beginning AnswerError) → IsErrAnd result (λ x. x ≡ e) → FailsAs (head_reading (coming_of bytes)) e → ReadsHead (head_reading (coming_of bytes)) after result
    by_result bytes (Ok begun) is reads = absurd is
    by_result bytes (Err x) is reads = subst (FailsAs (head_reading (coming_of bytes))) (sym is) reads

    by_left : (left : Option (List ℕ)) → IfSome left (λ bytes. FailsAs (head_reading (coming_of bytes)) e) → IfSome left (λ bytes. ReadsHead (head_reading (coming_of bytes)) after result)
    by_left None reads = tt
    by_left (Some bytes) reads = by_result bytes result is reads

pub begun_reads : (a b : Stream) (head : Head) → a.lines ≡ nothing_read → ReadInMemory head_reading a b (Ok head)
    → (let begun : Beginning = record { head = head; lines = b.lines } in IfSome a.left (λ bytes. ReadsHead (head_reading (coming_of bytes)) b.left (Ok begun)))
begun_reads a b head begins h = by_left a.left (at_beginning (λ r. ReadsTo (head_reading r) (option_map (coming_in false answer_limit b.lines) b.left) (Ok head)) a.lines a.left begins (reads_to head_reading a b (Ok head) h))
  where
    by_left : (left : Option (List ℕ)) → IfSome left (λ bytes. ReadsTo (head_reading (coming_of bytes)) (option_map (coming_in false answer_limit b.lines) b.left) (Ok head))
        → (let begun : Beginning = record { head = head; lines = b.lines } in IfSome left (λ bytes. ReadsHead (head_reading (coming_of bytes)) b.left (Ok begun)))
    by_left None reads = tt
    by_left (Some bytes) reads = reads

pub begun_stopped : (a b : Stream) (e : AnswerError) (result : Result Beginning AnswerError) → a.lines ≡ nothing_read → (let r : Result Head AnswerError = Err e in ReadInMemory head_reading a b r)
    → IsErrAnd result (λ x. x ≡ e) → BeginRead (start_of a.left a.faults a.is_strict) b.left b.faults result
begun_stopped a b e (Ok begun) begins h is = absurd is
begun_stopped a b e (Err x) begins h is =
    subst (λ (y : AnswerError). let r : Result Beginning AnswerError = Err y in BeginRead (start_of a.left a.faults a.is_strict) b.left b.faults r) (sym is)
    (subst (λ (s : LinesState). let r : Result Head AnswerError = Err e in ReadInMemory head_reading (record { lines = s; left = a.left; faults = a.faults; is_strict = a.is_strict }) (start_of b.left b.faults a.is_strict) r) begins (error_start head_reading a b nothing_read e h))

pub begun_read : (a b : Stream) (head : Head) → a.lines ≡ nothing_read → ReadInMemory head_reading a b (Ok head)
    → (let begun : Beginning = record { head = head; lines = b.lines } in BeginRead (start_of a.left a.faults a.is_strict) b.left b.faults (Ok begun))
begun_read a b head begins h =
    let same : b.is_strict ≡ a.is_strict = h.counts.same in
    subst (λ (s : LinesState). ReadInMemory head_reading (record { lines = s; left = a.left; faults = a.faults; is_strict = a.is_strict }) (record { lines = b.lines; left = b.left; faults = b.faults; is_strict = a.is_strict }) (Ok head)) begins
    (subst (λ (t : Bool). ReadInMemory head_reading a (record { lines = b.lines; left = b.left; faults = b.faults; is_strict = t }) (Ok head)) same h)
