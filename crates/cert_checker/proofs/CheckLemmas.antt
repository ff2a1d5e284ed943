-- A whole check, step by step.
use Rattle.std.proofs.Common.{◌≡◌, ℕ, ◌≤◌, Bool, false, true, List, [], ◌++◌, Option, None, Some, Result, Ok, Err, IfSome, refl, sym, ap, ◌∙◌, inl, inr, subst, append-nil}
use Rattle.std.specs.Prelude.{⊤, IsTrue, IsErrOf}
use Rattle.std.specs.Result.{IsErrAnd}
use Rattle.std.specs.Io.KnownBytes.{Consumes}
use Rattle.port_io.specs.Faults.{Rose}
use Rattle.port_io.proofs.SourceLemmas.{Consumes-then}
use Rattle.siting_definitions.specs.Marks.{Tally}
use Rattle.siting_definitions.specs.Answer.{Head}
use Rattle.line_stream.specs.Stream.{LinesState, Stream, IsCalm, coming_in, stream}
use Rattle.line_stream.specs.LineReading.{IsEnd}
use Rattle.line_stream.proofs.LineLemmas.{calm-then, ended-then}
use Rattle.certificate.specs.declared.reader.AnswerError.{AnswerError}
use Rattle.certificate.specs.declared.reader.AnswerError.TheVariants.{Form, Instance as BadInstance, TooLong as TextTooLong, ReadFault as TextReadFault, NoMemory as TextNoMemory}
use Rattle.certificate.specs.HeadReading.{answer_limit, in_answer, head_reading, end_of}
use Rattle.certificate.specs.AnswerReading.{TextStopsAs, ReadInMemory, IsNoEnd}
use Rattle.certificate.specs.Beginnings.{start_of}
use Rattle.cert_checker.specs.declared.faults.CheckFault.{CheckFault}
use Rattle.cert_checker.specs.declared.faults.CheckError.{CheckError}
use Rattle.cert_checker.specs.declared.faults.CheckError.TheVariants.{Fault, ReadFault, TooLong, NoMemory}
use Rattle.cert_checker.specs.declared.checking.Accepted.{Accepted}
use Rattle.cert_checker.specs.Faults.{head_fault_of}
use Rattle.cert_checker.specs.Checking.{error_of, unless_fault, read_ok, accepted_of, after_head, check_in, checking}
use Rattle.cert_checker.specs.Steps.{ChecksTo}
use Rattle.cert_checker.specs.CheckReading.{SaysOf, CheckRead, UnlessCheckReadFault, CheckCountsAs, CheckDone, IsPast, CheckStopsAs, IsCheckStopped, after_root, at_last}
use Rattle.cert_checker.proofs.ReadLemmas.{past_as, past_stopped, past_fault, part_read, part_error, part_needed}

-- ---- a check from its beginning
module _ (left : Option (List ℕ)) (faults : ℕ) (is_strict : Bool) where
  -- a fault, or an end of the bytes, before all was checked
  pub done_says : (b : Stream) (got : List ℕ) (e : CheckError) → CheckStopsAs check_in (start_of left faults is_strict) b got e → SaysOf left b.left got (Err e)
  unfolding checking
  done_says b got (Fault fault) (inl settles) = inl (settles false)
  done_says b got (Fault fault) (inr ended) = inr ended
  done_says b got TooLong settles = settles false
  done_says b got ReadFault stops = stops
  done_says b got NoMemory none = absurd none

  pub done_stopped : (b : Stream) (e : CheckError) → IsCheckStopped check_in (start_of left faults is_strict) b e → CheckDone (start_of left faults is_strict) b (Err e)
  done_stopped b e h = record {
    read = record { got = h.got; consumes = h.consumes; needed = h.needed; says = done_says b h.got e h.stops };
    counts = h.counts;
  }

  -- the head was read
  pub has_head : (b : Stream) (h : Head) → ReadInMemory head_reading (start_of left faults is_strict) b (Ok h) → IsPast check_in (after_head h) (start_of left faults is_strict) b
  has_head b h read = part_read true check_in head_reading after_head (λ r. refl) (start_of left faults is_strict) b h read

  -- the head wasn't read
  head_stopped : (b : Stream) (e : AnswerError) (read : (let r : Result Head AnswerError = Err e in ReadInMemory head_reading (start_of left faults is_strict) b r))
      → TextStopsAs false head_reading (start_of left faults is_strict) b read.got e → CheckDone (start_of left faults is_strict) b (Err (error_of e))
  head_stopped b e read stops =
      done_stopped b (error_of e) (part_error check_in head_reading (λ n. after_head n.0 n.1) (λ r. refl) (start_of left faults is_strict) b e read.got read.consumes read.needed stops read.counts)

  pub no_head : (b : Stream) (e : AnswerError) → (let r : Result Head AnswerError = Err e in ReadInMemory head_reading (start_of left faults is_strict) b r)
      → CheckDone (start_of left faults is_strict) b (Err (error_of e))
  no_head b (Form line) read = head_stopped b (Form line) read read.reads
  no_head b BadInstance read = head_stopped b BadInstance read read.reads
  no_head b TextTooLong read = head_stopped b TextTooLong read read.reads
  no_head b TextReadFault read = head_stopped b TextReadFault read read.reads
  no_head b TextNoMemory read = record {
    read = record {
      got = read.got;
      consumes = read.consumes;
      needed = part_needed check_in head_reading (λ n. after_head n.0 n.1) (λ r. refl) (start_of left faults is_strict) b read.got read.needed;
      says = read.needed;
    };
    counts = read.counts;
  }

  -- the head has a fault
  pub head_fails : (b : Stream) (h : Head) (fault : CheckFault) → IsPast check_in (after_head h) (start_of left faults is_strict) b → Some fault ≡ head_fault_of h
      → CheckDone (start_of left faults is_strict) b (Err (Fault fault))
  head_fails b h fault past some =
      done_stopped b (Fault fault) (past_fault check_in (after_head h) (start_of left faults is_strict) b past fault
      (λ more rest. ap (λ (o : Option CheckFault). unless_fault o (after_root h (coming_in more answer_limit b.lines rest))) (sym some)))

  -- the head has none
  pub head_passes : (b : Stream) (h : Head) → IsPast check_in (after_head h) (start_of left faults is_strict) b → None ≡ head_fault_of h → IsPast check_in (after_root h) (start_of left faults is_strict) b
  head_passes b h past none =
      past_as check_in (after_head h) (after_root h) (start_of left faults is_strict) b past (λ more rest. ap (λ (o : Option CheckFault). unless_fault o (after_root h (coming_in more answer_limit b.lines rest))) (sym none))

  -- something comes after the line "end"
  pub finish_fails : (b c : Stream) (h : Head) (t : Tally) (e : AnswerError) → IsPast check_in (at_last h t) (start_of left faults is_strict) b → IsNoEnd b c e
      → CheckDone (start_of left faults is_strict) c (Err (error_of e))
  finish_fails b c h t e past more_comes =
      done_stopped c (error_of e) (past_stopped check_in (at_last h t) (start_of left faults is_strict) b c past (error_of e)
      (part_error (at_last h t) end_of (λ _. Ok (accepted_of h t)) (λ r. refl) b c e more_comes.got more_comes.consumes more_comes.needed more_comes.stops more_comes.counts))

  -- all was read, and there is no fault
  pub accepts : (b c : Stream) (h : Head) (t : Tally) (x : Accepted) → IsPast check_in (at_last h t) (start_of left faults is_strict) b → IsEnd answer_limit b c → x ≡ accepted_of h t
      → CheckDone (start_of left faults is_strict) c (Ok x)
  unfolding checking
  accepts b c h t x past end is = record {
    read = record {
      got = past.got;
      consumes = subst (Consumes left c.left) (append-nil past.got) (Consumes-then left b.left c.left past.got [] past.consumes end.consumes);
      needed = past.needed;
      says = (ap checking (sym (append-nil past.got)) ∙ (past.same false [] ∙ (ap (λ (r : Result ⊤ AnswerError). read_ok r (λ _. Ok (accepted_of h t))) (ap in_answer end.ends) ∙ ap Ok (sym is))), ended-then left b.left c.left past.got past.consumes end.left);
    };
    counts = calm-then (start_of left faults is_strict) b c past.calm end.calm;
  }

-- ---- what is answered
-- an error that was answered
pub answers_error : (a b : Stream) (e : CheckError) (result : Result Accepted CheckError) → IsErrAnd result (λ x. x ≡ e) → CheckDone a b (Err e) → CheckDone a b result
answers_error a b e (Ok x) is done = absurd is
answers_error a b e (Err x) is done = subst (λ (y : CheckError). CheckDone a b (Err y)) (sym is) done

-- the count of the source, whatever else is known of it
pub calm_over : (a b c : Stream) → c.faults ≡ b.faults → c.is_strict ≡ b.is_strict → IsCalm a b → IsCalm a c
calm_over a b c faults strict h = record { later = rw faults h.later; same = strict ∙ h.same; quiet = λ yes. faults ∙ h.quiet yes }

counts_over : (a b c : Stream) (result : Result Accepted CheckError) → c.faults ≡ b.faults → c.is_strict ≡ b.is_strict → CheckCountsAs a b result → CheckCountsAs a c result
counts_over a b c (Ok x) faults strict h = calm_over a b c faults strict h
counts_over a b c (Err (Fault fault)) faults strict h = calm_over a b c faults strict h
counts_over a b c (Err TooLong) faults strict h = calm_over a b c faults strict h
counts_over a b c (Err ReadFault) faults strict h = rw faults h
counts_over a b c (Err NoMemory) faults strict h = calm_over a b c faults strict h

-- the source as the caller has it then
pub done_over : {S : Type 0} (left : S → Option (List ℕ)) (faults : S → ℕ) (is_strict : Bool) (a : Stream) (lines : LinesState) (last now : S) (result : Result Accepted CheckError) → now ≡ last
    → CheckDone a (stream left faults is_strict lines last) result → CheckDone a (start_of (left now) (faults now) is_strict) result
done_over left faults is_strict a lines last now result same done = record {
  read = rw (ap left same) done.read;
  counts = counts_over a (stream left faults is_strict lines last) (start_of (left now) (faults now) is_strict) result (ap faults same) refl done.counts;
}

-- ---- what a check promises
-- a source that has ended gave all its bytes
ended_all : (bytes rest got : List ℕ) → bytes ≡ got ++ rest → ◌≡◌ {A = Option (List ℕ)} (Some rest) (Some []) → bytes ≡ got
ended_all bytes rest got gave ended = let none : rest ≡ [] = cc in gave ∙ (ap (λ l. got ++ l) none ∙ append-nil got)

pub says_all : (a b : Option (List ℕ)) (got : List ℕ) (result : Result Accepted CheckError) → Consumes a b got → SaysOf a b got result → IfSome a (λ bytes. ChecksTo (checking bytes) b result)
says_all None b got result gave says = tt
says_all (Some bytes) None got result gave says = absurd gave
says_all (Some bytes) (Some rest) got (Ok x) gave says = (ap checking (ended_all bytes rest got gave says.1) ∙ says.0, says.1)
says_all (Some bytes) (Some rest) got (Err (Fault fault)) gave (inl settled) = ap checking gave ∙ settled rest
says_all (Some bytes) (Some rest) got (Err (Fault fault)) gave (inr says) = ap checking (ended_all bytes rest got gave says.1) ∙ says.0
says_all (Some bytes) (Some rest) got (Err TooLong) gave settled = ap checking gave ∙ settled rest
says_all (Some bytes) (Some rest) got (Err ReadFault) gave says = tt
says_all (Some bytes) (Some rest) got (Err NoMemory) gave says = tt

-- where the source tells its bytes, what is said of those that were read is said of all
pub answers_of : (a b : Option (List ℕ)) (result : Result Accepted CheckError) → CheckRead a b result → IfSome a (λ bytes. ChecksTo (checking bytes) b result)
answers_of a b result read = says_all a b read.got result read.consumes read.says

-- the count of the source
pub rose_of : (a b : Stream) (result : Result Accepted CheckError) → CheckCountsAs a b result → IsErrOf result ReadFault → Rose a.faults b.faults
rose_of a b (Ok x) h is = absurd (cc)
rose_of a b (Err ReadFault) h is = h.1
rose_of a b (Err (Fault fault)) h is = absurd (let no : Fault fault ≡ ReadFault = cc in cc)
rose_of a b (Err TooLong) h is = absurd (let no : TooLong ≡ ReadFault = cc in cc)
rose_of a b (Err NoMemory) h is = absurd (let no : NoMemory ≡ ReadFault = cc in cc)

pub later_of : (a b : Stream) (result : Result Accepted CheckError) → CheckCountsAs a b result → a.faults ≤ b.faults
later_of a b (Ok x) h = h.later
later_of a b (Err (Fault fault)) h = h.later
later_of a b (Err TooLong) h = h.later
later_of a b (Err ReadFault) h = h.0
later_of a b (Err NoMemory) h = h.later

pub heard_of : (a b : Stream) (result : Result Accepted CheckError) → CheckCountsAs a b result → IsTrue a.is_strict → UnlessCheckReadFault result (b.faults ≡ a.faults)
heard_of a b (Ok x) h strict = h.quiet strict
heard_of a b (Err (Fault fault)) h strict = h.quiet strict
heard_of a b (Err TooLong) h strict = h.quiet strict
heard_of a b (Err ReadFault) h strict = tt
heard_of a b (Err NoMemory) h strict = h.quiet strict
