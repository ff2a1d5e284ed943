-- What calls read of an answer one after another, where more may be read than is needed.
use Rattle.std.proofs.Common.{◌≡◌, ℕ, ◌≤◌, Bool, false, true, List, [], ◌++◌, Option, Result, Ok, Err, refl, sym, ap, ◌∙◌, inl, inr, subst, arith, append_assoc}
use Rattle.std.specs.Prelude.{IfSome, IsTrue, IsErrOf}
use Rattle.std.specs.Result.{IsErrAnd}
use Rattle.port_io.specs.Faults.{Rose}
use Rattle.port_io.proofs.SourceLemmas.{Consumes-then}
use Rattle.line_stream.specs.Coming.{Coming}
use Rattle.line_stream.specs.Stream.{LinesState, Stream, IsCalm, coming_in, stream}
use Rattle.line_stream.proofs.LineLemmas.{Consumes-none, calm-none, calm-then, ended-then, rose-then, open_after}
use Rattle.certificate.specs.HeadReading.{answer_limit}
use Rattle.certificate.specs.Beginnings.{nothing_read, start_of}
use Rattle.cert_checker.specs.declared.faults.CheckError.{CheckError}
use Rattle.cert_checker.specs.Steps.{ChecksTo}
use Rattle.cert_checker.specs.declared.faults.CheckError.TheVariants.{Fault, ReadFault, TooLong, NoMemory}
use Rattle.cert_checker.specs.declared.checking.Accepted.{Accepted}
use Rattle.cert_checker.specs.Checking.{check_in, checking}
use Rattle.cert_checker.specs.CheckReading.{CheckDone, CheckBlamesAs, CheckCountsAs, IsPast, CheckStopsAs, IsCheckStopped}
use Rattle.cert_checker.proofs.CheckLemmas.{calm_over, done_says, says_all}
use Rattle.pair_check.specs.BatchReading.{BatchesRead, BatchesDone, BlamesAhead, CountsAhead, IsStoppedAt, UnlessFault}
use Rattle.pair_check.proofs.AheadLemmas.{ahead_after, none_ahead}

-- ---- what was read without a need
blames_of : (a b : Stream) (e : CheckError) → CheckBlamesAs a b e → BlamesAhead a b e
blames_of a b (Fault fault) h = h.later
blames_of a b TooLong h = h
blames_of a b ReadFault h = h
blames_of a b NoMemory h = h

counts_of : (a b : Stream) (result : Result Accepted CheckError) → CheckCountsAs a b result → CountsAhead a b result
counts_of a b (Ok x) h = h
counts_of a b (Err e) h = blames_of a b e h

pub of_stopped : (wanted : Coming → Result Accepted CheckError) (a b : Stream) (e : CheckError) → IsCheckStopped wanted a b e → IsStoppedAt wanted a b e
of_stopped wanted a b e h = record { got = h.got; consumes = h.consumes; ahead = none_ahead wanted a.lines h.got h.needed; stops = h.stops; counts = blames_of a b e h.counts }

pub of_done : (a b : Stream) (result : Result Accepted CheckError) → CheckDone a b result → BatchesDone a b result
of_done a b result h = record {
  read = record { got = h.read.got; consumes = h.read.consumes; ahead = none_ahead check_in nothing_read h.read.got h.read.needed; says = h.read.says };
  counts = counts_of a b result h.counts;
}

-- a call that fails, after calls that didn't
blames_later : (a b c : Stream) (e : CheckError) → IsCalm a b → BlamesAhead b c e → BlamesAhead a c e
blames_later a b c (Fault fault) h k = omega (arith, h.later, k)
blames_later a b c TooLong h k = calm-then a b c h k
blames_later a b c ReadFault h k = (omega (arith, h.later, k.0), rose-then a.faults b.faults c.faults h.later k.1)
blames_later a b c NoMemory h k = calm-then a b c h k

module _ (wanted later : Coming → Result Accepted CheckError) (a b c : Stream) (h : IsPast wanted later a b) where
  -- what is said later is said before
  read_same : (got : List ℕ) (x : Result Accepted CheckError) (more : Bool) (rest : List ℕ) → later (coming_in more answer_limit b.lines (got ++ rest)) ≡ x
      → wanted (coming_in more answer_limit a.lines ((h.got ++ got) ++ rest)) ≡ x
  read_same got x more rest is = ap (λ l. wanted (coming_in more answer_limit a.lines l)) (append_assoc h.got got rest) ∙ (h.same more (got ++ rest) ∙ is)

  read_stops : (got : List ℕ) (e : CheckError) → CheckStopsAs later b c got e → CheckStopsAs wanted a c (h.got ++ got) e
  read_stops got (Fault fault) (inl settles) = inl (λ more rest. read_same got (Err (Fault fault)) more rest (settles more rest))
  read_stops got (Fault fault) (inr ended) = inr (h.same false got ∙ ended.0, ended-then a.left b.left c.left h.got h.consumes ended.1)
  read_stops got TooLong settles = λ more rest. read_same got (Err TooLong) more rest (settles more rest)
  read_stops got ReadFault stops =
      open_after answer_limit wanted TooLong later TooLong a.lines b.lines h.got got h.count (λ is. h.same true got ∙ is) stops
  read_stops got NoMemory stops = stops

  -- an error that comes later
  pub read_stopped : (e : CheckError) → IsStoppedAt later b c e → IsStoppedAt wanted a c e
  read_stopped e k = record {
    got = h.got ++ k.got;
    consumes = Consumes-then a.left b.left c.left h.got k.got h.consumes k.consumes;
    ahead = ahead_after wanted later a b h k.got k.ahead;
    stops = read_stops k.got e k.stops;
    counts = blames_later a b c e h.calm k.counts;
  }

-- ---- a check from its beginning
module _ (left : Option (List ℕ)) (faults : ℕ) (is_strict : Bool) where
  pub batches_stopped : (b : Stream) (e : CheckError) → IsStoppedAt check_in (start_of left faults is_strict) b e → BatchesDone (start_of left faults is_strict) b (Err e)
  batches_stopped b e h = record {
    read = record { got = h.got; consumes = h.consumes; ahead = h.ahead; says = done_says left faults is_strict b h.got e h.stops };
    counts = h.counts;
  }

  -- no room for a batch
  pub no_room : BatchesDone (start_of left faults is_strict) (start_of left faults is_strict) (Err NoMemory)
  no_room = record {
    read = record { got = []; consumes = Consumes-none left; ahead = none_ahead check_in nothing_read [] (inl refl); says = inl refl };
    counts = calm-none (start_of left faults is_strict);
  }

-- ---- what is answered
pub answers_error : (a b : Stream) (e : CheckError) (result : Result Accepted CheckError) → IsErrAnd result (λ x. x ≡ e) → BatchesDone a b (Err e) → BatchesDone a b result
answers_error a b e (Ok x) is done = absurd is
answers_error a b e (Err x) is done = subst (λ (y : CheckError). BatchesDone a b (Err y)) (sym is) done

-- the count of the source, whatever else is known of it
counts_over : (a b c : Stream) (result : Result Accepted CheckError) → c.faults ≡ b.faults → c.is_strict ≡ b.is_strict → CountsAhead a b result → CountsAhead a c result
counts_over a b c (Ok x) faults strict h = calm_over a b c faults strict h
counts_over a b c (Err (Fault fault)) faults strict h = rw faults h
counts_over a b c (Err TooLong) faults strict h = calm_over a b c faults strict h
counts_over a b c (Err ReadFault) faults strict h = rw faults h
counts_over a b c (Err NoMemory) faults strict h = calm_over a b c faults strict h

-- the source as the caller has it then
pub batches_over : {S : Type 0} (left : S → Option (List ℕ)) (faults : S → ℕ) (is_strict : Bool) (a : Stream) (lines : LinesState) (last now : S) (result : Result Accepted CheckError) → now ≡ last
    → BatchesDone a (stream left faults is_strict lines last) result → BatchesDone a (start_of (left now) (faults now) is_strict) result
batches_over left faults is_strict a lines last now result same done = record {
  read = rw (ap left same) done.read;
  counts = counts_over a (stream left faults is_strict lines last) (start_of (left now) (faults now) is_strict) result (ap faults same) refl done.counts;
}

-- ---- what a check promises
-- where the source tells its bytes, what is said of those that were read is said of all
pub answers_of : (a b : Option (List ℕ)) (result : Result Accepted CheckError) → BatchesRead a b result → IfSome a (λ bytes. ChecksTo (checking bytes) b result)
answers_of a b result read = says_all a b read.got result read.consumes read.says

-- the count of the source
pub rose_of : (a b : Stream) (result : Result Accepted CheckError) → CountsAhead a b result → IsErrOf result ReadFault → Rose a.faults b.faults
rose_of a b (Ok x) h is = absurd (cc)
rose_of a b (Err ReadFault) h is = h.1
rose_of a b (Err (Fault fault)) h is = absurd (let no : Fault fault ≡ ReadFault = cc in cc)
rose_of a b (Err TooLong) h is = absurd (let no : TooLong ≡ ReadFault = cc in cc)
rose_of a b (Err NoMemory) h is = absurd (let no : NoMemory ≡ ReadFault = cc in cc)

pub later_of : (a b : Stream) (result : Result Accepted CheckError) → CountsAhead a b result → a.faults ≤ b.faults
later_of a b (Ok x) h = h.later
later_of a b (Err (Fault fault)) h = h
later_of a b (Err TooLong) h = h.later
later_of a b (Err ReadFault) h = h.0
later_of a b (Err NoMemory) h = h.later

pub heard_of : (a b : Stream) (result : Result Accepted CheckError) → CountsAhead a b result → IsTrue a.is_strict → UnlessFault result (b.faults ≡ a.faults)
heard_of a b (Ok x) h strict = h.quiet strict
heard_of a b (Err (Fault fault)) h strict = tt
heard_of a b (Err TooLong) h strict = h.quiet strict
heard_of a b (Err ReadFault) h strict = tt
heard_of a b (Err NoMemory) h strict = h.quiet strict
