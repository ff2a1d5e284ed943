-- What calls read of an answer one after another, and what a check says of it.
use Rattle.std.proofs.Common.{◌≡◌, ℕ, Bool, true, false, List, [], ◌++◌, refl, ap, ◌∙◌, inl, inr, arith, append_assoc, Result, Ok, Err}
use Rattle.std.specs.Io.KnownBytes.{Consumes}
use Rattle.std.proofs.lemmas.List.{length-append}
use Rattle.port_io.proofs.SourceLemmas.{Consumes-then}
use Rattle.line_stream.specs.Coming.{Coming}
use Rattle.line_stream.specs.Stream.{Stream, IsCalm, coming_in, IsNeeded}
use Rattle.line_stream.proofs.LineLemmas.{Consumes-none, calm-none, calm-then, ended-then, rose-then, needed-kept, needed-last, needed_as, open_as, open_after}
use Rattle.certificate.specs.declared.reader.AnswerError.{AnswerError}
use Rattle.certificate.specs.declared.reader.AnswerError.TheVariants.{Form, Instance as BadInstance, TooLong as TextTooLong, ReadFault as TextReadFault, NoMemory as TextNoMemory}
use Rattle.certificate.specs.HeadReading.{answer_limit}
use Rattle.certificate.specs.AnswerReading.{TextStopsAs, TextBlamesAs, ReadWith}
use Rattle.cert_checker.specs.declared.faults.CheckFault.{CheckFault}
use Rattle.cert_checker.specs.declared.faults.CheckError.{CheckError}
use Rattle.cert_checker.specs.declared.faults.CheckError.TheVariants.{Fault, ReadFault, TooLong, NoMemory}
use Rattle.cert_checker.specs.declared.checking.Accepted.{Accepted}
use Rattle.cert_checker.specs.Checking.{error_of, read_ok}
use Rattle.cert_checker.specs.CheckReading.{CheckBlamesAs, IsPast, CheckStopsAs, IsCheckStopped}

-- ---- the bytes between
-- nothing was read yet
pub past_nothing : (wanted : Coming → Result Accepted CheckError) (a : Stream) → IsPast wanted wanted a a
past_nothing wanted a = record { got = []; consumes = Consumes-none a.left; needed = inl refl; same = λ more rest. refl; count = omega arith; calm = calm-none a }

-- what is wanted later may be said otherwise
pub past_as : (wanted later last : Coming → Result Accepted CheckError) (a b : Stream) → IsPast wanted later a b
    → ((more : Bool) (rest : List ℕ) → later (coming_in more answer_limit b.lines rest) ≡ last (coming_in more answer_limit b.lines rest)) → IsPast wanted last a b
past_as wanted later last a b h is = record { got = h.got; consumes = h.consumes; needed = h.needed; same = λ more rest. h.same more rest ∙ is more rest; count = h.count; calm = h.calm }

-- a call that fails as the source did or didn't, after calls that didn't
blames_later : (a b c : Stream) (e : CheckError) → IsCalm a b → CheckBlamesAs b c e → CheckBlamesAs a c e
blames_later a b c (Fault fault) h k = calm-then a b c h k
blames_later a b c TooLong h k = calm-then a b c h k
blames_later a b c ReadFault h k = (omega (arith, h.later, k.0), rose-then a.faults b.faults c.faults h.later k.1)
blames_later a b c NoMemory h k = calm-then a b c h k

-- the same, of a call of a reader
pub blames_text : (b c : Stream) (e : AnswerError) → TextBlamesAs b c e → CheckBlamesAs b c (error_of e)
blames_text b c (Form line) k = k
blames_text b c BadInstance k = k
blames_text b c TextTooLong k = k
blames_text b c TextReadFault k = k
blames_text b c TextNoMemory k = k

module _ (wanted later : Coming → Result Accepted CheckError) (a b c : Stream) (h : IsPast wanted later a b) where
  -- nothing was read that wasn't needed, before and after
  past_needed : {T E : Type 0} (part : Coming → Result T E) (open_ : E) → ((r : Coming) → part r ≡ Err open_ → later r ≡ Err TooLong)
      → (got : List ℕ) → IsNeeded answer_limit part open_ b.lines got → IsNeeded answer_limit wanted TooLong a.lines (h.got ++ got)
  past_needed part open_ also got (inl none) = needed-kept answer_limit wanted TooLong a.lines h.got got none h.needed
  past_needed part open_ also got (inr last) =
      needed-last answer_limit wanted TooLong part open_ a.lines b.lines h.got got h.count (λ front is. h.same true front ∙ also _ is) last

  -- what is said later is said before
  past_same : (got : List ℕ) (x : Result Accepted CheckError) (more : Bool) (rest : List ℕ) → later (coming_in more answer_limit b.lines (got ++ rest)) ≡ x
      → wanted (coming_in more answer_limit a.lines ((h.got ++ got) ++ rest)) ≡ x
  past_same got x more rest is = ap (λ l. wanted (coming_in more answer_limit a.lines l)) (append_assoc h.got got rest) ∙ (h.same more (got ++ rest) ∙ is)

  past_stops : (got : List ℕ) (e : CheckError) → CheckStopsAs later b c got e → CheckStopsAs wanted a c (h.got ++ got) e
  past_stops got (Fault fault) (inl settles) = inl (λ more rest. past_same got (Err (Fault fault)) more rest (settles more rest))
  past_stops got (Fault fault) (inr ended) = inr (h.same false got ∙ ended.0, ended-then a.left b.left c.left h.got h.consumes ended.1)
  past_stops got TooLong settles = λ more rest. past_same got (Err TooLong) more rest (settles more rest)
  past_stops got ReadFault stops = open_after answer_limit wanted TooLong later TooLong a.lines b.lines h.got got h.count (λ is. h.same true got ∙ is) stops
  past_stops got NoMemory stops = stops

  -- an error that comes later
  pub past_stopped : (e : CheckError) → IsCheckStopped later b c e → IsCheckStopped wanted a c e
  past_stopped e k = record {
    got = h.got ++ k.got;
    consumes = Consumes-then a.left b.left c.left h.got k.got h.consumes k.consumes;
    needed = past_needed later TooLong (λ r is. is) k.got k.needed;
    stops = past_stops k.got e k.stops;
    counts = blames_later a b c e h.calm k.counts;
  }

  -- what is wanted after what is wanted later
  pub past_then : (last : Coming → Result Accepted CheckError) → IsPast later last b c → IsPast wanted last a c
  past_then last k = record {
    got = h.got ++ k.got;
    consumes = Consumes-then a.left b.left c.left h.got k.got h.consumes k.consumes;
    needed = past_needed later TooLong (λ r is. is) k.got k.needed;
    same = λ more rest. past_same k.got (last (coming_in more answer_limit c.lines rest)) more rest (k.same more rest);
    count = omega (arith, h.count, k.count, length-append h.got k.got);
    calm = calm-then a b c h.calm k.calm;
  }

-- a fault of what was read
pub past_fault : (wanted later : Coming → Result Accepted CheckError) (a b : Stream) → IsPast wanted later a b → (fault : CheckFault)
    → ((more : Bool) (rest : List ℕ) → later (coming_in more answer_limit b.lines rest) ≡ Err (Fault fault)) → IsCheckStopped wanted a b (Fault fault)
past_fault wanted later a b h fault is = record {
  got = h.got;
  consumes = h.consumes;
  needed = h.needed;
  stops = inl (λ more rest. h.same more rest ∙ is more rest);
  counts = h.calm;
}

-- ---- a part of what is wanted later
module _ {X : Type 0} (later : Coming → Result Accepted CheckError) (part : Coming → Result X AnswerError) (more : X → Result Accepted CheckError)
    (begins : (r : Coming) → later r ≡ read_ok (part r) more) (b c : Stream) where
  -- what is said once the part was read, or not
  part_says : (r : Coming) (x : Result X AnswerError) → part r ≡ x → later r ≡ read_ok x more
  part_says r x is = begins r ∙ ap (λ y. read_ok y more) is

  pub part_needed : (got : List ℕ) → IsNeeded answer_limit part TextTooLong b.lines got → IsNeeded answer_limit later TooLong b.lines got
  part_needed got needed = needed_as answer_limit part TextTooLong later TooLong (λ r is. part_says r (Err TextTooLong) is) b.lines got needed

  part_stops : (got : List ℕ) (e : AnswerError) → TextStopsAs false part b c got e → CheckStopsAs later b c got (error_of e)
  part_stops got (Form line) (inl settles) = inl (λ goes_on rest. part_says _ (Err (Form line)) (settles goes_on rest))
  part_stops got (Form line) (inr ended) = inr (part_says _ (Err (Form line)) ended.0, ended.1)
  part_stops got BadInstance settles = inl (λ goes_on rest. part_says _ (Err BadInstance) (settles goes_on rest))
  part_stops got TextTooLong settles = λ goes_on rest. part_says _ (Err TextTooLong) (settles goes_on rest)
  part_stops got TextReadFault stops = open_as answer_limit part TextTooLong later TooLong (λ r is. part_says r (Err TextTooLong) is) b.lines got stops
  part_stops got TextNoMemory none = absurd (cc)

  -- the part wasn't read
  pub part_error : (e : AnswerError) (got : List ℕ) → Consumes b.left c.left got → IsNeeded answer_limit part TextTooLong b.lines got → TextStopsAs false part b c got e → TextBlamesAs b c e
      → IsCheckStopped later b c (error_of e)
  part_error e got consumes needed stops counts = record {
    got = got;
    consumes = consumes;
    needed = part_needed got needed;
    stops = part_stops got e stops;
    counts = blames_text b c e counts;
  }

-- the part was read
pub part_read : {T : Type 0} (takes : Bool) (later : Coming → Result Accepted CheckError) (part : Coming → Result (T × Coming) AnswerError) (more : T → Coming → Result Accepted CheckError)
    → ((r : Coming) → later r ≡ read_ok (part r) (λ n. more n.0 n.1)) → (b c : Stream) (v : T) → ReadWith takes part b c (Ok v) → IsPast later (more v) b c
part_read {T = T} takes later part more begins b c v k =
    let says : T × Coming → Result Accepted CheckError = λ n. more n.0 n.1 in
    record {
      got = k.got;
      consumes = k.consumes;
      needed = part_needed later part says begins b c k.got k.needed;
      same = λ goes_on rest. part_says later part says begins b c _ (Ok (v, coming_in goes_on answer_limit c.lines rest)) (k.reads goes_on rest);
      count = k.count;
      calm = k.counts;
    }
