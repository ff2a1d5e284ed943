-- Calls that read an answer one after another.
use Rattle.std.proofs.Common.{◌≡◌, ℕ, ◌≤◌, Bool, true, false, List, [], ◌++◌, length, refl, sym, ap, subst, ◌∙◌, inl, inr, arith, append_assoc, append-nil, Option, Some, None, IfSome, option_map, ok_or, Result, Ok, Err}
use Rattle.std.specs.Prelude.{⊤}
use Rattle.std.specs.Result.{IsErrAnd}
use Rattle.std.specs.Io.KnownBytes.{Consumes}
use Rattle.std.proofs.lemmas.List.{length-append}
use Rattle.instance_text.specs.Reading.{and_then}
use Rattle.port_io.proofs.SourceLemmas.{Consumes-then}
use Rattle.line_stream.specs.declared.lines.LineError.{LineError}
use Rattle.line_stream.specs.declared.lines.LineError.TheVariants.{Missing, Surplus, TooLong as LineTooLong, Failed as SourceFailed}
use Rattle.line_stream.specs.Coming.{Coming, next_line, input_end}
use Rattle.line_stream.specs.Stream.{LinesState, Stream, IsCalm, AreTaken, coming_in, Settles, IsNeeded}
use Rattle.line_stream.specs.LineReading.{LineBlames, IsLine, IsLineStopped, IsKept, LineRead, LinesEndRead}
use Rattle.line_stream.proofs.LineLemmas.{Consumes-none, calm-none, calm-then, ended-then, rose-then, needed-kept, needed-last, needed_as, open_as, open_after}
use Rattle.certificate.specs.declared.reader.AnswerError.{AnswerError}
use Rattle.certificate.specs.declared.reader.AnswerError.TheVariants.{Form, Instance as BadInstance, TooLong, ReadFault, NoMemory}
use Rattle.certificate.specs.HeadReading.{answer_limit, answer_error, in_answer, answer_line, or_form, formed, end_of}
use Rattle.certificate.specs.Blames.{Blames}
use Rattle.certificate.specs.AnswerReading.{TextStopsAs, TextBlamesAs, TextCountsAs, ReadWith, EndRead}
use Rattle.certificate.specs.ReaderView.{FailsAs, ReadsTo, EndsAs, TakesNone}

-- ---- what was wanted before some bytes were read is told by what is wanted after them
-- What `wanted` is of the input that came before is what `change` makes of what `later` is of the one that comes after.
pub record IsThrough {T U : Type 0} (wanted : Coming → Result U AnswerError) (later : Coming → Result T AnswerError) (change : Result T AnswerError → Result U AnswerError) (before after : Stream) : Type 0 where
  pub got : List ℕ
  pub consumes : Consumes before.left after.left got
  pub needed : IsNeeded answer_limit wanted TooLong before.lines got
  pub same : (more : Bool) (rest : List ℕ) → wanted (coming_in more answer_limit before.lines (got ++ rest)) ≡ change (later (coming_in more answer_limit after.lines rest))
  pub errors : (e : AnswerError) → change (Err e) ≡ Err e
  pub count : AreTaken before.lines after.lines got
  pub calm : IsCalm before after

error_or : {T : Type 0} → AnswerError → Result T AnswerError → AnswerError
error_or e (Ok value) = e
error_or e (Err error) = error

-- an error is one of any result
pub same_error : {T : Type 0} (e f : AnswerError) → ◌≡◌ {A = Result T AnswerError} (Err e) (Err f) → e ≡ f
unfolding error_or
same_error e f is = ap (error_or e) is

-- no call failed before the one that is answered
blames_later : (a b c : Stream) (e : AnswerError) → IsCalm a b → TextBlamesAs b c e → TextBlamesAs a c e
blames_later a b c (Form line) h k = calm-then a b c h k
blames_later a b c BadInstance h k = calm-then a b c h k
blames_later a b c TooLong h k = calm-then a b c h k
blames_later a b c ReadFault h k = (omega (arith, h.later, k.0), rose-then a.faults b.faults c.faults h.later k.1)
blames_later a b c NoMemory h k = calm-then a b c h k

-- what public calls say of the count
pub blames_of : {T : Type 0} (a b : Stream) (result : Result T AnswerError) → TextCountsAs a b result → Blames a.faults b.faults result
blames_of a b (Ok v) h = record { later = h.later; failed = λ is. absurd (cc) }
blames_of a b (Err ReadFault) h = record { later = h.0; failed = λ is. h.1 }
blames_of a b (Err (Form line)) h = record { later = h.later; failed = λ is. absurd (let no : Form line ≡ ReadFault = same_error (Form line) ReadFault is in cc) }
blames_of a b (Err BadInstance) h = record { later = h.later; failed = λ is. absurd (let no : BadInstance ≡ ReadFault = same_error BadInstance ReadFault is in cc) }
blames_of a b (Err TooLong) h = record { later = h.later; failed = λ is. absurd (let no : TooLong ≡ ReadFault = same_error TooLong ReadFault is in cc) }
blames_of a b (Err NoMemory) h = record { later = h.later; failed = λ is. absurd (let no : NoMemory ≡ ReadFault = same_error NoMemory ReadFault is in cc) }

module _ {T U : Type 0} (wanted : Coming → Result U AnswerError) (later : Coming → Result T AnswerError) (change : Result T AnswerError → Result U AnswerError) (a b c : Stream) (h : IsThrough wanted later change a b) where
  -- nothing was read that wasn't needed, before and after
  through_needed : (got : List ℕ) → IsNeeded answer_limit later TooLong b.lines got → IsNeeded answer_limit wanted TooLong a.lines (h.got ++ got)
  through_needed got (inl none) = needed-kept answer_limit wanted TooLong a.lines h.got got none h.needed
  through_needed got (inr last) =
      needed-last answer_limit wanted TooLong later TooLong a.lines b.lines h.got got h.count (λ front is. h.same true front ∙ (ap change is ∙ h.errors TooLong)) last

  -- an answer that is settled is settled before
  through_same : (got : List ℕ) (r : Result T AnswerError) (more : Bool) (rest : List ℕ) → later (coming_in more answer_limit b.lines (got ++ rest)) ≡ r → wanted (coming_in more answer_limit a.lines ((h.got ++ got) ++ rest)) ≡ change r
  through_same got r more rest is =
      ap (λ l. wanted (coming_in more answer_limit a.lines l)) (append_assoc h.got got rest) ∙ (h.same more (got ++ rest) ∙ ap change is)

  through_settles : (got : List ℕ) (e : AnswerError) → Settles answer_limit later b.lines got (Err e) → Settles answer_limit wanted a.lines (h.got ++ got) (Err e)
  through_settles got e settles more rest = through_same got (Err e) more rest (settles more rest) ∙ h.errors e

  -- an error that comes later is one of the whole
  through_stops : (n : Bool) (got : List ℕ) (e : AnswerError) → TextStopsAs n later b c got e → TextStopsAs n wanted a c (h.got ++ got) e
  through_stops n got (Form line) (inl settles) = inl (through_settles got (Form line) settles)
  through_stops n got (Form line) (inr ended) =
      inr (h.same false got ∙ (ap change ended.0 ∙ h.errors (Form line)), ended-then a.left b.left c.left h.got h.consumes ended.1)
  through_stops n got BadInstance stops = through_settles got BadInstance stops
  through_stops n got TooLong stops = through_settles got TooLong stops
  through_stops n got ReadFault stops =
      open_after answer_limit wanted TooLong later TooLong a.lines b.lines h.got got h.count (λ is. h.same true got ∙ (ap change is ∙ h.errors TooLong)) stops
  through_stops n got NoMemory stops = stops

module _ {T U : Type 0} (n : Bool) (wanted : Coming → Result (U × Coming) AnswerError) (later : Coming → Result (T × Coming) AnswerError) (change : Result (T × Coming) AnswerError → Result (U × Coming) AnswerError) (a b c : Stream) (h : IsThrough wanted later change a b) where
  -- an error that comes later
  pub through_error : (e : AnswerError) → ReadWith {T = T} n later b c (Err e) → ReadWith {T = U} n wanted a c (Err e)
  through_error e k = record {
    got = h.got ++ k.got;
    consumes = Consumes-then a.left b.left c.left h.got k.got h.consumes k.consumes;
    needed = through_needed wanted later change a b c h k.got k.needed;
    reads = through_stops wanted later change a b c h n k.got e k.reads;
    count = tt;
    counts = blames_later a b c e h.calm k.counts;
  }

  -- a value that is read later
  pub through_value : (v : T) (w : U) → ((r : Coming) → change (Ok (v, r)) ≡ Ok (w, r)) → ReadWith n later b c (Ok v) → ReadWith n wanted a c (Ok w)
  through_value v w is k = record {
    got = h.got ++ k.got;
    consumes = Consumes-then a.left b.left c.left h.got k.got h.consumes k.consumes;
    needed = through_needed wanted later change a b c h k.got k.needed;
    reads = λ more rest. through_same wanted later change a b c h k.got (Ok (v, coming_in more answer_limit c.lines rest)) more rest (k.reads more rest) ∙ is (coming_in more answer_limit c.lines rest);
    count = (let more : AreTaken b.lines c.lines k.got = k.count in omega (arith, h.count, more, length-append h.got k.got));
    counts = calm-then a b c h.calm k.counts;
  }

  -- memory is wanted
  pub through_no_memory : ReadWith {T = U} true wanted a b (Err NoMemory)
  through_no_memory = record {
    got = h.got;
    consumes = h.consumes;
    needed = h.needed;
    reads = refl;
    count = tt;
    counts = h.calm;
  }

-- one thing after another
pub through_then : {T U V : Type 0} (wanted : Coming → Result V AnswerError) (later : Coming → Result U AnswerError) (last : Coming → Result T AnswerError) (change : Result U AnswerError → Result V AnswerError) (change' : Result T AnswerError → Result U AnswerError)
    (a b c : Stream) → IsThrough wanted later change a b → IsThrough later last change' b c → IsThrough wanted last (λ r. change (change' r)) a c
through_then wanted later last change change' a b c h k = record {
  got = h.got ++ k.got;
  consumes = Consumes-then a.left b.left c.left h.got k.got h.consumes k.consumes;
  needed = through_needed wanted later change a b c h k.got k.needed;
  same = λ more rest. through_same wanted later change a b c h k.got (change' (last (coming_in more answer_limit c.lines rest))) more rest (k.same more rest);
  errors = λ e. ap change (k.errors e) ∙ h.errors e;
  count = omega (arith, h.count, k.count, length-append h.got k.got);
  calm = calm-then a b c h.calm k.calm;
}

-- no call failed, whatever the lines hold
calm_lines : (a b : Stream) (lines : LinesState) → IsCalm a b → IsCalm a (record b { lines = lines })
calm_lines a b lines h = record { later = h.later; same = h.same; quiet = h.quiet }

blames_lines : (a b : Stream) (lines : LinesState) (e : AnswerError) → TextBlamesAs a b e → TextBlamesAs a (record b { lines = lines }) e
blames_lines a b lines (Form line) h = calm_lines a b lines h
blames_lines a b lines BadInstance h = calm_lines a b lines h
blames_lines a b lines TooLong h = calm_lines a b lines h
blames_lines a b lines ReadFault h = h
blames_lines a b lines NoMemory h = calm_lines a b lines h

-- what is known at an error doesn't count what the lines hold
stops_lines : {T : Type 0} (n : Bool) (wanted : Coming → Result T AnswerError) (a b : Stream) (lines : LinesState) (got : List ℕ) (e : AnswerError) → TextStopsAs n wanted a b got e → TextStopsAs n wanted a (record b { lines = lines }) got e
stops_lines n wanted a b lines got (Form line) stops = stops
stops_lines n wanted a b lines got BadInstance stops = stops
stops_lines n wanted a b lines got TooLong stops = stops
stops_lines n wanted a b lines got ReadFault stops = stops
stops_lines n wanted a b lines got NoMemory stops = stops

-- what fails as another thing does that was wanted
pub needed_also : {T U : Type 0} (f : Coming → Result T AnswerError) (g : Coming → Result U AnswerError) → ((r : Coming) (e : AnswerError) → f r ≡ Err e → g r ≡ Err e)
    → (s : LinesState) (got : List ℕ) → IsNeeded answer_limit f TooLong s got → IsNeeded answer_limit g TooLong s got
needed_also f g also s got needed = needed_as answer_limit f TooLong g TooLong (λ r is. also r TooLong is) s got needed

pub error_also : {T U : Type 0} (n : Bool) (f : Coming → Result (T × Coming) AnswerError) (g : Coming → Result (U × Coming) AnswerError) → ((r : Coming) (e : AnswerError) → f r ≡ Err e → g r ≡ Err e)
    → (a b : Stream) (e : AnswerError) → ReadWith {T = T} n f a b (Err e) → ReadWith {T = U} n g a b (Err e)
error_also n f g also a b e h = record {
  got = h.got;
  consumes = h.consumes;
  needed = needed_also f g also a.lines h.got h.needed;
  reads = by_error e h.reads;
  count = tt;
  counts = h.counts;
}
  where
    by_error : (e : AnswerError) → TextStopsAs n f a b h.got e → TextStopsAs n g a b h.got e
    by_error (Form line) (inl settles) = inl (λ more rest. also _ (Form line) (settles more rest))
    by_error (Form line) (inr ended) = inr (also _ (Form line) ended.0, ended.1)
    by_error BadInstance settles = λ more rest. also _ BadInstance (settles more rest)
    by_error TooLong settles = λ more rest. also _ TooLong (settles more rest)
    by_error ReadFault is_open = open_as answer_limit f TooLong g TooLong (λ r is. also r TooLong is) a.lines h.got is_open
    by_error NoMemory takes = takes

-- at an error it doesn't count what the lines hold
error_lines : {T : Type 0} {n : Bool} (wanted : Coming → Result (T × Coming) AnswerError) (a b : Stream) (lines : LinesState) (e : AnswerError) → ReadWith {T = T} n wanted a b (Err e) → ReadWith {T = T} n wanted a (record b { lines = lines }) (Err e)
error_lines {n = n} wanted a b lines e h = record { got = h.got; consumes = h.consumes; needed = h.needed; reads = stops_lines n wanted a b lines h.got e h.reads; count = tt; counts = blames_lines a b lines e h.counts }

-- a source is strict or not, whatever is read of it
strict_blames : (a b : Stream) (e : AnswerError) → TextBlamesAs a b e → TextBlamesAs a (record b { is_strict = a.is_strict }) e
strict_blames a b (Form line) h = record { later = h.later; same = refl; quiet = h.quiet }
strict_blames a b BadInstance h = record { later = h.later; same = refl; quiet = h.quiet }
strict_blames a b TooLong h = record { later = h.later; same = refl; quiet = h.quiet }
strict_blames a b ReadFault h = h
strict_blames a b NoMemory h = record { later = h.later; same = refl; quiet = h.quiet }

strict_stops : {T : Type 0} (n : Bool) (wanted : Coming → Result T AnswerError) (a b : Stream) (strict : Bool) (got : List ℕ) (e : AnswerError) → TextStopsAs n wanted a b got e → TextStopsAs n wanted a (record b { is_strict = strict }) got e
strict_stops n wanted a b strict got (Form line) stops = stops
strict_stops n wanted a b strict got BadInstance stops = stops
strict_stops n wanted a b strict got TooLong stops = stops
strict_stops n wanted a b strict got ReadFault stops = stops
strict_stops n wanted a b strict got NoMemory stops = stops

-- at an error, said of lines of which nothing was read
pub error_start : {T : Type 0} {n : Bool} (wanted : Coming → Result (T × Coming) AnswerError) (a b : Stream) (lines : LinesState) (e : AnswerError) → ReadWith {T = T} n wanted a b (Err e)
    → ReadWith {T = T} n wanted a (record { lines = lines; left = b.left; faults = b.faults; is_strict = a.is_strict }) (Err e)
error_start {n = n} wanted a b lines e h =
    let here : Stream = record b { lines = lines } in
    let k = error_lines {n = n} wanted a b lines e h in
    record { got = k.got; consumes = k.consumes; needed = k.needed; reads = strict_stops n wanted a here a.is_strict k.got e k.reads; count = tt; counts = strict_blames a here e k.counts }

-- what is wanted in other words
pub read_also : {T : Type 0} (n : Bool) (f g : Coming → Result (T × Coming) AnswerError) → ((r : Coming) → f r ≡ g r) → (a b : Stream) (result : Result T AnswerError) → ReadWith n f a b result → ReadWith n g a b result
read_also n f g same a b (Ok v) h = record {
  got = h.got;
  consumes = h.consumes;
  needed = needed_also f g (λ r e is. sym (same r) ∙ is) a.lines h.got h.needed;
  reads = λ more rest. sym (same (coming_in more answer_limit a.lines (h.got ++ rest))) ∙ h.reads more rest;
  count = h.count;
  counts = h.counts;
}
read_also n f g same a b (Err e) h = error_also n f g (λ r e is. sym (same r) ∙ is) a b e h

-- ---- one call after another
module _ {T U : Type 0} (f : Coming → Result (T × Coming) AnswerError) (g : T → Coming → Result (U × Coming) AnswerError) where
  abbrev both : Coming → Result (U × Coming) AnswerError
  both r = and_then (f r) (λ x. g x.0 x.1)

  abbrev rest_of : Result (T × Coming) AnswerError → Result (U × Coming) AnswerError
  rest_of r = and_then r (λ x. g x.0 x.1)

  -- what leaves the first open leaves both open
  both_needed : (s : LinesState) (got : List ℕ) → IsNeeded answer_limit f TooLong s got → IsNeeded answer_limit both TooLong s got
  both_needed s got needed = needed_as answer_limit f TooLong both TooLong (λ r is. ap rest_of is) s got needed

  -- after the value of the first the second is wanted
  after_value : {m : Bool} (a b : Stream) (v : T) → ReadWith m f a b (Ok v) → IsThrough both (g v) (λ r. r) a b
  after_value a b v h = record {
    got = h.got;
    consumes = h.consumes;
    needed = both_needed a.lines h.got h.needed;
    same = λ more rest. ap rest_of (h.reads more rest);
    errors = λ e. refl;
    count = h.count;
    calm = h.counts;
  }

  -- at the start the first is wanted
  from_start : (a : Stream) → IsThrough both f rest_of a a
  from_start a = record { got = []; consumes = Consumes-none a.left; needed = inl refl; same = λ more rest. refl; errors = λ e. refl; count = omega arith; calm = calm-none a }

  -- the first read a value, and the second answers
  pub read_then : {m n : Bool} (a b c : Stream) (v : T) (result : Result U AnswerError) → ReadWith m f a b (Ok v) → ReadWith n (g v) b c result → ReadWith n both a c result
  read_then {n = n} a b c v (Ok w) h k = through_value n both (g v) (λ r. r) a b c (after_value a b v h) w w (λ r. refl) k
  read_then {n = n} a b c v (Err e) h k = through_error n both (g v) (λ r. r) a b c (after_value a b v h) e k

  -- the first failed
  pub read_stop : {n : Bool} (a b : Stream) (e : AnswerError) (result : Result U AnswerError) → IsErrAnd result (λ x. x ≡ e) → ReadWith {T = T} n f a b (Err e) → ReadWith n both a b result
  read_stop a b e (Ok w) is h = absurd is
  read_stop {n = n} a b e (Err x) is h =
      subst (λ (y : AnswerError). ReadWith {T = U} n both a b (Err y)) (sym is) (through_error n both f rest_of a a b (from_start a) e h)

-- ---- calls that read nothing
pub read_none : {T : Type 0} {n : Bool} (wanted : Coming → Result (T × Coming) AnswerError) (a : Stream) (v : T)
    → ((more : Bool) (rest : List ℕ) → wanted (coming_in more answer_limit a.lines rest) ≡ Ok (v, coming_in more answer_limit a.lines rest)) → ReadWith n wanted a a (Ok v)
read_none wanted a v is = record { got = []; consumes = Consumes-none a.left; needed = inl refl; reads = is; count = omega arith; counts = calm-none a }

-- that the instance isn't canonical is settled without reading on
pub settled_here : {T : Type 0} {n : Bool} (wanted : Coming → Result (T × Coming) AnswerError) (a : Stream) → Settles answer_limit wanted a.lines [] (Err BadInstance) → ReadWith {T = T} n wanted a a (Err BadInstance)
settled_here wanted a settles = record {
  got = [];
  consumes = Consumes-none a.left;
  needed = inl refl;
  reads = settles;
  count = tt;
  counts = calm-none a;
}

-- memory is wanted without reading on
pub memory_here : {T : Type 0} (wanted : Coming → Result (T × Coming) AnswerError) (a : Stream) → ReadWith {T = T} true wanted a a (Err NoMemory)
memory_here wanted a = record {
  got = [];
  consumes = Consumes-none a.left;
  needed = inl refl;
  reads = refl;
  count = tt;
  counts = calm-none a;
}

-- what needs no memory may be said of one that takes it
pub in_memory : {T : Type 0} {n : Bool} (wanted : Coming → Result (T × Coming) AnswerError) (a b : Stream) (result : Result T AnswerError) → ReadWith false wanted a b result → ReadWith n wanted a b result
in_memory wanted a b (Ok v) h = record { got = h.got; consumes = h.consumes; needed = h.needed; reads = h.reads; count = h.count; counts = h.counts }
in_memory {n = n} wanted a b (Err e) h = record { got = h.got; consumes = h.consumes; needed = h.needed; reads = by_error e h.reads; count = tt; counts = h.counts }
  where
    by_error : (e : AnswerError) → TextStopsAs false wanted a b h.got e → TextStopsAs n wanted a b h.got e
    by_error (Form line) stops = stops
    by_error BadInstance stops = stops
    by_error TooLong stops = stops
    by_error ReadFault stops = stops
    by_error NoMemory stops = absurd (cc)

-- ---- lines
-- what leaves a line open leaves it open for an answer
pub line_needed : {T : Type 0} (wanted : Coming → Result T LineError) (s : LinesState) (got : List ℕ) → IsNeeded answer_limit wanted LineTooLong s got → IsNeeded answer_limit (λ r. in_answer (wanted r)) TooLong s got
line_needed wanted s got needed =
    needed_as answer_limit wanted LineTooLong (λ r. in_answer (wanted r)) TooLong (λ r is. ap in_answer is) s got needed

-- a line was read
pub line_read : {n : Bool} (a b : Stream) (line : List ℕ) → IsLine answer_limit a b line → ReadWith n answer_line a b (Ok line)
line_read a b line h = record {
  got = h.got;
  consumes = h.consumes;
  needed = line_needed next_line a.lines h.got h.needed;
  reads = λ more rest. ap in_answer (h.reads more rest);
  count = h.count;
  counts = h.calm;
}

module _ {T : Type 0} (wanted : Coming → Result T LineError) (a b : Stream) where
  -- an error of the lines, as one of an answer
  stopped_as : (n : Bool) (got : List ℕ) (e : LineError) → (h : IsLineStopped answer_limit wanted a b e) → TextStopsAs n (λ r. in_answer (wanted r)) a b h.got (answer_error e)
  stopped_as n got (Missing line) h = inr (ap in_answer h.stops.0, h.stops.1)
  stopped_as n got (Surplus line) h = inl (λ more rest. ap in_answer (h.stops more rest))
  stopped_as n got LineTooLong h = λ more rest. ap in_answer (h.stops more rest)
  stopped_as n got SourceFailed h =
      open_as answer_limit wanted LineTooLong (λ r. in_answer (wanted r)) TooLong (λ r is. ap in_answer is) a.lines h.got h.stops

  -- the cause of an error of the lines, as of one of an answer
  stopped_blames : (e : LineError) → LineBlames a b e → TextBlamesAs a b (answer_error e)
  stopped_blames (Missing line) h = h
  stopped_blames (Surplus line) h = h
  stopped_blames LineTooLong h = h
  stopped_blames SourceFailed h = h

-- no line was read
pub line_stopped : {n : Bool} (a b : Stream) (e : LineError) → IsLineStopped answer_limit next_line a b e → ReadWith {T = List ℕ} n answer_line a b (Err (answer_error e))
line_stopped {n = n} a b e h = record {
  got = h.got;
  consumes = h.consumes;
  needed = line_needed next_line a.lines h.got h.needed;
  reads = stopped_as next_line a b n h.got e h;
  count = tt;
  counts = stopped_blames next_line a b e h.blames;
}

-- ---- a line of a form
-- a line that is too long to be kept is of no form
kept_form : {T : Type 0} (form : List ℕ → Option T) → form [] ≡ None → ((line : List ℕ) → 4096 ≤ length line → form line ≡ None)
    → (line kept : List ℕ) → IsKept kept line → form line ≡ form kept
kept_form form none long line kept (inl same) = ap form (sym same)
kept_form form none long line kept (inr lost) = long line lost.1 ∙ (sym none ∙ ap form (sym lost.0))

-- a line is of the form or not, without reading on
formed_here : {T : Type 0} {n : Bool} (form : List ℕ → Option T) (line : List ℕ) (b : Stream) (at : ℕ) (value : Option T) → form line ≡ value → at ≡ b.lines.line
    → ReadWith n (λ r. or_form (form line) r) b b (ok_or value (Form at))
formed_here form line b at (Some v) is same = read_none (λ r. or_form (form line) r) b v (λ more rest. ap (λ o. or_form o (coming_in more answer_limit b.lines rest)) is)
formed_here form line b at None is same = record {
  got = [];
  consumes = Consumes-none b.left;
  needed = inl refl;
  reads = inl (λ more rest. ap (λ o. or_form o (coming_in more answer_limit b.lines rest)) is ∙ ap (λ k. Err (Form k)) (sym same));
  count = tt;
  counts = calm-none b;
}

-- what is said of the line that was kept is said of the line that was read
pub formed_read : {T : Type 0} {n : Bool} (form : List ℕ → Option T) → form [] ≡ None → ((line : List ℕ) → 4096 ≤ length line → form line ≡ None)
    → (a b : Stream) (done : ⊤) (text : List ℕ) (value : Option T) (at : ℕ) (result : Result T AnswerError)
    → LineRead answer_limit a b (Ok done) → result ≡ ok_or value (Form at) → value ≡ form text → text ≡ b.lines.kept → at ≡ b.lines.line → ReadWith n (formed form) a b result
formed_read {n = n} form none long a b done text value at result h is of_text same_text same_line =
    let one : form h.0 ≡ value = kept_form form none long h.0 b.lines.kept h.2 ∙ (ap form (sym same_text) ∙ sym of_text) in
    rw is (read_then answer_line (λ line r. or_form (form line) r) {m = n} {n = n} a b b h.0 (ok_or value (Form at)) (line_read a b h.0 h.1) (formed_here form h.0 b at value one same_line))

-- no line was read
pub formed_stopped : {T : Type 0} {n : Bool} (form : List ℕ → Option T) (a b : Stream) (e : LineError) (result : Result T AnswerError)
    → LineRead answer_limit a b (Err e) → IsErrAnd result (λ x. x ≡ answer_error e) → ReadWith n (formed form) a b result
formed_stopped form a b e result h is = read_stop answer_line (λ line r. or_form (form line) r) a b (answer_error e) result is (line_stopped a b e h)

-- ---- what public calls say
-- what a call reads of bytes that are told
told_read : {T : Type 0} (n : Bool) (wanted : Coming → Result (T × Coming) AnswerError) (s t : LinesState) (x y : ℕ) (i j : Bool) (l k : Option (List ℕ)) (result : Result T AnswerError)
    → ReadWith n wanted (record { lines = s; left = l; faults = x; is_strict = i }) (record { lines = t; left = k; faults = y; is_strict = j }) result
    → IfSome (option_map (coming_in false answer_limit s) l) (λ before. ReadsTo (wanted before) (option_map (coming_in false answer_limit t) k) result)
told_read n wanted s t x y i j None k result h = tt
told_read n wanted s t x y i j (Some l) None result h = absurd h.consumes
told_read n wanted s t x y i j (Some l) (Some k) (Ok v) h =
    (coming_in false answer_limit t k, ap (λ m. wanted (coming_in false answer_limit s m)) h.consumes ∙ h.reads false k, refl)
told_read n wanted s t x y i j (Some l) (Some k) (Err e) h = by_error e h.reads
  where
    by_error : (e : AnswerError) → TextStopsAs n wanted (record { lines = s; left = Some l; faults = x; is_strict = i }) (record { lines = t; left = Some k; faults = y; is_strict = j }) h.got e → FailsAs (wanted (coming_in false answer_limit s l)) e
    by_error (Form line) (inl settles) = ap (λ m. wanted (coming_in false answer_limit s m)) h.consumes ∙ settles false k
    by_error (Form line) (inr ended) =
        let none : k ≡ [] = cc in
        ap (λ m. wanted (coming_in false answer_limit s m)) (h.consumes ∙ (ap (λ m. h.got ++ m) none ∙ append-nil h.got)) ∙ ended.0
    by_error BadInstance settles = ap (λ m. wanted (coming_in false answer_limit s m)) h.consumes ∙ settles false k
    by_error TooLong settles = ap (λ m. wanted (coming_in false answer_limit s m)) h.consumes ∙ settles false k
    by_error ReadFault open_ = tt
    by_error NoMemory takes = tt

-- what a call reads, where the source tells its bytes
pub reads_to : {T : Type 0} {n : Bool} (wanted : Coming → Result (T × Coming) AnswerError) (a b : Stream) (result : Result T AnswerError) → ReadWith n wanted a b result
    → IfSome (option_map (coming_in false answer_limit a.lines) a.left) (λ before. ReadsTo (wanted before) (option_map (coming_in false answer_limit b.lines) b.left) result)
reads_to {n = n} wanted a b result h = told_read n wanted a.lines b.lines a.faults b.faults a.is_strict b.is_strict a.left b.left result h

-- a call that takes no memory wants none
pub takes_none : {T : Type 0} (wanted : Coming → Result (T × Coming) AnswerError) (a b : Stream) (result : Result T AnswerError) → ReadWith false wanted a b result → TakesNone result
takes_none wanted a b (Ok v) h = tt
takes_none wanted a b (Err (Form line)) h = tt
takes_none wanted a b (Err BadInstance) h = tt
takes_none wanted a b (Err TooLong) h = tt
takes_none wanted a b (Err ReadFault) h = tt
takes_none wanted a b (Err NoMemory) h = absurd (let no : false ≡ true = h.reads in cc)

-- ---- the end
-- the end was read
pub end_read : (a b : Stream) (done : ⊤) → LinesEndRead answer_limit a b (Ok done) → EndRead a b (Ok tt)
end_read a b done h = h

-- no end was read
pub end_stopped : (a b : Stream) (e : LineError) (result : Result ⊤ AnswerError) → LinesEndRead answer_limit a b (Err e) → IsErrAnd result (λ x. x ≡ answer_error e) → EndRead a b result
end_stopped a b e (Ok done) h is = absurd is
end_stopped a b e (Err x) h is =
    subst (λ (y : AnswerError). let r : Result ⊤ AnswerError = Err y in EndRead a b r) (sym is) (record {
      got = h.got;
      consumes = h.consumes;
      needed = line_needed input_end a.lines h.got h.needed;
      stops = stopped_as input_end a b false h.got e h;
      counts = stopped_blames input_end a b e h.blames;
    })

-- what a call reads of the end of bytes that are told
told_end : (s t : LinesState) (x y : ℕ) (i j : Bool) (l k : Option (List ℕ)) (result : Result ⊤ AnswerError) → EndRead (record { lines = s; left = l; faults = x; is_strict = i }) (record { lines = t; left = k; faults = y; is_strict = j }) result
    → IfSome (option_map (coming_in false answer_limit s) l) (λ before. EndsAs (end_of before) k result)
told_end s t x y i j None k result h = tt
told_end s t x y i j (Some l) None (Ok done) h = absurd h.consumes
told_end s t x y i j (Some l) None (Err e) h = absurd h.consumes
told_end s t x y i j (Some l) (Some k) (Ok done) h =
    let none : k ≡ [] = let e = h.left in cc in
    (ap (λ m. end_of (coming_in false answer_limit s m)) (h.consumes ∙ none) ∙ ap in_answer h.ends, h.left)
told_end s t x y i j (Some l) (Some k) (Err e) h = by_error e h.stops
  where
    by_error : (e : AnswerError) → TextStopsAs false end_of (record { lines = s; left = Some l; faults = x; is_strict = i }) (record { lines = t; left = Some k; faults = y; is_strict = j }) h.got e → FailsAs (end_of (coming_in false answer_limit s l)) e
    by_error (Form line) (inl settles) = ap (λ m. end_of (coming_in false answer_limit s m)) h.consumes ∙ settles false k
    by_error (Form line) (inr ended) =
        let none : k ≡ [] = cc in
        ap (λ m. end_of (coming_in false answer_limit s m)) (h.consumes ∙ (ap (λ m. h.got ++ m) none ∙ append-nil h.got)) ∙ ended.0
    by_error BadInstance settles = ap (λ m. end_of (coming_in false answer_limit s m)) h.consumes ∙ settles false k
    by_error TooLong settles = ap (λ m. end_of (coming_in false answer_limit s m)) h.consumes ∙ settles false k
    by_error ReadFault open_ = tt
    by_error NoMemory takes = tt

-- the end that is read, where the source tells its bytes
pub ends_as : (a b : Stream) (result : Result ⊤ AnswerError) → EndRead a b result → IfSome (option_map (coming_in false answer_limit a.lines) a.left) (λ before. EndsAs (end_of before) b.left result)
ends_as a b result h = told_end a.lines b.lines a.faults b.faults a.is_strict b.is_strict a.left b.left result h

pub end_takes_none : (a b : Stream) (result : Result ⊤ AnswerError) → EndRead a b result → TakesNone result
end_takes_none a b (Ok done) h = tt
end_takes_none a b (Err (Form line)) h = tt
end_takes_none a b (Err BadInstance) h = tt
end_takes_none a b (Err TooLong) h = tt
end_takes_none a b (Err ReadFault) h = tt
end_takes_none a b (Err NoMemory) h = absurd (let no : false ≡ true = h.stops in cc)

pub end_blames : (a b : Stream) (result : Result ⊤ AnswerError) → EndRead a b result → Blames a.faults b.faults result
end_blames a b (Ok done) h = record { later = h.calm.later; failed = λ is. absurd (cc) }
end_blames a b (Err e) h = blames_of a b (Err e) h.counts

-- after the end it doesn't count what the lines hold
pub end_lines : (a b : Stream) (lines : LinesState) (result : Result ⊤ AnswerError) → EndRead a b result → EndRead a (record b { lines = lines }) result
end_lines a b lines (Ok done) h = record { ends = h.ends; consumes = h.consumes; left = h.left; calm = calm_lines a b lines h.calm }
end_lines a b lines (Err e) h = record { got = h.got; consumes = h.consumes; needed = h.needed; stops = stops_lines false end_of a b lines h.got e h.stops; counts = blames_lines a b lines e h.counts }
