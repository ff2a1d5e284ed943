-- What is still to come after a front of a line, and what calls know that read a line piece by piece.
use Rattle.std.proofs.Common.{◌≡◌, ℕ, suc, zero, ◌+◌, ◌-◌, ◌≤◌, ◌<◌, eqb, Bool, true, false, cond, not, List, [], ◌∷◌, ◌++◌, length, take, drop, refl, sym, ap, subst, ◌∙◌, ◌⊎◌, inl, inr, arith, append_assoc, append-nil, Option, Some, None, IfSome, Result, Ok, Err}
use Rattle.std.specs.Prelude.{◌==◌, ◌||◌, nat_lt, IfOk, OnOk, OnErr, IsTrue, ⊤}
use Rattle.std.specs.Result.{IsErrAnd}
use Rattle.std.specs.List.{list_all}
use Rattle.std.specs.Io.KnownBytes.{Consumes, Keeps}
use Rattle.std.proofs.lemmas.Bool.{and_parts}
use Rattle.std.proofs.lemmas.List.{length-take, length-drop, length-append, take-append-drop}
use Rattle.port_io.specs.Faults.{Rose, HasCause}
use Rattle.port_io.specs.declared.ports.Failed.{Failed}
use Rattle.port_io.proofs.SourceLemmas.{Consumes-then}
use Rattle.line_stream.specs.declared.lines.LineError.{LineError}
use Rattle.line_stream.specs.declared.lines.LineError.TheVariants.{Missing, Surplus, TooLong, Failed as SourceFailed}
use Rattle.line_stream.specs.Feeds.{is_no_feed}
use Rattle.line_stream.specs.Input.{Input, input_of, input_from, onto_lines, with_more}
use Rattle.line_stream.specs.Coming.{Coming, next_line, input_end}
use Rattle.line_stream.specs.Stream.{LinesState, Stream, IsCalm, taken, AreTaken, coming_in, Settles, LeavesOpen, IsLastPiece, IsNeeded, EndsHere}
use Rattle.line_stream.specs.LineReading.{LineBlames, LineStopsAs, after_front, Filled, FrontRead, InLine, IsLine, IsLineStopped, PieceRead, RestRead, LineRead, surplus_of, IsEnd}

-- ---- a front of a line
-- nothing before a line leaves it as it is
pub after_front-nil : (x : Result (List ℕ × Coming) LineError) → after_front [] x ≡ x
after_front-nil (Ok read) = refl
after_front-nil (Err error) = refl

-- fronts one after another
pub after_front-append : (a b : List ℕ) (x : Result (List ℕ × Coming) LineError) → after_front a (after_front b x) ≡ after_front (a ++ b) x
after_front-append a b (Ok read) = ap (λ l. Ok (l, read.1)) (sym (append_assoc a b read.0))
after_front-append a b (Err error) = refl

-- the next line of an input of which this many bytes may be read
abbrev line_in : Bool → ℕ → List ℕ → ℕ → Result (List ℕ × Coming) LineError
line_in more limit bytes n = next_line (record { input = with_more more (input_of limit bytes); line = n })

-- a byte that is no line feed goes to the front of the next line
onto_next : (b : ℕ) (lines : List (List ℕ)) (partial : List ℕ) (goes_on : Bool) (n : ℕ)
    → (let i : Input = record { lines = lines; partial = partial; goes_on = goes_on } in
    next_line (record { input = onto_lines b lines i; line = n }) ≡ after_front (b ∷ []) (next_line (record { input = i; line = n })))
onto_next b [] partial true n = refl
onto_next b [] partial false n = refl
onto_next b (l ∷ ls) partial goes_on n = refl

from_next : (b : ℕ) (i : Input) (n : ℕ) → is_no_feed b ≡ true → next_line (record { input = input_from b i; line = n }) ≡ after_front (b ∷ []) (next_line (record { input = i; line = n }))
from_next b i n h = by_test (eqb b 10) h
  where
    by_test : (t : Bool) → not t ≡ true → next_line (record { input = cond t (record i { lines = [] ∷ i.lines }) (onto_lines b i.lines i); line = n }) ≡ after_front (b ∷ []) (next_line (record { input = i; line = n }))
    by_test true h = cc
    by_test false h = onto_next b i.lines i.partial i.goes_on n

onto_more : (more : Bool) (b : ℕ) (lines : List (List ℕ)) (i : Input) → with_more more (onto_lines b lines i) ≡ onto_lines b lines (with_more more i)
onto_more more b [] i = refl
onto_more more b (line ∷ lines) i = refl

from_more : (more : Bool) (b : ℕ) (i : Input) → with_more more (input_from b i) ≡ input_from b (with_more more i)
from_more more b i = by_test (eqb b 10)
  where
    by_test : (t : Bool) → with_more more (cond t (record i { lines = [] ∷ i.lines }) (onto_lines b i.lines i)) ≡ cond t (record (with_more more i) { lines = [] ∷ i.lines }) (onto_lines b i.lines (with_more more i))
    by_test true = refl
    by_test false = onto_more more b i.lines i

-- the next line after a front of it
input_front : (more : Bool) (front rest : List ℕ) (limit n : ℕ) → list_all is_no_feed front ≡ true → length front ≤ limit
    → line_in more limit (front ++ rest) n ≡ after_front front (line_in more (limit - length front) rest n)
unfolding input_of
input_front more [] rest limit n h le =
    let same : limit - 0 ≡ limit = omega arith in
    rw same (sym (after_front-nil (line_in more limit rest n)))
input_front more (b ∷ bs) rest zero n h le = let no : ⊥ = omega arith in absurd no
input_front more (b ∷ bs) rest (suc limit) n h le =
    let same : suc limit - suc (length bs) ≡ limit - length bs = omega arith in
    let parts = and_parts _ _ h in
    ap (λ (i : Input). next_line (record { input = i; line = n })) (from_more more b (input_of limit (bs ++ rest)))
    ∙ (from_next b (with_more more (input_of limit (bs ++ rest))) n parts.0
    ∙ (ap (after_front (b ∷ [])) (input_front more bs rest limit n parts.1 (omega arith))
    ∙ (after_front-append (b ∷ []) bs (line_in more (limit - length bs) rest n)
    ∙ ap (λ k. after_front (b ∷ bs) (line_in more k rest n)) (sym same))))

-- the next line where a line feed comes
input_feed : (more : Bool) (rest : List ℕ) (limit n : ℕ) → 0 < limit
    → line_in more limit (10 ∷ rest) n ≡ Ok ([], record { input = with_more more (input_of (limit - 1) rest); line = n + 1 })
unfolding input_of
input_feed more rest zero n lt = let no : ⊥ = omega arith in absurd no
input_feed more rest (suc limit) n lt =
    let same : limit ≡ suc limit - 1 = omega arith in
    ap (λ k. Ok ([], record { input = with_more more (input_of k rest); line = n + 1 })) same

front_goes : (more : Bool) (limit read line : ℕ) (ahead front now rest : List ℕ) → list_all is_no_feed front ≡ true → read + length front ≤ limit → ahead ≡ front ++ now
    → line_in more (limit - read) (ahead ++ rest) line ≡ after_front front (line_in more (limit - (read + length front)) (now ++ rest) line)
front_goes more limit read line ahead front now rest h le is =
    let same : limit - read - length front ≡ limit - (read + length front) = omega arith in
    rw (is, append_assoc front now rest, ← same) (input_front more front (now ++ rest) (limit - read) line h (omega arith))

feed_comes : (more : Bool) (limit read line : ℕ) (ahead front now rest : List ℕ) → list_all is_no_feed front ≡ true → read + (length front + 1) ≤ limit → ahead ≡ front ++ 10 ∷ now
    → line_in more (limit - read) (ahead ++ rest) line ≡ Ok (front, record { input = with_more more (input_of (limit - (read + (length front + 1))) (now ++ rest)); line = line + 1 })
feed_comes more limit read line ahead front now rest h le is =
    let same : limit - (read + length front) - 1 ≡ limit - (read + (length front + 1)) = omega arith in
    front_goes more limit read line ahead front (10 ∷ now) rest h (omega arith) is
    ∙ (ap (after_front front) (input_feed more (now ++ rest) (limit - (read + length front)) line (omega arith)
    ∙ ap (λ k. Ok ([], record { input = with_more more (input_of k (now ++ rest)); line = line + 1 })) same)
    ∙ ap (λ l. Ok (l, record { input = with_more more (input_of (limit - (read + (length front + 1))) (now ++ rest)); line = line + 1 })) (append-nil front))

-- a front of what is held was kept
pub front_read : (limit n : ℕ) (before after : LinesState) (feed : Bool)
    → after.kept ≡ before.kept ++ take n before.ahead → list_all is_no_feed (take n before.ahead) ≡ true
    → drop n before.ahead ≡ cond feed (10 ∷ after.ahead) after.ahead
    → n + cond feed 1 0 ≤ limit - before.read → before.read ≤ limit → n ≤ length before.ahead
    → (feed ≡ false → 0 < length before.ahead → 0 < limit - before.read → length before.kept < 4096 → 0 < n) → length after.kept ≤ 4096
    → after.read ≡ before.read + (n + cond feed 1 0) → after.line ≡ before.line + cond feed 1 0
    → FrontRead limit before after feed
front_read limit n before after feed keeps clean rest most first within some few read line =
    record {
      front = take n before.ahead;
      keeps = keeps;
      reads = λ more bytes. by_test more bytes feed rest most read line;
      some = λ e f g h. rw long (some e f (omega arith) h);
      few = few;
      count = rw long (sym read);
      within = rw read (omega arith);
      held = held feed rest read;
    }
  where
    long : length (take n before.ahead) ≡ n
    long = let e = length-take n before.ahead in omega arith

    held : (feed : Bool) → drop n before.ahead ≡ cond feed (10 ∷ after.ahead) after.ahead → after.read ≡ before.read + (n + cond feed 1 0) → taken after ≡ taken before
    held true rest read = omega (arith, ap length rest, length-drop n before.ahead, within, read)
    held false rest read = omega (arith, ap length rest, length-drop n before.ahead, within, read)

    by_test : (more : Bool) (bytes : List ℕ) (feed : Bool) → drop n before.ahead ≡ cond feed (10 ∷ after.ahead) after.ahead → n + cond feed 1 0 ≤ limit - before.read
        → after.read ≡ before.read + (n + cond feed 1 0) → after.line ≡ before.line + cond feed 1 0
        → next_line (coming_in more limit before bytes)
        ≡ cond feed (Ok (take n before.ahead, coming_in more limit after bytes)) (after_front (take n before.ahead) (next_line (coming_in more limit after bytes)))
    by_test more bytes true rest most read line =
        let e = long in
        let is : before.ahead ≡ take n before.ahead ++ 10 ∷ after.ahead = sym (take-append-drop n before.ahead) ∙ ap (λ xs. take n before.ahead ++ xs) rest in
        let at : before.read + (length (take n before.ahead) + 1) ≡ after.read = omega arith in
        feed_comes more limit before.read before.line before.ahead (take n before.ahead) after.ahead bytes clean (omega arith) is
        ∙ (ap (λ k. Ok (take n before.ahead, record { input = with_more more (input_of (limit - k) (after.ahead ++ bytes)); line = before.line + 1 })) at
        ∙ ap (λ k. Ok (take n before.ahead, record { input = with_more more (input_of (limit - after.read) (after.ahead ++ bytes)); line = k })) (sym line))
    by_test more bytes false rest most read line =
        let e = long in
        let is : before.ahead ≡ take n before.ahead ++ after.ahead = sym (take-append-drop n before.ahead) ∙ ap (λ xs. take n before.ahead ++ xs) rest in
        let at : before.read + length (take n before.ahead) ≡ after.read = omega arith in
        let same : before.line ≡ after.line = omega arith in
        front_goes more limit before.read before.line before.ahead (take n before.ahead) after.ahead bytes clean (omega arith) is
        ∙ (ap (λ k. after_front (take n before.ahead) (line_in more (limit - k) (after.ahead ++ bytes) before.line)) at
        ∙ ap (λ k. after_front (take n before.ahead) (line_in more (limit - after.read) (after.ahead ++ bytes) k)) same)

-- ---- what a source gave
-- of a source from which nothing was read, nothing was consumed
pub Consumes-none : (left : Option (List ℕ)) → Consumes left left []
Consumes-none None = tt
Consumes-none (Some bytes) = refl

-- a source that ends after more was read of it ends
pub ended-then : (a b c : Option (List ℕ)) (got : List ℕ) → Consumes a b got → EndsHere b c → EndsHere a c
ended-then None b c got gave ends = tt
ended-then (Some a) None c got gave ends = absurd gave
ended-then (Some a) (Some b) c got gave ends = ends

-- a count that rose later rose in all
pub rose-then : (a b c : ℕ) → a ≤ b → Rose b c → Rose a c
rose-then a b c le rose other = let lt : b < c = rose other in omega arith

-- where nothing was read, no call failed
pub calm-none : (a : Stream) → IsCalm a a
calm-none a = record { later = omega arith; same = refl; quiet = λ strict. refl }

-- no call failed in two calls one after another
pub calm-then : (a b c : Stream) → IsCalm a b → IsCalm b c → IsCalm a c
calm-then a b c h k = record {
  later = omega (arith, h.later, k.later);
  same = k.same ∙ h.same;
  quiet = λ strict. k.quiet (subst IsTrue (sym h.same) strict) ∙ h.quiet strict;
}

blames-then : (a b c : Stream) (error : LineError) → IsCalm a b → LineBlames b c error → LineBlames a c error
blames-then a b c (Missing line) h blames = calm-then a b c h blames
blames-then a b c (Surplus line) h blames = calm-then a b c h blames
blames-then a b c TooLong h blames = calm-then a b c h blames
blames-then a b c SourceFailed h blames = (omega (arith, h.later, blames.0), rose-then a.faults b.faults c.faults h.later blames.1)

-- no more was read, or a piece after what was read
pub needed-kept : {T E : Type 0} (limit : ℕ) (wanted : Coming → Result T E) (error : E) (s : LinesState) (got more : List ℕ) → more ≡ [] → IsNeeded limit wanted error s got → IsNeeded limit wanted error s (got ++ more)
needed-kept limit wanted error s got more none needed =
    subst (IsNeeded limit wanted error s) (sym (ap (λ m. got ++ m) none ∙ append-nil got)) needed

-- what is open after these bytes, of something else that was wanted
pub open_as : {T E U F : Type 0} (limit : ℕ) (wanted : Coming → Result T E) (open_ : E) (other : Coming → Result U F) (error : F)
    → ((r : Coming) → wanted r ≡ Err open_ → other r ≡ Err error) → (s : LinesState) (got : List ℕ) → LeavesOpen limit wanted open_ s got → LeavesOpen limit other error s got
open_as limit wanted open_ other error also s got h = record { undecided = also _ h.undecided; within = h.within }

pub needed_as : {T E U F : Type 0} (limit : ℕ) (wanted : Coming → Result T E) (open_ : E) (other : Coming → Result U F) (error : F)
    → ((r : Coming) → wanted r ≡ Err open_ → other r ≡ Err error) → (s : LinesState) (got : List ℕ) → IsNeeded limit wanted open_ s got → IsNeeded limit other error s got
needed_as limit wanted open_ other error also s got (inl none) = inl none
needed_as limit wanted open_ other error also s got (inr last) =
    inr (record { front = last.front; piece = last.piece; parts = last.parts; few = last.few; before = open_as limit wanted open_ other error also s last.front last.before })

-- what is open after more bytes, of something that was wanted before the first of them
pub open_after : {T E U F : Type 0} (limit : ℕ) (wanted : Coming → Result U F) (error : F) (later : Coming → Result T E) (open_ : E) (a b : LinesState) (got more : List ℕ) → AreTaken a b got
    → (later (coming_in true limit b more) ≡ Err open_ → wanted (coming_in true limit a (got ++ more)) ≡ Err error) → LeavesOpen limit later open_ b more → LeavesOpen limit wanted error a (got ++ more)
open_after limit wanted error later open_ a b got more count also h =
    record { undecided = also h.undecided; within = omega (arith, count, h.within, length-append got more) }

pub needed-last : {T E U F : Type 0} (limit : ℕ) (wanted : Coming → Result U F) (error : F) (later : Coming → Result T E) (open_ : E) (a b : LinesState) (got more : List ℕ) → AreTaken a b got
    → ((front : List ℕ) → later (coming_in true limit b front) ≡ Err open_ → wanted (coming_in true limit a (got ++ front)) ≡ Err error) → IsLastPiece limit later open_ b more → IsNeeded limit wanted error a (got ++ more)
needed-last limit wanted error later open_ a b got more count also last =
    inr (record {
      front = got ++ last.front;
      piece = last.piece;
      parts = ap (λ m. got ++ m) last.parts ∙ sym (append_assoc got last.front last.piece);
      few = last.few;
      before = open_after limit wanted error later open_ a b got last.front count (also last.front) last.before;
    })

-- ---- a line that is read piece by piece
module _ (limit : ℕ) where
  nothing_read : (a b : Stream) → b.lines ≡ record a.lines { kept = [] } → b.left ≡ a.left → b.faults ≡ a.faults → b.is_strict ≡ a.is_strict → InLine limit a b []
  nothing_read a b lines left faults strict = record {
    got = [];
    consumes = rw left (Consumes-none a.left);
    needed = inl refl;
    reads = λ more rest. sym (after_front-nil (next_line (coming_in more limit a.lines rest))) ∙ ap (λ (s : LinesState). after_front [] (next_line (coming_in more limit s rest))) (sym lines);
    count = subst (λ (t : LinesState). AreTaken a.lines t []) (sym lines) (omega arith);
    calm = record { later = rw faults (omega arith); same = strict; quiet = λ _. faults };
  }

  -- of a line that begins nothing was read
  pub in_line-none : (a : Stream) → InLine limit a a []
  in_line-none a = record {
    got = [];
    consumes = Consumes-none a.left;
    needed = inl refl;
    reads = λ more rest. sym (after_front-nil (next_line (coming_in more limit a.lines rest)));
    count = omega arith;
    calm = calm-none a;
  }

  -- nothing of the line was read yet
  pub in_line-start : (a b : Stream) → b.lines ≡ record a.lines { kept = [] } → b.left ≡ a.left → b.faults ≡ a.faults → b.is_strict ≡ a.is_strict → InLine limit a b b.lines.kept
  in_line-start a b lines left faults strict = subst (InLine limit a b) (sym (ap (λ (s : LinesState). s.kept) lines)) (nothing_read a b lines left faults strict)

  -- what a piece leaves open, what was wanted before it leaves open
  in_line-open : (a b : Stream) (x got : List ℕ) (h : InLine limit a b x) → IsNeeded limit next_line TooLong b.lines got → IsNeeded limit next_line TooLong a.lines (h.got ++ got)
  in_line-open a b x got h (inl none) = needed-kept limit next_line TooLong a.lines h.got got none h.needed
  in_line-open a b x got h (inr last) =
      needed-last limit next_line TooLong next_line TooLong a.lines b.lines h.got got h.count (λ front is. h.reads true front ∙ ap (after_front x) is) last

  -- two fronts of a line, one after the other
  pub in_line-then : (a b c : Stream) (x y : List ℕ) → InLine limit a b x → InLine limit b c y → InLine limit a c (x ++ y)
  in_line-then a b c x y h k = record {
    got = h.got ++ k.got;
    consumes = Consumes-then a.left b.left c.left h.got k.got h.consumes k.consumes;
    needed = in_line-open a b x k.got h k.needed;
    reads = λ more rest. ap (λ l. next_line (coming_in more limit a.lines l)) (append_assoc h.got k.got rest)
        ∙ (h.reads more (k.got ++ rest) ∙ (ap (after_front x) (k.reads more rest) ∙ after_front-append x y (next_line (coming_in more limit c.lines rest))));
    count = omega (arith, h.count, k.count, length-append h.got k.got);
    calm = calm-then a b c h.calm k.calm;
  }

  -- a front of a line and the rest of it
  pub in_line-ends : (a b c : Stream) (x y : List ℕ) → InLine limit a b x → IsLine limit b c y → IsLine limit a c (x ++ y)
  in_line-ends a b c x y h k = record {
    got = h.got ++ k.got;
    consumes = Consumes-then a.left b.left c.left h.got k.got h.consumes k.consumes;
    needed = in_line-open a b x k.got h k.needed;
    reads = λ more rest. ap (λ l. next_line (coming_in more limit a.lines l)) (append_assoc h.got k.got rest)
        ∙ (h.reads more (k.got ++ rest) ∙ ap (after_front x) (k.reads more rest));
    count = omega (arith, h.count, k.count, length-append h.got k.got);
    calm = calm-then a b c h.calm k.calm;
  }

  in_line-settles : (a b : Stream) (x got : List ℕ) (error : LineError) (h : InLine limit a b x) → Settles limit next_line b.lines got (Err error) → Settles limit next_line a.lines (h.got ++ got) (Err error)
  in_line-settles a b x got error h settles more rest =
      ap (λ l. next_line (coming_in more limit a.lines l)) (append_assoc h.got got rest) ∙ (h.reads more (got ++ rest) ∙ ap (after_front x) (settles more rest))

  in_line-stops : (a b c : Stream) (x got : List ℕ) (error : LineError) (h : InLine limit a b x) → LineStopsAs limit next_line b c got error → LineStopsAs limit next_line a c (h.got ++ got) error
  in_line-stops a b c x got (Missing line) h stops =
      (h.reads false got ∙ ap (after_front x) stops.0, ended-then a.left b.left c.left h.got h.consumes stops.1)
  in_line-stops a b c x got (Surplus line) h stops = in_line-settles a b x got (Surplus line) h stops
  in_line-stops a b c x got TooLong h stops = in_line-settles a b x got TooLong h stops
  in_line-stops a b c x got SourceFailed h stops =
      open_after limit next_line TooLong next_line TooLong a.lines b.lines h.got got h.count (λ is. h.reads true got ∙ ap (after_front x) is) stops

  -- a front of a line was read, and then no line
  pub in_line-fails : (a b c : Stream) (x : List ℕ) (error : LineError) → InLine limit a b x → IsLineStopped limit next_line b c error → IsLineStopped limit next_line a c error
  in_line-fails a b c x error h k = record {
    got = h.got ++ k.got;
    consumes = Consumes-then a.left b.left c.left h.got k.got h.consumes k.consumes;
    needed = in_line-open a b x k.got h k.needed;
    stops = in_line-stops a b c x k.got error h k.stops;
    blames = blames-then a b c error h.calm k.blames;
  }

  -- ---- what was read ahead
  -- some bytes were held already
  pub filled_held : (a : Stream) → a.lines.read ≤ limit → 0 < length a.lines.ahead → Filled limit a a (Ok true)
  filled_held a within some = record {
    got = [];
    within = within;
    consumes = Consumes-none a.left;
    lines = ap (λ l. record a.lines { ahead = l }) (sym (append-nil a.lines.ahead));
    few = inl refl;
    fills = (some, calm-none a);
  }

  no_bytes : (bytes : List ℕ) → false ≡ nat_lt 0 (length bytes) → bytes ≡ []
  no_bytes [] e = refl
  no_bytes (b ∷ bytes) e = let no : ⊥ = grind arith in absurd no

  ends : (a b : Option (List ℕ)) (now : List ℕ) → now ≡ [] → Consumes a b now → IfSome a (λ left. left ≡ []) → EndsHere a b
  ends None b now none gave end = tt
  ends (Some a) None now none gave end = absurd gave
  ends (Some a) (Some b) now none gave end = ap Some (sym (rw none at gave) ∙ end)

  consumes_kept : (a b : Option (List ℕ)) → Keeps a b → Consumes a b []
  consumes_kept None b keeps = tt
  consumes_kept (Some a) None keeps = absurd keeps
  consumes_kept (Some a) (Some b) keeps = sym keeps

  -- bytes were read ahead, or the source ended or failed
  pub filled_now : (a b : Stream) (now : List ℕ) (result : Result Bool Failed) → a.lines.read ≤ limit → a.lines.ahead ≡ [] → b.lines ≡ record a.lines { ahead = now }
      → OnOk result (Consumes a.left b.left now) → IfOk result (λ some. some ≡ nat_lt 0 (length now)) → IfOk result (λ some. some ≡ false → IfSome a.left (λ left. left ≡ []))
      → length now ≤ 4096 → OnErr result (Keeps a.left b.left) → OnErr result (now ≡ []) → HasCause a.faults b.faults result → b.is_strict ≡ a.is_strict → (IsTrue a.is_strict → OnOk result (b.faults ≡ a.faults)) → Filled limit a b result
  filled_now a b now (Ok true) within empty lines gave some end few keeps none cause same quiet = record {
    got = now;
    within = within;
    consumes = gave;
    lines = lines ∙ ap (λ l. record a.lines { ahead = l ++ now }) (sym empty);
    few = inr (empty, few);
    fills = (rw lines (let is : true ≡ nat_lt 0 (length now) = some in grind arith), record { later = cause.later; same = same; quiet = quiet });
  }
  filled_now a b now (Ok false) within empty lines gave some end few keeps none cause same quiet = record {
    got = now;
    within = within;
    consumes = gave;
    lines = lines ∙ ap (λ l. record a.lines { ahead = l ++ now }) (sym empty);
    few = inl (no_bytes now some);
    fills = (empty, no_bytes now some, ends a.left b.left now (no_bytes now some) gave (end refl), record { later = cause.later; same = same; quiet = quiet });
  }
  filled_now a b now (Err failed) within empty lines gave some end few keeps none cause same quiet = record {
    got = [];
    within = within;
    consumes = consumes_kept a.left b.left keeps;
    lines = lines ∙ ap (λ l. record a.lines { ahead = l }) (none ∙ sym (append-nil []) ∙ ap (λ l. l ++ []) (sym empty));
    few = inl refl;
    fills = (empty, refl, cause.later, cause.failed);
  }

  -- what is still to come is the same, wherever it lies
  coming_filled : (b c : Stream) (result : Result Bool Failed) (f : Filled limit b c result) (more : Bool) (rest : List ℕ) → coming_in more limit b.lines (f.got ++ rest) ≡ coming_in more limit c.lines rest
  coming_filled b c result f more rest =
      ap (λ l. record { input = with_more more (input_of (limit - b.lines.read) l); line = b.lines.line }) (sym (append_assoc b.lines.ahead f.got rest))
      ∙ ap (λ (s : LinesState). coming_in more limit s rest) (sym f.lines)

  -- where nothing is held, what comes is open
  open_line : (more : Bool) (s : LinesState) (bytes : List ℕ) → s.ahead ≡ [] → bytes ≡ [] → next_line (coming_in more limit s bytes) ≡ Err (cond more TooLong (Missing (s.line + 1)))
  unfolding input_of
  open_line true s bytes none is = rw (none, is) refl
  open_line false s bytes none is = rw (none, is) refl

  open_end : (more : Bool) (s : LinesState) (bytes : List ℕ) → s.ahead ≡ [] → bytes ≡ [] → input_end (coming_in more limit s bytes) ≡ cond more (Err TooLong) (Ok tt)
  unfolding input_of
  open_end true s bytes none is = rw (none, is) refl
  open_end false s bytes none is = rw (none, is) refl

  -- what is open there
  taken_none : (s : LinesState) (bytes : List ℕ) → s.ahead ≡ [] → bytes ≡ [] → s.read ≤ limit → taken s + length bytes ≤ limit
  taken_none s bytes none is within = omega (arith, ap length none, ap length is, within)

  line_is_open : (s : LinesState) (bytes : List ℕ) → s.ahead ≡ [] → bytes ≡ [] → s.read ≤ limit → LeavesOpen limit next_line TooLong s bytes
  line_is_open s bytes none is within = record { undecided = open_line true s bytes none is; within = taken_none s bytes none is within }

  end_is_open : (s : LinesState) (bytes : List ℕ) → s.ahead ≡ [] → bytes ≡ [] → s.read ≤ limit → LeavesOpen limit input_end TooLong s bytes
  end_is_open s bytes none is within = record { undecided = open_end true s bytes none is; within = taken_none s bytes none is within }

  -- so many bytes more are held
  filled_count : (b c : Stream) (result : Result Bool Failed) (f : Filled limit b c result) → AreTaken b.lines c.lines f.got
  filled_count b c result f =
      subst (λ (t : LinesState). AreTaken b.lines t f.got) (sym f.lines) (omega (arith, length-append b.lines.ahead f.got))

  filled_line : (b c : Stream) (result : Result Bool Failed) (f : Filled limit b c result) → IsNeeded limit next_line TooLong b.lines f.got
  filled_line b c result f = by_few f.few
    where
      by_few : (f.got ≡ []) ⊎ ((b.lines.ahead ≡ []) × (length f.got ≤ 4096)) → IsNeeded limit next_line TooLong b.lines f.got
      by_few (inl none) = inl none
      by_few (inr few) = inr (record { front = []; piece = f.got; parts = refl; few = few.1; before = line_is_open b.lines [] few.0 refl f.within })

  filled_end : (b c : Stream) (result : Result Bool Failed) (f : Filled limit b c result) → IsNeeded limit input_end TooLong b.lines f.got
  filled_end b c result f = by_few f.few
    where
      by_few : (f.got ≡ []) ⊎ ((b.lines.ahead ≡ []) × (length f.got ≤ 4096)) → IsNeeded limit input_end TooLong b.lines f.got
      by_few (inl none) = inl none
      by_few (inr few) = inr (record { front = []; piece = f.got; parts = refl; few = few.1; before = end_is_open b.lines [] few.0 refl f.within })

  -- some bytes are held now
  pub in_line-filled : (a b c : Stream) (x : List ℕ) → InLine limit a b x → Filled limit b c (Ok true) → InLine limit a c x
  in_line-filled a b c x h f = record {
    got = h.got ++ f.got;
    consumes = Consumes-then a.left b.left c.left h.got f.got h.consumes f.consumes;
    needed = in_line-open a b x f.got h (filled_line b c (Ok true) f);
    reads = λ more rest. ap (λ l. next_line (coming_in more limit a.lines l)) (append_assoc h.got f.got rest)
        ∙ (h.reads more (f.got ++ rest) ∙ ap (λ (r : Coming). after_front x (next_line r)) (coming_filled b c (Ok true) f more rest));
    count = (let more = filled_count b c (Ok true) f in omega (arith, h.count, more, length-append h.got f.got));
    calm = calm-then a b c h.calm f.fills.1;
  }

  -- the input ends within the line
  pub in_line-missing : (a b c : Stream) (x : List ℕ) (line : ℕ) → InLine limit a b x → Filled limit b c (Ok false) → line ≡ c.lines.line + 1 → IsLineStopped limit next_line a c (Missing line)
  in_line-missing a b c x line h f is =
      let same : line ≡ b.lines.line + 1 = is ∙ ap (λ (s : LinesState). s.line + 1) f.lines in
      in_line-fails a b c x (Missing line) h (record {
        got = f.got;
        consumes = f.consumes;
        needed = filled_line b c (Ok false) f;
        stops = (open_line false b.lines f.got f.fills.0 f.fills.1 ∙ ap (λ n. Err (Missing n)) (sym same), f.fills.2);
        blames = f.fills.3;
      })

  -- the source failed within the line
  pub in_line-failed : (a b c : Stream) (x : List ℕ) (failed : Failed) → InLine limit a b x → Filled limit b c (Err failed) → IsLineStopped limit next_line a c SourceFailed
  in_line-failed a b c x failed h f =
      in_line-fails a b c x SourceFailed h (record {
        got = f.got;
        consumes = f.consumes;
        needed = filled_line b c (Err failed) f;
        stops = line_is_open b.lines f.got f.fills.0 f.fills.1 f.within;
        blames = (f.fills.2, f.fills.3);
      })

  more_true : (more : Bool) → (more || true) ≡ true
  more_true true = refl
  more_true false = refl

  over_limit : (more : Bool) (left line b : ℕ) (bytes : List ℕ) → left ≡ 0 → line_in more left (b ∷ bytes) line ≡ Err TooLong
  unfolding input_of
  over_limit more left line b bytes e = rw (e, more_true more) refl

  past_limit : (s : LinesState) → 0 < length s.ahead → limit - s.read ≡ 0 → Settles limit next_line s [] (Err TooLong)
  past_limit s some none more rest = by_ahead s.ahead some
    where
      by_ahead : (ahead : List ℕ) → 0 < length ahead → line_in more (limit - s.read) (ahead ++ rest) s.line ≡ Err TooLong
      by_ahead [] some = let no : ⊥ = omega arith in absurd no
      by_ahead (b ∷ ahead) some = over_limit more (limit - s.read) s.line b (ahead ++ rest) none

  -- a byte comes that is past the limit
  pub in_line-over : (a b : Stream) (x : List ℕ) → InLine limit a b x → 0 < length b.lines.ahead → limit - b.lines.read ≡ 0 → IsLineStopped limit next_line a b TooLong
  in_line-over a b x h some none =
      in_line-fails a b b x TooLong h (record {
        got = [];
        consumes = Consumes-none b.left;
        needed = inl refl;
        stops = past_limit b.lines some none;
        blames = calm-none b;
      })

  -- a front of the line was kept, of what is held
  pub in_line-front : (a b : Stream) (after : LinesState) → InLine limit a b b.lines.kept → FrontRead limit b.lines after false → InLine limit a (record b { lines = after }) after.kept
  in_line-front a b after h f =
      subst (InLine limit a (record b { lines = after })) (sym f.keeps)
      (in_line-then a b (record b { lines = after }) b.lines.kept f.front h (record { got = []; consumes = Consumes-none b.left; needed = inl refl; reads = f.reads; count = omega (arith, f.held); calm = record { later = omega arith; same = refl; quiet = λ strict. refl } }))

  pub in_line-feed : (a b : Stream) (after : LinesState) → InLine limit a b b.lines.kept → FrontRead limit b.lines after true → IsLine limit a (record b { lines = after }) after.kept
  in_line-feed a b after h f =
      subst (IsLine limit a (record b { lines = after })) (sym f.keeps)
      (in_line-ends a b (record b { lines = after }) b.lines.kept f.front h (record { got = []; consumes = Consumes-none b.left; needed = inl refl; reads = f.reads; count = omega (arith, f.held); calm = record { later = omega arith; same = refl; quiet = λ strict. refl } }))

  -- what is kept stays where nothing but bytes ahead are read
  pub in_line-held : (a b c : Stream) → InLine limit a b b.lines.kept → Filled limit b c (Ok true) → InLine limit a c c.lines.kept
  in_line-held a b c h f =
      let same : c.lines.kept ≡ b.lines.kept = ap (λ (s : LinesState). s.kept) f.lines in
      subst (InLine limit a c) (sym same) (in_line-filled a b c b.lines.kept h f)

  -- ---- the rest of a line
  -- the rest of a line failed
  pub rest_fails : (a b c : Stream) (front : List ℕ) (error : LineError) (result : Result ⊤ LineError) → InLine limit a b front → PieceRead limit b c (Err error) → IsErrAnd result (λ e. e ≡ error) → RestRead limit a c result
  rest_fails a b c front error (Ok done) h piece is = absurd is
  rest_fails a b c front error (Err e) h piece is = rw is (in_line-fails a b c front error h piece)

  line_forgets : (a c : Stream) (line : List ℕ) → IsLine limit a c line → IsLine limit a (record c { lines = record c.lines { kept = [] } }) line
  line_forgets a c line h = record { got = h.got; consumes = h.consumes; needed = h.needed; reads = h.reads; count = h.count; calm = record { later = h.calm.later; same = h.calm.same; quiet = h.calm.quiet } }

  -- the rest of a line was read, and is forgotten
  pub rest_ends : (a b c : Stream) (now : LinesState) (front : List ℕ) → InLine limit a b front → PieceRead limit b c (Ok true) → now ≡ record c.lines { kept = [] }
      → (line : List ℕ) × IsLine limit a (record c { lines = now }) line × (now.kept ≡ [])
  rest_ends a b c now front h piece is =
      (front ++ c.lines.kept, subst (λ (s : LinesState). IsLine limit a (record c { lines = s }) (front ++ c.lines.kept)) (sym is) (line_forgets a c _ (in_line-ends a b c front c.lines.kept h piece)), ap (λ (s : LinesState). s.kept) is)

  -- ---- a line
  -- its front was kept, and the rest of it read
  pub long_line : (a b c : Stream) (result : Result ⊤ LineError) → PieceRead limit a b (Ok false) → length b.lines.kept ≡ 4096 → RestRead limit b c result → LineRead limit a c result
  long_line a b c (Ok done) piece long rest =
      let all = length-append b.lines.kept rest.0 in
      (b.lines.kept ++ rest.0, in_line-ends a b c b.lines.kept rest.0 piece rest.1, inr (rest.2, omega arith))
  long_line a b c (Err error) piece long rest = in_line-fails a b c b.lines.kept error piece rest

  -- ---- the end of the input
  pub end_read : (a b : Stream) → Filled limit a b (Ok false) → IsEnd limit a b
  end_read a b f = record {
    ends = open_end false a.lines [] f.fills.0 refl;
    consumes = subst (Consumes a.left b.left) f.fills.1 f.consumes;
    left = f.fills.2;
    calm = f.fills.3;
  }

  end_in : (more : Bool) (left line b : ℕ) (bytes : List ℕ) → input_end (record { input = with_more more (input_of left (b ∷ bytes)); line = line }) ≡ Err (cond (left == 0) TooLong (Surplus (line + 1)))
  unfolding input_of
  end_in more zero line b bytes = rw (more_true more) refl
  end_in more (suc left) line b bytes =
      let some : (suc left == 0) ≡ false = grind arith in
      rw some (by_test (eqb b 10) (input_of left bytes).lines (input_of left bytes).partial (input_of left bytes).goes_on)
    where
      by_test : (t : Bool) (lines : List (List ℕ)) (partial : List ℕ) (goes_on : Bool)
          → (let i : Input = record { lines = lines; partial = partial; goes_on = goes_on } in
          input_end (record { input = with_more more (cond t (record i { lines = [] ∷ lines }) (onto_lines b lines i)); line = line }) ≡ Err (Surplus (line + 1)))
      by_test true lines partial goes_on = refl
      by_test false [] partial goes_on = refl
      by_test false (l ∷ lines) partial goes_on = refl

  surplus_stops : (a b : Stream) (got : List ℕ) (t : Bool) (line : ℕ) → Settles limit input_end a.lines got (Err (cond t TooLong (Surplus line))) → LineStopsAs limit input_end a b got (cond t TooLong (Surplus line))
  surplus_stops a b got true line settles = settles
  surplus_stops a b got false line settles = settles

  surplus_blames : (a b : Stream) (t : Bool) (line : ℕ) → IsCalm a b → LineBlames a b (cond t TooLong (Surplus line))
  surplus_blames a b true line calm = calm
  surplus_blames a b false line calm = calm

  -- a byte comes after the end
  pub end_surplus : (a b : Stream) (error : LineError) → Filled limit a b (Ok true) → error ≡ surplus_of limit b.lines → IsLineStopped limit input_end a b error
  end_surplus a b error f is = rw is (record {
    got = f.got;
    consumes = f.consumes;
    needed = filled_end a b (Ok true) f;
    stops = surplus_stops a b f.got (limit - b.lines.read == 0) (b.lines.line + 1) (λ more rest. ap input_end (coming_filled a b (Ok true) f more rest) ∙ by_ahead more rest b.lines.ahead f.fills.0);
    blames = surplus_blames a b (limit - b.lines.read == 0) (b.lines.line + 1) f.fills.1;
  })
    where
      by_ahead : (more : Bool) (rest ahead : List ℕ) → 0 < length ahead
          → input_end (record { input = with_more more (input_of (limit - b.lines.read) (ahead ++ rest)); line = b.lines.line }) ≡ Err (surplus_of limit b.lines)
      by_ahead more rest [] some = let no : ⊥ = omega arith in absurd no
      by_ahead more rest (c ∷ ahead) some = end_in more (limit - b.lines.read) b.lines.line c (ahead ++ rest)

  -- the source failed where the input was to end
  pub end_failed : (a b : Stream) (failed : Failed) → Filled limit a b (Err failed) → IsLineStopped limit input_end a b SourceFailed
  end_failed a b failed f = record {
    got = f.got;
    consumes = f.consumes;
    needed = filled_end a b (Err failed) f;
    stops = end_is_open a.lines f.got f.fills.0 f.fills.1 f.within;
    blames = (f.fills.2, f.fills.3);
  }
