-- The lines of the instance.
use Rattle.std.proofs.Common.{◌≡◌, ℕ, suc, ◌+◌, Bool, true, false, cond, List, [], ◌∷◌, ◌++◌, length, refl, sym, ap, subst, ◌∙◌, inl, arith, append_assoc, append-nil, Option, Some, None, Result, Ok, Err, bytes_eq, codes, nat_le}
use Rattle.std.specs.Prelude.{⊤}
use Rattle.std.specs.Result.{IsErrAnd}
use Rattle.std.proofs.lemmas.List.{length-append}
use Rattle.siting_definitions.specs.Instance.{Instance}
use Rattle.instance_text.specs.Reading.{reading, and_then}
use Rattle.line_stream.specs.declared.lines.LineError.{LineError}
use Rattle.line_stream.specs.Input.{bytes_of}
use Rattle.line_stream.specs.Coming.{Coming, next_line}
use Rattle.line_stream.specs.Stream.{Stream, coming_in}
use Rattle.line_stream.specs.LineReading.{after_front, InLine, IsLine, PieceRead}
use Rattle.line_stream.proofs.LineLemmas.{Consumes-none, calm-none, in_line-none, in_line-then, in_line-ends, in_line-fails}
use Rattle.certificate.specs.declared.reader.AnswerError.{AnswerError}
use Rattle.certificate.specs.declared.reader.AnswerError.TheVariants.{Form, Instance as BadInstance, TooLong, ReadFault, NoMemory}
use Rattle.certificate.specs.HeadReading.{answer_limit, answer_error, in_answer, answer_line, missing, add_line, part_of, if_canonical, or_bad_instance, instance_in, instance_part}
use Rattle.certificate.specs.AnswerReading.{ReadInMemory}
use Rattle.certificate.specs.PartReading.{part_limit, kept_part, part_with, Grows, lines_in, part_reading, after_part, LineInPart, NoLine, RestRead, PartLineRead, PartRead, Canonical}
use Rattle.certificate.proofs.ReadLemmas.{same_error, IsThrough, through_then, through_error, through_value, through_no_memory, error_also, needed_also, read_also, read_then, read_stop, read_none, settled_here, memory_here, line_read, line_stopped, line_needed}
use Rattle.certificate.proofs.ShortLemmas.{not_word}

-- ---- what is kept
grows-none : (part : Option (List ℕ)) → Grows part part []
grows-none part before is = is ∙ ap kept_part (sym (append-nil before))

-- bytes that came after bytes
grows-then : (a b c : Option (List ℕ)) (x y : List ℕ) → Grows a b x → Grows b c y → Grows a c (x ++ y)
grows-then a b c x y f g before is = g (before ++ x) (f before is) ∙ ap kept_part (append_assoc before x y)

-- what is kept of bytes that come after others
kept_more : (before bytes : List ℕ) → part_with (kept_part before) bytes ≡ kept_part (before ++ bytes)
kept_more before bytes = by_test (nat_le (length before) part_limit) (nat_le (length (before ++ bytes)) part_limit) refl refl
  where
    by_test : (t u : Bool) → nat_le (length before) part_limit ≡ t → nat_le (length (before ++ bytes)) part_limit ≡ u → part_with (cond t (Some before) None) bytes ≡ cond u (Some (before ++ bytes)) None
    by_test true u e f = ap (λ t. cond t (Some (before ++ bytes)) None) f
    by_test false false e f = refl
    by_test false true e f =
        let long : length (before ++ bytes) ≡ length before + length bytes = length-append before bytes in
        let no : ⊥ = grind arith in
        absurd no

-- a part to which bytes were added
grows-add : (part now : Option (List ℕ)) (bytes : List ℕ) → now ≡ part_with part bytes → Grows part now bytes
grows-add part now bytes is before kept = is ∙ (ap (λ p. part_with p bytes) kept ∙ kept_more before bytes)

-- ---- a line that is read in pieces
-- a front of a line was read, and is kept
pub record InRest (before after : Stream) (part now : Option (List ℕ)) : Type 0 where
  pub front : List ℕ
  pub in_line : InLine answer_limit before after front
  pub grows : Grows part now front

-- nothing of the line was read yet
pub in_rest-start : (a : Stream) (part : Option (List ℕ)) → InRest a a part part
in_rest-start a part = record {
  front = [];
  in_line = in_line-none answer_limit a;
  grows = grows-none part;
}

-- a piece more of the line was read
pub in_rest-next : (a b c : Stream) (part now then : Option (List ℕ)) → InRest a b part now → PieceRead answer_limit b c (Ok false) → then ≡ part_with now c.lines.kept → InRest a c part then
in_rest-next a b c part now then h piece is = record {
  front = h.front ++ c.lines.kept;
  in_line = in_line-then answer_limit a b c h.front c.lines.kept h.in_line piece;
  grows = grows-then part now then h.front c.lines.kept h.grows (grows-add now then c.lines.kept is);
}

-- the last piece of the line was read, and its line feed is kept
pub in_rest-ends : (a b c : Stream) (part now then last : Option (List ℕ)) → InRest a b part now → PieceRead answer_limit b c (Ok true) → then ≡ part_with now c.lines.kept → last ≡ part_with then (10 ∷ [])
    → (line : List ℕ) × LineInPart a c part last line
in_rest-ends a b c part now then last h piece is feed = (
  h.front ++ c.lines.kept,
  record {
    reads = line_read a c (h.front ++ c.lines.kept) (in_line-ends answer_limit a b c h.front c.lines.kept h.in_line piece);
    grows = grows-then part then last (h.front ++ c.lines.kept) (10 ∷ []) (grows-then part now then h.front c.lines.kept h.grows (grows-add now then c.lines.kept is)) (grows-add then last (10 ∷ []) feed);
  },
)

in_answer-front : (front : List ℕ) (r : Result (List ℕ × Coming) LineError) → in_answer (after_front front r) ≡ after_part front (in_answer r)
in_answer-front front (Ok read) = refl
in_answer-front front (Err e) = refl

-- within a line, what is wanted is the rest of the line
line_through : (a b : Stream) (front : List ℕ) → InLine answer_limit a b front → IsThrough answer_line answer_line (after_part front) a b
line_through a b front h = record {
  got = h.got;
  consumes = h.consumes;
  needed = line_needed next_line a.lines h.got h.needed;
  same = λ more rest. ap in_answer (h.reads more rest) ∙ in_answer-front front (next_line (coming_in more answer_limit b.lines rest));
  errors = λ e. refl;
  count = h.count;
  calm = h.calm;
}

-- after a line nothing is wanted
line_done : (a b : Stream) (line : List ℕ) → IsLine answer_limit a b line → IsThrough answer_line (λ r. Ok (line, r)) (λ r. r) a b
line_done a b line h = record {
  got = h.got;
  consumes = h.consumes;
  needed = line_needed next_line a.lines h.got h.needed;
  same = λ more rest. ap in_answer (h.reads more rest);
  errors = λ e. refl;
  count = h.count;
  calm = h.calm;
}

-- memory was wanted within a line
pub line_no_memory : (a b : Stream) (front : List ℕ) → InLine answer_limit a b front → NoLine a b NoMemory
line_no_memory a b front h = through_no_memory true answer_line answer_line (after_part front) a b b (line_through a b front h)

-- memory was wanted for a piece of a line
pub rest_no_memory : (a b c : Stream) (part now : Option (List ℕ)) (whole : Bool) → InRest a b part now → PieceRead answer_limit b c (Ok whole) → NoLine a c NoMemory
rest_no_memory a b c part now true h piece =
    through_no_memory true answer_line (λ r. Ok (h.front ++ c.lines.kept, r)) (λ r. r) a c c (line_done a c (h.front ++ c.lines.kept) (in_line-ends answer_limit a b c h.front c.lines.kept h.in_line piece))
rest_no_memory a b c part now false h piece = line_no_memory a c (h.front ++ c.lines.kept) (in_line-then answer_limit a b c h.front c.lines.kept h.in_line piece)

-- no more of the line was read
pub rest_stopped : (a b c : Stream) (part now : Option (List ℕ)) (e : LineError) → InRest a b part now → PieceRead answer_limit b c (Err e) → NoLine a c (answer_error e)
rest_stopped a b c part now e h piece = line_stopped a c e (in_line-fails answer_limit a b c h.front e h.in_line piece)

-- the error of a call for a line
pub rest_error : (a c : Stream) (part now : Option (List ℕ)) (e : AnswerError) (result : Result ⊤ AnswerError) → NoLine a c e → IsErrAnd result (λ x. x ≡ e) → RestRead a c part now result
rest_error a c part now e (Ok done) stopped is = absurd is
rest_error a c part now e (Err x) stopped is = subst (NoLine a c) (sym is) stopped

-- the same of a call that says whether the line is "end"
pub part_error : (a c : Stream) (part now : Option (List ℕ)) (e : AnswerError) (result : Result Bool AnswerError) → NoLine a c e → IsErrAnd result (λ x. x ≡ e) → PartLineRead a c part now result
part_error a c part now e (Ok is_end) stopped is = absurd is
part_error a c part now e (Err x) stopped is = subst (NoLine a c) (sym is) stopped

-- the error that memory was wanted
pub memory_error : {T : Type 0} (a c : Stream) (e : AnswerError) → ◌≡◌ {A = Result T AnswerError} (Err e) (Err NoMemory) → NoLine a c NoMemory → NoLine a c e
memory_error a c e is stopped = subst (NoLine a c) (sym (same_error e NoMemory is)) stopped

-- ---- a line
-- a line whose front was read, and then the rest of it
pub long_line : (a b c : Stream) (part now last : Option (List ℕ)) → PieceRead answer_limit a b (Ok false) → length b.lines.kept ≡ 4096 → now ≡ part_with part b.lines.kept → (line : List ℕ) × LineInPart b c now last line
    → (line : List ℕ) × LineInPart a c part last line × (false ≡ bytes_eq line (codes "end"))
long_line a b c part now last piece long is rest =
    let kept = b.lines.kept in
    let line = kept ++ rest.0 in
    let all : length line ≡ length kept + length rest.0 = length-append kept rest.0 in (
      line,
      record {
        reads = through_value true answer_line answer_line (after_part kept) a b c (line_through a b kept piece) rest.0 line (λ r. refl) rest.1.reads;
        grows = λ before part_is. grows-then part now last kept (rest.0 ++ 10 ∷ []) (grows-add part now kept is) rest.1.grows before part_is ∙ ap (λ l. kept_part (before ++ l)) (sym (append_assoc kept rest.0 (10 ∷ [])));
      },
      sym (not_word line (codes "end") (omega arith)),
    )

-- a front of a line was read, and then no more of it
pub long_stopped : (a b c : Stream) (e : AnswerError) → PieceRead answer_limit a b (Ok false) → NoLine b c e → NoLine a c e
long_stopped a b c e piece stopped = through_error true answer_line answer_line (after_part b.lines.kept) a b c (line_through a b b.lines.kept piece) e stopped

-- ---- the lines to the first that is "end"
-- a line that isn't "end" comes before the part of the lines after it
part_cons : (l : List ℕ) (ls : List (List ℕ)) (partial : List ℕ) (goes_on : Bool) (n : ℕ) → bytes_eq l (codes "end") ≡ false
    → (let r : Coming = record { input = record { lines = l ∷ ls; partial = partial; goes_on = goes_on }; line = n } in
    let rest : Coming = record { input = record { lines = ls; partial = partial; goes_on = goes_on }; line = n + 1 } in
    part_reading r ≡ after_part (l ++ 10 ∷ []) (part_reading rest))
part_cons l ls partial goes_on n e = rw e (by_parts (part_of ls))
  where
    by_parts : (o : Option (List (List ℕ) × List (List ℕ)))
        → (let r : Coming = record { input = record { lines = l ∷ ls; partial = partial; goes_on = goes_on }; line = n } in
        let rest : Coming = record { input = record { lines = ls; partial = partial; goes_on = goes_on }; line = n + 1 } in
        lines_in (add_line l o) r ≡ after_part (l ++ 10 ∷ []) (lines_in o rest))
    by_parts None =
        let same : n + suc (length ls) + 1 ≡ n + 1 + length ls + 1 = omega arith in
        ap (λ k. Err (missing (record { lines = l ∷ ls; partial = partial; goes_on = goes_on }) k)) same
    by_parts (Some parts) =
        let same : n + suc (length parts.0) ≡ n + 1 + length parts.0 = omega arith in
        ap (λ k. Ok ((l ++ 10 ∷ []) ++ bytes_of parts.0, record { input = record { lines = parts.1; partial = partial; goes_on = goes_on }; line = k })) same

same_read : (a b : List ℕ × Coming) → ◌≡◌ {A = Result (List ℕ × Coming) AnswerError} (Ok a) (Ok b) → a ≡ b
same_read a b e = cc

-- the part of an input whose next line isn't "end"
part_more : (lines : List (List ℕ)) (partial : List ℕ) (goes_on : Bool) (n : ℕ) (line : List ℕ) (rest : Coming)
    → (let r : Coming = record { input = record { lines = lines; partial = partial; goes_on = goes_on }; line = n } in
    answer_line r ≡ Ok (line, rest) → bytes_eq line (codes "end") ≡ false → part_reading r ≡ after_part (line ++ 10 ∷ []) (part_reading rest))
part_more [] partial true n line rest e ends = cc
part_more [] partial false n line rest e ends = cc
part_more (l ∷ ls) partial goes_on n line rest e ends =
    let pair : (l, record { input = record { lines = ls; partial = partial; goes_on = goes_on }; line = n + 1 }) ≡ (line, rest) = same_read _ _ e in
    let first : l ≡ line = ap (λ (p : List ℕ × Coming). p.0) pair in
    let more : record { input = record { lines = ls; partial = partial; goes_on = goes_on }; line = n + 1 } ≡ rest = ap (λ (p : List ℕ × Coming). p.1) pair in
    part_cons l ls partial goes_on n (ap (λ t. bytes_eq t (codes "end")) first ∙ ends)
    ∙ (ap (λ t. after_part (t ++ 10 ∷ []) (part_reading (record { input = record { lines = ls; partial = partial; goes_on = goes_on }; line = n + 1 }))) first
    ∙ ap (λ t. after_part (line ++ 10 ∷ []) (part_reading t)) more)

-- the part of an input whose next line is "end"
part_last : (lines : List (List ℕ)) (partial : List ℕ) (goes_on : Bool) (n : ℕ) (line : List ℕ) (rest : Coming)
    → (let r : Coming = record { input = record { lines = lines; partial = partial; goes_on = goes_on }; line = n } in
    answer_line r ≡ Ok (line, rest) → bytes_eq line (codes "end") ≡ true → part_reading r ≡ Ok (line ++ 10 ∷ [], rest))
part_last [] partial true n line rest e ends = cc
part_last [] partial false n line rest e ends = cc
part_last (l ∷ ls) partial goes_on n line rest e ends =
    let one : n + length (l ∷ []) ≡ n + 1 = omega arith in
    let pair : (l, record { input = record { lines = ls; partial = partial; goes_on = goes_on }; line = n + 1 }) ≡ (line, rest) = same_read _ _ e in
    let first : l ≡ line = ap (λ (p : List ℕ × Coming). p.0) pair in
    let more : record { input = record { lines = ls; partial = partial; goes_on = goes_on }; line = n + 1 } ≡ rest = ap (λ (p : List ℕ × Coming). p.1) pair in
    let here : bytes_eq l (codes "end") ≡ true = ap (λ t. bytes_eq t (codes "end")) first ∙ ends in
    rw here
    (ap (λ k. Ok ((l ++ 10 ∷ []) ++ [], record { input = record { lines = ls; partial = partial; goes_on = goes_on }; line = k })) one
    ∙ ap (λ t. Ok (t, record { input = record { lines = ls; partial = partial; goes_on = goes_on }; line = n + 1 })) (append-nil (l ++ 10 ∷ []) ∙ ap (λ t. t ++ 10 ∷ []) first) ∙ ap (λ t. Ok (line ++ 10 ∷ [], t)) more)

-- where no line is, there are no lines to "end"
no_part : (lines : List (List ℕ)) (partial : List ℕ) (goes_on : Bool) (n : ℕ) (e : AnswerError)
    → (let r : Coming = record { input = record { lines = lines; partial = partial; goes_on = goes_on }; line = n } in answer_line r ≡ Err e → part_reading r ≡ Err e)
no_part [] partial true n e none = none
no_part [] partial false n e none =
    let one : n + 0 + 1 ≡ n + 1 = omega arith in
    ap (λ k. Err (Form k)) one ∙ none
no_part (line ∷ lines) partial goes_on n e none = absurd (cc)

part_none : (r : Coming) (e : AnswerError) → answer_line r ≡ Err e → part_reading r ≡ Err e
part_none r e none = no_part r.input.lines r.input.partial r.input.goes_on r.line e none

-- within the lines of the instance, of which these bytes were read and kept
pub record InPart (before after : Stream) (part : Option (List ℕ)) : Type 0 where
  pub bytes : List ℕ
  pub through : IsThrough part_reading part_reading (after_part bytes) before after
  pub keeps : part ≡ kept_part bytes

after_part-nil : (r : Result (List ℕ × Coming) AnswerError) → after_part [] r ≡ r
after_part-nil (Ok read) = refl
after_part-nil (Err e) = refl

-- nothing of the part was read yet
pub in_part-start : (a : Stream) (part : Option (List ℕ)) → part ≡ Some [] → InPart a a part
in_part-start a part is = record {
  bytes = [];
  through = record { got = []; consumes = Consumes-none a.left; needed = inl refl; same = λ more rest. sym (after_part-nil (part_reading (coming_in more answer_limit a.lines rest))); errors = λ e. refl; count = omega arith; calm = calm-none a };
  keeps = is;
}

after_part-append : (a b : List ℕ) (r : Result (List ℕ × Coming) AnswerError) → after_part a (after_part b r) ≡ after_part (a ++ b) r
after_part-append a b (Ok read) = ap (λ l. Ok (l, read.1)) (sym (append_assoc a b read.0))
after_part-append a b (Err e) = refl

-- after a line that isn't "end", the lines after it are wanted
line_more : (b c : Stream) (line : List ℕ) → ReadInMemory answer_line b c (Ok line) → bytes_eq line (codes "end") ≡ false → IsThrough part_reading part_reading (after_part (line ++ 10 ∷ [])) b c
line_more b c line k other = record {
  got = k.got;
  consumes = k.consumes;
  needed = needed_also answer_line part_reading part_none b.lines k.got k.needed;
  same = λ more rest.
      let r = coming_in more answer_limit b.lines (k.got ++ rest) in
      part_more r.input.lines r.input.partial r.input.goes_on r.line line (coming_in more answer_limit c.lines rest) (k.reads more rest) other;
  errors = λ e. refl;
  count = k.count;
  calm = k.counts;
}

-- a line more was read
pub in_part-next : (a b c : Stream) (part now : Option (List ℕ)) → InPart a b part → (line : List ℕ) × LineInPart b c part now line × (false ≡ bytes_eq line (codes "end")) → InPart a c now
in_part-next a b c part now h next =
    let line = next.0 ++ 10 ∷ [] in
    let through = through_then part_reading part_reading part_reading (after_part h.bytes) (after_part line) a b c h.through (line_more b c next.0 next.1.reads (sym next.2)) in
    record {
      bytes = h.bytes ++ line;
      through = record {
        got = through.got;
        consumes = through.consumes;
        needed = through.needed;
        same = λ more rest. through.same more rest ∙ after_part-append h.bytes line (part_reading (coming_in more answer_limit c.lines rest));
        errors = λ e. refl;
        count = through.count;
        calm = through.calm;
      };
      keeps = next.1.grows h.bytes h.keeps;
    }

-- the line "end" was read
pub in_part-ends : (a b c : Stream) (part now : Option (List ℕ)) → InPart a b part → (line : List ℕ) × LineInPart b c part now line × (true ≡ bytes_eq line (codes "end")) → PartRead a c (Ok now)
in_part-ends a b c part now h next =
    let line = next.0 ++ 10 ∷ [] in
    let k = next.1.reads in
    let last : ReadInMemory part_reading b c (Ok line) = record {
      got = k.got;
      consumes = k.consumes;
      needed = needed_also answer_line part_reading part_none b.lines k.got k.needed;
      reads = λ more rest.
          let r = coming_in more answer_limit b.lines (k.got ++ rest) in
          part_last r.input.lines r.input.partial r.input.goes_on r.line next.0 (coming_in more answer_limit c.lines rest) (k.reads more rest) (sym next.2);
      count = k.count;
      counts = k.counts;
    } in
    (h.bytes ++ line, through_value true part_reading part_reading (after_part h.bytes) a b c h.through line (h.bytes ++ line) (λ r. refl) last, next.1.grows h.bytes h.keeps)

-- no line more was read
pub in_part-stopped : (a b c : Stream) (part : Option (List ℕ)) (e : AnswerError) (result : Result (Option (List ℕ)) AnswerError) → InPart a b part → NoLine b c e → IsErrAnd result (λ x. x ≡ e) → PartRead a c result
in_part-stopped a b c part e (Ok now) h stopped is = absurd is
in_part-stopped a b c part e (Err x) h stopped is =
    rw is (through_error true part_reading part_reading (after_part h.bytes) a b c h.through e (error_also true answer_line part_reading part_none b c e stopped))

-- ---- the instance
-- the instance of the bytes of its lines
abbrev canonical_part : Bool → List ℕ → Coming → Result (Instance × Coming) AnswerError
canonical_part second bytes r = or_bad_instance (if_canonical second bytes (reading bytes)) r

-- the instance is that of the bytes of the part
instance_is : (second : Bool) (r : Coming) → instance_part second r ≡ and_then (part_reading r) (λ p. canonical_part second p.0 p.1)
instance_is second r = by_parts (part_of r.input.lines)
  where
    by_parts : (o : Option (List (List ℕ) × List (List ℕ))) → instance_in second o r ≡ and_then (lines_in o r) (λ p. canonical_part second p.0 p.1)
    by_parts None = refl
    by_parts (Some parts) = refl

-- what is said of the bytes of the part reads no more
canonical_here : (second : Bool) (bytes : List ℕ) (b : Stream) (result : Result Instance AnswerError) → Canonical second bytes result → ReadInMemory (canonical_part second bytes) b b result
canonical_here second bytes b (Ok i) is = read_none (canonical_part second bytes) b i (λ more rest. ap (λ o. or_bad_instance o (coming_in more answer_limit b.lines rest)) is)
canonical_here second bytes b (Err (Form line)) is = absurd is
canonical_here second bytes b (Err BadInstance) is =
    settled_here (canonical_part second bytes) b (λ more rest. ap (λ o. or_bad_instance o (coming_in more answer_limit b.lines rest)) is)
canonical_here second bytes b (Err TooLong) is = absurd is
canonical_here second bytes b (Err ReadFault) is = absurd is
canonical_here second bytes b (Err NoMemory) is = memory_here (canonical_part second bytes) b

-- the part was read, and then judged
pub instance_read : (second : Bool) (a b : Stream) (part : Option (List ℕ)) (result : Result Instance AnswerError) → PartRead a b (Ok part) → ((bytes : List ℕ) → part ≡ kept_part bytes → Canonical second bytes result) → ReadInMemory (instance_part second) a b result
instance_read second a b part result read canonical =
    read_also true _ (instance_part second) (λ r. sym (instance_is second r)) a b result
    (read_then part_reading (canonical_part second) a b b read.0 result read.1 (canonical_here second read.0 b result (canonical read.0 read.2)))

-- the part wasn't read
pub instance_stopped : (second : Bool) (a b : Stream) (e : AnswerError) (result : Result Instance AnswerError) → PartRead a b (Err e) → IsErrAnd result (λ x. x ≡ e) → ReadInMemory (instance_part second) a b result
instance_stopped second a b e result read is =
    read_also true _ (instance_part second) (λ r. sym (instance_is second r)) a b result (read_stop part_reading (canonical_part second) a b e result is read)
