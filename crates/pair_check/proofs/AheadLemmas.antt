-- How far a check in batches reads ahead of what it needs.
use Rattle.std.proofs.Common.{◌≡◌, ℕ, zero, suc, ◌+◌, ◌-◌, ◌≤◌, List, [], ◌∷◌, ◌++◌, length, Option, None, Some, Result, Ok, Err, refl, sym, ap, ◌∙◌, inl, inr, subst, arith, append-nil, append_assoc}
use Rattle.std.specs.Prelude.{◌==◌, cond, Bool, true, false}
use Rattle.std.proofs.lemmas.List.{length-append}
use Rattle.std.proofs.lemmas.List.Sums.{sum_by-cons}
use Rattle.port_io.specs.Bytes.{piece_size}
use Rattle.instance_text.specs.Reading.{and_then}
use Rattle.line_stream.specs.Input.{Input, input_of, onto_lines}
use Rattle.line_stream.specs.Coming.{Coming, first_line}
use Rattle.line_stream.specs.Stream.{LinesState, Stream, IsNeeded, AreTaken, taken, coming_in}
use Rattle.line_stream.proofs.LineLemmas.{needed-kept, needed-last}
use Rattle.certificate.specs.declared.reader.AnswerError.TheVariants.{TooLong as TextTooLong}
use Rattle.certificate.specs.declared.reader.Item.{Item}
use Rattle.certificate.specs.Forms.{item_form}
use Rattle.certificate.specs.HeadReading.{answer_limit, formed, in_answer, or_form}
use Rattle.certificate.specs.AnswerReading.{Read}
use Rattle.cert_checker.specs.declared.faults.CheckError.{CheckError}
use Rattle.cert_checker.specs.declared.faults.CheckError.TheVariants.{TooLong}
use Rattle.cert_checker.specs.declared.checking.Accepted.{Accepted}
use Rattle.cert_checker.specs.CheckReading.{IsPast}
use Rattle.cert_checker.proofs.StepLemmas.{formed-next, onto_lines-length}
use Rattle.pair_check.specs.BatchReading.{IsAhead, feeds}

-- ---- no more than was needed
pub none_ahead : (wanted : Coming → Result Accepted CheckError) (lines : LinesState) (got : List ℕ) → IsNeeded answer_limit wanted TooLong lines got → IsAhead wanted lines got
none_ahead wanted lines got needed = record { first = got; batch = []; piece = []; parts = sym (append-nil got); needed = needed; few_lines = omega arith; few = omega arith }

module _ (wanted later : Coming → Result Accepted CheckError) (a b : Stream) (h : IsPast wanted later a b) where
  needed_after : (got : List ℕ) → IsNeeded answer_limit later TooLong b.lines got → IsNeeded answer_limit wanted TooLong a.lines (h.got ++ got)
  needed_after got (inl none) = needed-kept answer_limit wanted TooLong a.lines h.got got none h.needed
  needed_after got (inr last) = needed-last answer_limit wanted TooLong later TooLong a.lines b.lines h.got got h.count (λ front is. h.same true front ∙ is) last

  -- what is read ahead after bytes that were needed
  pub ahead_after : (got : List ℕ) → IsAhead later b.lines got → IsAhead wanted a.lines (h.got ++ got)
  ahead_after got k = record {
    first = h.got ++ k.first;
    batch = k.batch;
    piece = k.piece;
    parts = ap (λ l. h.got ++ l) k.parts ∙ sym (append_assoc h.got k.first (k.batch ++ k.piece));
    needed = needed_after k.first k.needed;
    few_lines = k.few_lines;
    few = k.few;
  }

-- ---- line feeds and lines
one_feed : (b : ℕ) (bytes : List ℕ) → feeds (b ∷ bytes) ≡ cond (b == 10) 1 0 + feeds bytes
one_feed b bytes = sum_by-cons (λ x. cond (x == 10) 1 0) b bytes

-- bytes have no more line feeds than with others before them
feeds_later : (front bytes : List ℕ) → feeds bytes ≤ feeds (front ++ bytes)
feeds_later [] bytes = omega arith
feeds_later (b ∷ front) bytes = omega (arith, one_feed b (front ++ bytes), feeds_later front bytes)

from_feed : (b : ℕ) (t : Bool) (i : Input) → length (cond t (record i { lines = [] ∷ i.lines }) (onto_lines b i.lines i)).lines ≡ cond t 1 0 + length i.lines
from_feed b true i = omega arith
from_feed b false i = omega (arith, onto_lines-length b i.lines i refl)

-- bytes within the limit have as many lines as line feeds
lines_are_feeds : (limit : ℕ) (bytes : List ℕ) → length bytes ≤ limit → length (input_of limit bytes).lines ≡ feeds bytes
unfolding input_of
lines_are_feeds limit [] within = refl
lines_are_feeds zero (b ∷ bytes) within = absurd (omega (arith, within))
lines_are_feeds (suc limit) (b ∷ bytes) within =
    omega (arith, from_feed b (b == 10) (input_of limit bytes), lines_are_feeds limit bytes (omega (arith, within)), one_feed b bytes)

-- where it is open what the next line says, none is to come
open_no_line : (form : List ℕ → Option Item) (r : Coming) → formed form r ≡ Err TextTooLong → length r.input.lines ≡ 0
open_no_line form r open_ = by_lines r.input.lines refl open_
  where
    by_form : (o : Option Item) (after : Coming) → or_form o after ≡ Err TextTooLong → ⊥
    by_form None after e = absurd (cc)
    by_form (Some item) after e = absurd (cc)

    by_lines : (lines : List (List ℕ)) → r.input.lines ≡ lines → and_then (in_answer (first_line lines r)) (λ n. or_form (form n.0) n.1) ≡ Err TextTooLong → length lines ≡ 0
    by_lines [] here e = refl
    by_lines (line ∷ lines) here e = absurd (by_form (form line) (record { input = record r.input { lines = lines }; line = r.line + 1 }) e)

-- ---- a batch
-- how many lines are to come in these bytes
abbrev to_come : LinesState → List ℕ → ℕ
to_come lines bytes = length (coming_in true answer_limit lines bytes).input.lines

-- at most so many lines, and then a piece
pub record IsCut (bytes : List ℕ) (count : ℕ) : Type 0 where
  pub batch : List ℕ
  pub piece : List ℕ
  pub parts : bytes ≡ batch ++ piece
  pub few_lines : feeds batch ≤ count
  pub few : length piece ≤ piece_size

-- These bytes were read: no more than was needed before the batch, and since then so many lines.
pub record IsBatchRead (wanted : Coming → Result Accepted CheckError) (start now : Stream) (got : List ℕ) (count : ℕ) : Type 0 where
  pub base : LinesState
  pub first : List ℕ
  pub since : List ℕ
  pub parts : got ≡ first ++ since
  pub needed : IsNeeded answer_limit wanted TooLong start.lines first
  pub cut : IsCut since count
  pub taken : AreTaken base now.lines since
  pub lines : (rest : List ℕ) → to_come base (since ++ rest) ≡ count + to_come now.lines rest

-- no line was read since the batch began
pub batch_begins : (wanted : Coming → Result Accepted CheckError) (start now : Stream) (got : List ℕ) → IsNeeded answer_limit wanted TooLong start.lines got → IsBatchRead wanted start now got 0
batch_begins wanted start now got needed = record {
  base = now.lines;
  first = got;
  since = [];
  parts = sym (append-nil got);
  needed = needed;
  cut = record { batch = []; piece = []; parts = refl; few_lines = omega arith; few = omega arith };
  taken = omega arith;
  lines = λ rest. omega arith;
}

module _ (wanted : Coming → Result Accepted CheckError) (start now : Stream) (got : List ℕ) (count : ℕ) (h : IsBatchRead wanted start now got count) where
  -- the bytes of the next line too, where no more of them were read than it needs
  cut_more : (more : List ℕ) → IsNeeded answer_limit (formed item_form) TextTooLong now.lines more → IsCut (h.since ++ more) count
  cut_more more (inl none) = subst (λ l. IsCut l count) (sym (ap (λ l. h.since ++ l) none ∙ append-nil h.since)) h.cut
  cut_more more (inr last) =
      let batch = h.since ++ last.front in
      let all = h.base.ahead ++ batch in
      let within : length all ≤ answer_limit - h.base.read
      = omega (arith, last.before.within, h.taken, length-append h.base.ahead batch, length-append h.since last.front) in
      record {
        batch = batch;
        piece = last.piece;
        parts = ap (λ l. h.since ++ l) last.parts ∙ sym (append_assoc h.since last.front last.piece);
        few_lines = omega (arith, feeds_later h.base.ahead batch, lines_are_feeds (answer_limit - h.base.read) all within, h.lines last.front, open_no_line item_form (coming_in true answer_limit now.lines last.front) last.before.undecided);
        few = last.few;
      }

  -- where a batch has so many lines
  pub ahead_read : (more : List ℕ) → IsNeeded answer_limit (formed item_form) TextTooLong now.lines more → count ≤ 65536 → IsAhead wanted start.lines (got ++ more)
  ahead_read more needed few =
      let cut = cut_more more needed in
      record {
        first = h.first;
        batch = cut.batch;
        piece = cut.piece;
        parts = ap (λ l. l ++ more) h.parts ∙ append_assoc h.first h.since more ∙ ap (λ l. h.first ++ l) cut.parts;
        needed = h.needed;
        few_lines = omega (arith, cut.few_lines, few);
        few = cut.few;
      }

  -- one line more was read
  pub batch_more : (after : Stream) (item : Item) → (read : Read (formed item_form) now after (Ok item)) → IsBatchRead wanted start after (got ++ read.got) (count + 1)
  batch_more after item read =
      let cut = cut_more read.got read.needed in
      record {
        base = h.base;
        first = h.first;
        since = h.since ++ read.got;
        parts = ap (λ l. l ++ read.got) h.parts ∙ append_assoc h.first h.since read.got;
        needed = h.needed;
        cut = record { batch = cut.batch; piece = cut.piece; parts = cut.parts; few_lines = omega (arith, cut.few_lines); few = cut.few };
        taken = omega (arith, h.taken, read.count, length-append h.since read.got);
        lines = λ rest.
            let k = formed-next item_form (coming_in true answer_limit now.lines (read.got ++ rest)) item (coming_in true answer_limit after.lines rest) (read.reads true rest) in
            let here : to_come now.lines (read.got ++ rest) ≡ length k.lines + 1 = omega (arith, ap length k.here) in
            let later : to_come after.lines rest ≡ length k.lines = ap (λ (r : Coming). length r.input.lines) k.rest in
            let whole : to_come h.base ((h.since ++ read.got) ++ rest) ≡ to_come h.base (h.since ++ (read.got ++ rest)) = ap (to_come h.base) (append_assoc h.since read.got rest) in
            omega (arith, whole, h.lines (read.got ++ rest), here, later);
      }
