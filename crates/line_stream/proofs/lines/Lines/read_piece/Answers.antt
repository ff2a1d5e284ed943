use Rattle.std.proofs.Common.{◌≡◌, ◌+◌, ◌∙◌, [], length, ap, refl, sym, arith}
use Rattle.std.proofs.lemmas.List.{length-append}
use Rattle.line_stream.specs.Stream.{LinesState}
use Rattle.line_stream.proofs.LineLemmas.{in_line-start, in_line-missing, in_line-failed, in_line-filled, in_line-held, in_line-over, in_line-front, in_line-feed}
use Rattle.line_stream.proofs.lines.Lines.read_piece.Goals as goal

pub loop-self-init : goal.loop-self-init
loop-self-init g c =
    let none : c.begin_line.new.self.kept ≡ [] = ap (λ (s : LinesState). s.kept) c.begin_line.ensures in
    let same : c.begin_line.new.self.read ≡ c.args.self.now.read = ap (λ (s : LinesState). s.read) c.begin_line.ensures in
    let zero : length c.begin_line.new.self.kept ≡ 0 = ap length none in
    record {
      in_line = in_line-start g.row.LIMIT _ _ c.begin_line.ensures refl refl refl;
      count = omega arith;
      within = λ some. let no : ⊥ = omega arith in absurd no;
      most = omega arith;
    }

pub returns-in-Ok-false-clause-reads : goal.returns-in-Ok-false-clause-reads
returns-in-Ok-false-clause-reads g c =
    in_line-missing g.row.LIMIT _ _ _ _ _ c.loop-self.invariant.in_line (rw (c.in-Ok-false.is, c.in-Ok-false.field-0-test) at c.has_more.ensures) (ap (λ n. n + 1) c.line.ensures.value)

pub returns-in-Err-clause-reads : goal.returns-in-Err-clause-reads
returns-in-Err-clause-reads g c =
    in_line-failed g.row.LIMIT _ _ _ _ _ c.loop-self.invariant.in_line (rw c.in-Err.is at c.has_more.ensures)

pub returns-then-bytes_left-eq0-clause-reads : goal.returns-then-bytes_left-eq0-clause-reads
returns-then-bytes_left-eq0-clause-reads g c =
    let filled = rw (c.in-Ok-true.is, c.in-Ok-true.field-0-test) at c.has_more.ensures in
    in_line-over g.row.LIMIT _ _ _ (in_line-filled g.row.LIMIT _ _ _ _ c.loop-self.invariant.in_line filled) filled.fills.0 (sym c.bytes_left.ensures ∙ c.if-bytes_left-eq0.true)

pub returns-then-take_front-clause-reads : goal.returns-then-take_front-clause-reads
returns-then-take_front-clause-reads g c =
    in_line-feed g.row.LIMIT _ _ _ (in_line-held g.row.LIMIT _ _ _ c.loop-self.invariant.in_line (rw (c.in-Ok-true.is, c.in-Ok-true.field-0-test) at c.has_more.ensures)) (rw c.if-take_front.true at c.take_front.ensures)

pub loop-self-preserved : goal.loop-self-preserved
loop-self-preserved g c =
    let front = rw c.if-take_front.false at c.take_front.ensures in
    let kept : length c.take_front.new.self.kept ≡ length c.has_more.new.self.kept + length front.front = ap length front.keeps ∙ length-append c.has_more.new.self.kept front.front in
    let held : length c.has_more.new.self.kept ≡ length c.loop-self.self.kept = ap (λ (s : LinesState). length s.kept) c.has_more.ensures.lines in
    let same : c.has_more.new.self.read ≡ c.loop-self.self.read = ap (λ (s : LinesState). s.read) c.has_more.ensures.lines in
    let count : c.has_more.new.self.read + (length front.front + 0) ≡ c.take_front.new.self.read = front.count in
    record {
      in_line = in_line-front g.row.LIMIT _ _ _ (in_line-held g.row.LIMIT _ _ _ c.loop-self.invariant.in_line (rw (c.in-Ok-true.is, c.in-Ok-true.field-0-test) at c.has_more.ensures)) front;
      count = omega (arith, c.loop-self.invariant.count);
      within = λ _. front.within;
      most = front.few;
    }
