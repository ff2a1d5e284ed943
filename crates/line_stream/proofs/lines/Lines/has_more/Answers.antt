use Rattle.std.proofs.Common.{◌≤◌, length, ap, subst, arith, refl}
use Rattle.std.proofs.lemmas.List.{nil_from_length}
use Rattle.line_stream.specs.Stream.{LinesState, stream}
use Rattle.line_stream.proofs.LineLemmas.{filled_held, filled_now}
use Rattle.line_stream.proofs.lines.Lines.has_more.Goals as goal

pub returns-then-not-is_empty : goal.returns-then-not-is_empty
returns-then-not-is_empty g c =
    filled_held g.row.LIMIT (stream g.S.Source.left g.S.Source.faults g.S.Source.is_strict c.args.self.now c.args.source.now)
    (subst (λ (s : LinesState). s.read ≤ g.row.LIMIT) c.self.view_is c.self.invariant)
    (let e = ap (λ (s : LinesState). length s.ahead) c.self.view_is in grind arith)

pub returns : goal.returns
returns g c =
    rw (← c.self.view_is)
    (filled_now g.row.LIMIT _ _ c.fill.new.self _ c.self.invariant (nil_from_length c.self.inside.ahead (grind arith)) refl c.fill.ensures.bytes c.fill.ensures.some c.fill.ensures.end c.fill.ensures.few c.fill.ensures.err c.fill.ensures.none c.fill.ensures.cause refl c.fill.ensures.strict)
