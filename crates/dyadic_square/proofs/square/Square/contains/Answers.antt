use Rattle.std.proofs.Common.{◌≡◌, pos, ◌^◌, sym, ◌∙◌, ap, rules}
use Rattle.siting_definitions.specs.Point.{Pt}
use Rattle.siting_definitions.specs.Square.{Square}
use Rattle.dyadic_square.proofs.Held.{span_passed, held_both, held_not}
use Rattle.dyadic_square.proofs.square.Square.contains.Goals as goal

pub returns-then-is_between : goal.returns-then-is_between
returns-then-is_between c =
    let s = c.self.inside in
    let square : Square = record { x = s.x; y = s.y; level = s.level } in
    let point : Pt = record { x = c.p.inside.x; y = c.p.inside.y } in
    let side : c.side_len-side.result ≡ pos (2 ^ s.level) =
    c.side_len-side.ensures.value ∙ ap (λ (t : Square). pos (2 ^ t.level)) (sym c.self.view_is) in
    let across = span_passed c.is_between.result s.x c.side_len-side.result point.x (2 ^ s.level) (search rules) (search rules) side c.self.invariant.left c.self.invariant.right c.is_between.ensures in
    let upwards = span_passed c.is_between-then-is_between.result s.y c.side_len-side.result point.y (2 ^ s.level) (search rules) (search rules) side c.self.invariant.lower c.self.invariant.upper c.is_between-then-is_between.ensures in
    rw (← c.self.view_is, ← c.p.view_is) (held_both c.is_between-then-is_between.result square point (sym across ∙ c.if-is_between.true) upwards)

pub returns-else-is_between : goal.returns-else-is_between
returns-else-is_between c =
    let s = c.self.inside in
    let square : Square = record { x = s.x; y = s.y; level = s.level } in
    let point : Pt = record { x = c.p.inside.x; y = c.p.inside.y } in
    let side : c.side_len-side.result ≡ pos (2 ^ s.level) =
    c.side_len-side.ensures.value ∙ ap (λ (t : Square). pos (2 ^ t.level)) (sym c.self.view_is) in
    let across = span_passed c.is_between.result s.x c.side_len-side.result point.x (2 ^ s.level) (search rules) (search rules) side c.self.invariant.left c.self.invariant.right c.is_between.ensures in
    rw (← c.self.view_is, ← c.p.view_is) (held_not c.is_between.result square point (sym across ∙ c.if-is_between.false) c.if-is_between.false)
