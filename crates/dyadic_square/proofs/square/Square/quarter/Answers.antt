use Rattle.std.proofs.Common.{◌<◌, ◌∙◌, sym, ap, subst, arith}
use Rattle.siting_definitions.specs.Square.{Square, IsSquare, quarter_of}
use Rattle.dyadic_square.proofs.Moved.{quarter_from}
use Rattle.dyadic_square.proofs.Within.{quarter-lawful}
use Rattle.dyadic_square.proofs.square.Square.quarter.Goals as goal

pub of-requires : goal.of-requires
of-requires c =
    let s = c.self.inside in
    let square : Square = record { x = s.x; y = s.y; level = s.level } in
    let above : 0 < s.level = omega (arith, ap (λ (t : Square). t.level) c.self.view_is) in
    subst IsSquare (sym (quarter_from square c.args.i c.far_by.result c.far_by-2.result above c.self.invariant c.far_by.ensures c.far_by-2.ensures))
    (quarter-lawful square c.args.i above c.self.invariant)

pub returns : goal.returns
returns c =
    let s = c.self.inside in
    let square : Square = record { x = s.x; y = s.y; level = s.level } in
    let above : 0 < s.level = omega (arith, ap (λ (t : Square). t.level) c.self.view_is) in
    c.of.ensures ∙ quarter_from square c.args.i c.far_by.result c.far_by-2.result above c.self.invariant c.far_by.ensures c.far_by-2.ensures
    ∙ ap (λ (t : Square). quarter_of t c.args.i) c.self.view_is
