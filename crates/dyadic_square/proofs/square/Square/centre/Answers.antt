use Rattle.std.proofs.Common.{◌<◌, ◌∙◌, ap, arith}
use Rattle.siting_definitions.specs.Square.{Square, centre_of}
use Rattle.dyadic_square.proofs.Moved.{centre_from}
use Rattle.dyadic_square.proofs.square.Square.centre.Goals as goal

pub returns : goal.returns
returns c =
    let s = c.self.inside in
    let square : Square = record { x = s.x; y = s.y; level = s.level } in
    let above : 0 < s.level = omega (arith, ap (λ (t : Square). t.level) c.self.view_is) in
    c.of.ensures ∙ centre_from square c.far_by-half.result above c.self.invariant c.far_by-half.ensures ∙ ap centre_of c.self.view_is
