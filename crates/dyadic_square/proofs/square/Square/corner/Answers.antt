use Rattle.std.proofs.Common.{◌∙◌, ap}
use Rattle.siting_definitions.specs.Square.{Square, corner_of}
use Rattle.dyadic_square.proofs.Moved.{corner_from}
use Rattle.dyadic_square.proofs.square.Square.corner.Goals as goal

pub returns : goal.returns
returns c =
    let s = c.self.inside in
    let square : Square = record { x = s.x; y = s.y; level = s.level } in
    c.of.ensures ∙ corner_from square c.args.i c.far_by.result c.far_by-2.result c.self.invariant c.far_by.ensures c.far_by-2.ensures
    ∙ ap (λ (t : Square). corner_of t c.args.i) c.self.view_is
