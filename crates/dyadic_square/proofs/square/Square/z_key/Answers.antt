use Rattle.std.proofs.Common.{rules}
use Rattle.siting_definitions.specs.Square.{Square}
use Rattle.dyadic_square.proofs.Keys.{way_passed, z_from}
use Rattle.dyadic_square.proofs.square.Square.z_key.Goals as goal

pub returns-clause-value : goal.returns-clause-value
returns-clause-value c =
    let s = c.self.inside in
    let r = c.root.inside in
    let root : Square = record { x = r.x; y = r.y; level = r.level } in
    let square : Square = record { x = s.x; y = s.y; level = s.level } in
    let across = way_passed c.abs_diff.result s.x r.x (search rules) (search rules) c.abs_diff.ensures in
    let upwards = way_passed c.abs_diff-2.result s.y r.y (search rules) (search rules) c.abs_diff-2.ensures in
    rw (← c.self.view_is, ← c.root.view_is)
    (z_from root square c.abs_diff.result c.abs_diff-2.result c.spread_40-across.result c.spread_40-upwards.result across upwards c.spread_40-across.ensures.value c.spread_40-upwards.ensures.value)
