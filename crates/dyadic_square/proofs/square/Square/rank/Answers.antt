use Rattle.std.proofs.Common.{ap, arith}
use Rattle.siting_definitions.specs.Square.{Square}
use Rattle.dyadic_square.proofs.Order.{rank_is}
use Rattle.dyadic_square.proofs.square.Square.rank.Goals as goal

pub returns : goal.returns
returns c =
    omega (arith, rank_is c.args.root c.args.self, c.z_key.ensures.value, ap (λ (s : Square). s.level) c.self.view_is)
