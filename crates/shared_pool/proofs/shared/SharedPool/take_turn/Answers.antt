use Rattle.std.proofs.Common.{arith}
use Rattle.shared_pool.proofs.TurnSteps.{takes_turn}
use Rattle.shared_pool.proofs.shared.SharedPool.take_turn.Goals as goal

pub swap-requires : goal.swap-requires
swap-requires c = (
  c.requires.seat,
  omega (arith, c.args.self.now.counts.0),
  takes_turn c.args.self.now.table.shared.key _ _ _ c.requires.rests.role_is,
)
