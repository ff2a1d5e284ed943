use Rattle.std.proofs.Common.{arith}
use Rattle.shared_pool.proofs.IncumbentSteps.{looks}
use Rattle.shared_pool.proofs.shared.SharedPool.look.Goals as goal

pub load-word-requires : goal.load-word-requires
load-word-requires c = (
  c.requires.table,
  omega (arith, c.args.self.now.counts.0),
  looks c.args.self.now.table.shared.key _ _ _ c.args.desk.now.rests.role_is,
)
