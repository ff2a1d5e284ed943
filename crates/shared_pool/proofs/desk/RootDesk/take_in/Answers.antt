use Rattle.std.proofs.Common.{arith}
use Rattle.shared_pool.proofs.SeatSteps.{takes_in}
use Rattle.shared_pool.proofs.desk.RootDesk.take_in.Goals as goal

pub join_seat-requires : goal.join_seat-requires
join_seat-requires c = (
  c.requires.root.table,
  c.requires.desk.table,
  c.args.desk.rests.slots,
  omega (arith, c.args.shared.now.counts.0),
  takes_in c.args.shared.now.table.shared.key _ _ _ _ c.args.self.now.first c.args.self.now.rests.role_is c.args.desk.rests.role_is c.args.desk.rests.turn c.requires.lease,
)
