use Rattle.std.proofs.Common.{arith}
use Rattle.shared_pool.proofs.SeatSteps.{seats_out}
use Rattle.shared_pool.proofs.desk.RootDesk.seat_out.Goals as goal

pub split_seat-seat-requires : goal.split_seat-seat-requires
split_seat-seat-requires c = (
  c.requires.table,
  omega (arith, c.args.shared.now.counts.0),
  seats_out c.args.shared.now.table.shared.key _ _ c.args.self.now.first c.args.self.now.rests.role_is,
)
