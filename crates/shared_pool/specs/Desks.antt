-- What desks and shared pools show.
use Rattle.std.specs.Prelude.{◌≡◌}
use Rattle.std.specs.declared.snapshot.Snapshot.{Snapshot}
use Rattle.pool_core.specs.State.{State}
use Rattle.shared_pool.specs.declared.view.View.{View}
use Rattle.shared_pool.specs.declared.desk.Desk.{Desk}
use Rattle.shared_pool.specs.declared.desk.RootDesk.{RootDesk}
use Rattle.shared_pool.specs.declared.shared.SharedPool.{SharedPool}

-- what a desk knows
abbrev pub view : Desk → View
view d = d.seat.me.0

-- what a root desk knows
abbrev pub root_view : RootDesk → View
root_view r = r.seat.me.0

-- what the table was told when it was made
abbrev pub key : SharedPool → Snapshot State
key s = s.table.shared.key

-- the pool with which the table was made
abbrev pub first_pool : SharedPool → State
first_pool s = (key s).value

-- the desk is at this table, and knows the job and the beginning of the pool with which it was made
pub record IsDeskOf (s : SharedPool) (d : Desk) : Type 0 where
  pub table : d.seat.table_id ≡ s.table.shared.table_id
  pub first : (view d).first ≡ first_pool s

-- the same of a root desk
pub record IsRootOf (s : SharedPool) (r : RootDesk) : Type 0 where
  pub table : r.seat.table_id ≡ s.table.shared.table_id
  pub first : (root_view r).first ≡ first_pool s
