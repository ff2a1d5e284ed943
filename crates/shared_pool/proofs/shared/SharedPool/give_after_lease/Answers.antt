use Rattle.std.proofs.Common.{sym, subst, arith}
use Rattle.pool_core.specs.declared.lease.LeaseAnswer.{LeaseAnswer}
use Rattle.atomic_table.specs.Table.{step, Allows}
use mathlib.Core.Option.{none}
use Rattle.shared_pool.specs.Steps.{told_by_lease}
use Rattle.shared_pool.specs.TableFits.{TableFits}
use Rattle.shared_pool.proofs.TurnSteps.{gives_after_lease}
use Rattle.shared_pool.proofs.shared.SharedPool.give_after_lease.Goals as goal

pub store-requires : goal.store-requires
store-requires g c =
    let about = c.args.self.now.table.shared.key in
    let slots = c.args.self.now.table.shared.table_id.slots in
    let p = c.requires.pool in (
      c.requires.seat,
      omega (arith, c.args.self.now.counts.0),
      subst (λ (a : LeaseAnswer). Allows (TableFits about) slots c.args.seat.now.id c.args.seat.now.me 1 (λ _. 0) (λ _. told_by_lease a (step slots 1 0 0 none) c.args.seat.now.me 0)) (sym c.requires.told)
          (gives_after_lease about slots c.args.seat.now.id c.args.seat.now.me c.args.answer.now p.0 c.requires.role.0 c.requires.role.1 c.requires.lease p.1 p.2),
    )
