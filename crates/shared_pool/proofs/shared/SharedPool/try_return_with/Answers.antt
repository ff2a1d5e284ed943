use Rattle.std.proofs.Common.{sym, ◌∙◌, arith}
use Rattle.shared_pool.proofs.TurnSteps.{returned}
use Rattle.shared_pool.proofs.shared.SharedPool.try_return_with.Goals as goal

pub store-requires : goal.store-requires
store-requires c =
    let back = c.give_back_to-given.ensures in
    let r = back.returned in (
      back.same.0 ∙ c.take_turn.ensures.same.0 ∙ c.requires.desk.table,
      omega (arith, c.args.self.now.counts.0),
      returned c.args.self.now.table.shared.key _ _ c.args.desk.now.seat.me c.take_turn.new.seat.me c.give_back_to-given.new.seat.me c.in-Some.lease c.args.verdict.seen
          c.args.verdict.finding r.0 r.1 c.args.desk.now.rests (c.take_turn.ensures.won c.if-not-take_turn.false) back.same.2 r.2 r.3
          (sym c.args.desk.now.shown_lease ∙ sym c.in-Some.ensures.value) c.requires.seen c.requires.finding c.requires.centre r.4,
    )
