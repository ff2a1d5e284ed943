use Rattle.std.proofs.Common.{sym, ap, ◌∙◌}
use Rattle.shared_pool.specs.Steps.{Seat}
use Rattle.shared_pool.proofs.LeasedFits.{won-waiting, answer-fits}
use Rattle.shared_pool.proofs.shared.SharedPool.try_lease.Goals as goal

pub returns-in-Leased-clause-fits : goal.returns-in-Leased-clause-fits
returns-in-Leased-clause-fits c x has =
    let m = c.args.desk.now.seat.me in
    let r = c.lease_from-answer.ensures.answer in
    answer-fits m.0.first.job.instance c.lease_from-answer.result r.0 r.1 r.4
    (won-waiting m c.take_turn.new.seat.me r.0 (c.take_turn.ensures.won c.if-not-take_turn.false) r.2) x
    (sym (ap (λ (n : Seat). n.0.lease) (c.give_after_lease.ensures.given r.1 r.3).0) ∙ has)
