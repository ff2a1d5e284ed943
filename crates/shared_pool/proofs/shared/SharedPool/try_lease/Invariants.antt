use Rattle.shared_pool.proofs.shared.SharedPool.try_lease.Given as goal

abbrev pub ghosts-give_after_lease : goal.ghosts-give_after_lease
ghosts-give_after_lease a = record { answer = a.answer.now }
