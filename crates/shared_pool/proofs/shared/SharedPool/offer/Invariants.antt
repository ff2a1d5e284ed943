use Rattle.shared_pool.proofs.shared.SharedPool.offer.Given as goal

abbrev pub ghosts-offer_as : goal.ghosts-offer_as
ghosts-offer_as a = record { site = a.site; upper = a.upper }
