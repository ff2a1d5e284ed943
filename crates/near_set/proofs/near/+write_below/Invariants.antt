use Rattle.near_set.proofs.near.+write_below.Given as goal

abbrev pub decreases-write_below : goal.decreases-write_below
decreases-write_below g l = l.depth
