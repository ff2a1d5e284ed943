use Rattle.std.specs.Prelude.{◌≡◌, ◌≤◌, ◌-◌, All, vec_len, vec_capacity}
use Rattle.shared_pool.specs.Desks.{IsRootOf, root_view}
use Rattle.site_workers.specs.Team.{IsFree}
use Rattle.site_workers.proofs.workers.seat_out_all.Given as goal

abbrev pub invariant-loop-desks : goal.invariant-loop-desks
invariant-loop-desks l =
    IsRootOf l.shared l.root
    × ((root_view l.root).out ≡ vec_len l.desks) × ((root_view l.root).seats ≡ vec_len l.desks)
    × (vec_len l.desks ≤ l.count) × (l.count ≤ vec_capacity l.desks)
    × All (IsFree l.shared) l.desks.items

abbrev pub decreases-loop-desks : goal.decreases-loop-desks
decreases-loop-desks l = l.count - vec_len l.desks
