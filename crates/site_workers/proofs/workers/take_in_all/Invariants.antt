use Rattle.std.specs.Prelude.{◌≡◌, ◌<◌, true, All, vec_len}
use Rattle.shared_pool.specs.Desks.{IsRootOf, root_view}
use Rattle.site_workers.specs.Team.{HasEnded}
use Rattle.site_workers.proofs.workers.take_in_all.Given as goal

abbrev pub invariant-loop-desk : goal.invariant-loop-desk
invariant-loop-desk l =
    IsRootOf l.shared l.root
    × ((root_view l.root).out ≡ vec_len l.desks) × ((root_view l.root).seats ≡ (root_view l.fn.root).seats)
    × (vec_len l.desks < vec_len l.fn.desks → (root_view l.root).ended ≡ true)
    × All (HasEnded l.shared) l.desks.items

abbrev pub decreases-loop-desk : goal.decreases-loop-desk
decreases-loop-desk l = goal.left-loop-desk l
