use Rattle.site_workers.specs.Team.{IsFree}
use Rattle.site_workers.proofs.member.work.Given as goal

abbrev pub invariant-loop : goal.invariant-loop
invariant-loop g l = (goal.iterator-loop g).can_next l.iterator' × (goal.iterator-loop g).is_finite l.iterator' × IsFree l.shared l.desk
