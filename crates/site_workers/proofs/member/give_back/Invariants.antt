use Rattle.site_workers.specs.Team.{HasVerdict}
use Rattle.site_workers.proofs.member.give_back.Given as goal

abbrev pub invariant-loop : goal.invariant-loop
invariant-loop g l = (goal.iterator-loop g).can_next l.iterator' × (goal.iterator-loop g).is_finite l.iterator' × HasVerdict l.shared l.desk l.bounds l.verdict
