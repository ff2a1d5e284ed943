use Rattle.std.proofs.Common.{sym, subst, arith}
use Rattle.std.specs.Prelude.{All}
use Rattle.std.proofs.lemmas.List.{take_at}
use Rattle.site_workers.specs.Team.{HasEnded}
use Rattle.site_workers.proofs.workers.team.Goals as goal

pub take_in_all-requires-clause-ended : goal.take_in_all-requires-clause-ended
take_in_all-requires-clause-ended g c =
    subst (All (HasEnded c.in_ok-shared.shared)) (sym (take_at c.work_halves.new.desks _ _ (omega arith))) c.work_halves.ensures
