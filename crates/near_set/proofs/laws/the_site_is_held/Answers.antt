use Rattle.near_set.proofs.NearLemmas.{site_held, site_some}
use Rattle.near_set.proofs.laws.the_site_is_held.Goals as goal

pub returns-clause-held : goal.returns-clause-held
returns-clause-held c = site_held

pub returns-clause-some : goal.returns-clause-some
returns-clause-some c = site_some
