use Rattle.cover_check.proofs.CoverLaw.{cover_permits}
use Rattle.cover_check.proofs.laws.a_cover_permits_what_is_wanted.Goals as goal

pub returns : goal.returns
returns c = cover_permits
