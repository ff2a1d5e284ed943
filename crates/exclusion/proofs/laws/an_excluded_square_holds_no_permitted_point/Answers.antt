use Rattle.exclusion.proofs.ExcludedLemmas.{excluded_sound}
use Rattle.exclusion.proofs.laws.an_excluded_square_holds_no_permitted_point.Goals as goal

pub returns : goal.returns
returns c = excluded_sound
