use Rattle.root_enclosure.proofs.RootLemmas.{floor_root-finer, ceil_root-finer}
use Rattle.root_enclosure.proofs.a_root_in_finer_units_gives_the_root.Goals as goal

pub returns-clause-floor : goal.returns-clause-floor
returns-clause-floor c = floor_root-finer

pub returns-clause-ceil : goal.returns-clause-ceil
returns-clause-ceil c = ceil_root-finer
