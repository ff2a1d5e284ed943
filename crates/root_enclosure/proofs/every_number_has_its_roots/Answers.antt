use Rattle.root_enclosure.proofs.RootLemmas.{floor_root-is, ceil_root-is}
use Rattle.root_enclosure.proofs.every_number_has_its_roots.Goals as goal

pub returns-clause-floor : goal.returns-clause-floor
returns-clause-floor c = floor_root-is

pub returns-clause-ceil : goal.returns-clause-ceil
returns-clause-ceil c = ceil_root-is
