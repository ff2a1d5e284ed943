use Rattle.root_enclosure.proofs.RootLemmas.{floor_root-unique, ceil_root-unique}
use Rattle.root_enclosure.proofs.each_root_is_the_only_one.Goals as goal

pub returns-clause-floor : goal.returns-clause-floor
returns-clause-floor c = floor_root-unique

pub returns-clause-ceil : goal.returns-clause-ceil
returns-clause-ceil c = ceil_root-unique
