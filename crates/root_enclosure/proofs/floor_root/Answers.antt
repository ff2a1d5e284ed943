use Rattle.root_enclosure.proofs.RootLemmas.{floor_root-unique}
use Rattle.root_enclosure.proofs.floor_root.Goals as goal

pub returns-clause-value : goal.returns-clause-value
returns-clause-value c = floor_root-unique _ _ c.root_and_rest-root.ensures.encloses
