use Rattle.root_enclosure.proofs.RootLemmas.{floor_root-unique, ceil_root-from_rest, ceil_root-unique}
use Rattle.root_enclosure.proofs.both_roots.Goals as goal

pub returns-clause-floor : goal.returns-clause-floor
returns-clause-floor c = floor_root-unique _ _ c.root_and_rest-root.ensures.encloses

pub returns-clause-ceil : goal.returns-clause-ceil
returns-clause-ceil c =
    ceil_root-unique _ _ (ceil_root-from_rest _ _ _ c.root_and_rest-root.ensures.encloses c.root_and_rest-root.ensures.rest)
