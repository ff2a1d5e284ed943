use Rattle.root_enclosure.proofs.RootLemmas.{ceil_root-is}
use Rattle.root_enclosure.proofs.ceil_root.Goals as goal

pub returns-clause-encloses : goal.returns-clause-encloses
returns-clause-encloses c = rw c.both_roots.ensures.ceil (ceil_root-is c.args.m)
