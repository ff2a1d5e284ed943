use Rattle.root_enclosure.proofs.RootLemmas.{rounded}
use Rattle.root_enclosure.proofs.root_rounded.Goals as goal

pub returns-clause-value : goal.returns-clause-value
returns-clause-value c = rounded _ _ _ c.args.up c.root_and_rest-root.ensures.encloses c.root_and_rest-root.ensures.rest
