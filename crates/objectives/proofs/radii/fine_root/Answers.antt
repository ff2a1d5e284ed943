use Rattle.objectives.proofs.Computed.{fine_root-small}
use Rattle.objectives.proofs.radii.fine_root.Goals as goal

pub returns-clause-size : goal.returns-clause-size
returns-clause-size c = fine_root-small c.args.up _ _ c.requires c.root_rounded.ensures.value
