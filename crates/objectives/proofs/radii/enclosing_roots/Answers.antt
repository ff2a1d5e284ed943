use Rattle.objectives.proofs.Computed.{fine_floor-small, fine_ceil-small}
use Rattle.objectives.proofs.radii.enclosing_roots.Goals as goal

pub returns-clause-floor_size : goal.returns-clause-floor_size
returns-clause-floor_size c = fine_floor-small _ _ c.requires c.both_roots.ensures.floor

pub returns-clause-ceil_size : goal.returns-clause-ceil_size
returns-clause-ceil_size c = fine_ceil-small _ _ c.requires c.both_roots.ensures.ceil
