use Rattle.objectives.proofs.Computed.{coarse-by}
use Rattle.objectives.proofs.radii.bound_radii.Goals as goal

pub returns-clause-coarse : goal.returns-clause-coarse
returns-clause-coarse c =
    coarse-by c.args.sq c.args.d _ _ c.attracts.result c.attracts.ensures c.fine_radius-fine.ensures.value c.in_grid_units.ensures.value
