use Rattle.centre_bound.proofs.Computed.{slope_fits}
use Rattle.centre_bound.proofs.cut.slope.Goals as goal

pub returns : goal.returns
returns c = slope_fits c.args.w c.args.n c.ranges.w c.ranges.n c.requires.w c.requires.n
