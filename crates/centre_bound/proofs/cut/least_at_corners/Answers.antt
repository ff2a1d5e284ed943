use Rattle.std.proofs.Common.{rules}
use Rattle.centre_bound.proofs.Computed.{least_value}
use Rattle.centre_bound.proofs.cut.least_at_corners.Goals as goal

pub returns : goal.returns
returns c =
    least_value c.args.sum c.args.half c.rise.result c.unsigned_abs.result c.unsigned_abs-2.result c.requires.sum c.ranges.half (search rules) (search rules) c.unsigned_abs.ensures.value c.unsigned_abs-2.ensures.value c.rise.ensures.value c.rise.ensures.size
