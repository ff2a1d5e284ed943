use Rattle.dist_bounds.proofs.Axes.{exchanged_ends, same_ends}
use Rattle.dist_bounds.proofs.way_to_end.Goals as goal

pub returns-clause-far : goal.returns-clause-far
returns-clause-far c far =
    exchanged_ends c.args.low c.args.high c.args.a c.one_of.result c.one_of-2.result c.way_outside.result c.requires.low c.requires.high c.requires.a c.requires.order (c.one_of.ensures.first far) (c.one_of-2.ensures.first far) c.way_outside.ensures.value

pub returns-clause-near : goal.returns-clause-near
returns-clause-near c near =
    same_ends c.args.low c.args.high c.args.a c.one_of.result c.one_of-2.result c.way_outside.result c.requires.low c.requires.high c.requires.a (c.one_of.ensures.second near) (c.one_of-2.ensures.second near) c.way_outside.ensures.value
