use Rattle.std.proofs.Common.{refl}
use Rattle.near_set.specs.Ceiling.{rise_of}
use Rattle.near_set.proofs.ceiling.rise_across.Goals as goal

pub returns : goal.returns
unfolding rise_of
returns c = rw (c.steepness.ensures.value, c.diagonal.ensures.value) refl
