use Rattle.std.proofs.Common.{arith}
use Rattle.siting_definitions.specs.Sites.{root_of}
use Rattle.site_model.proofs.Rooted.{root_above, root_least}
use Rattle.site_model.proofs.laws.the_root_has_the_least_side.Goals as goal

pub returns-clause-whole : goal.returns-clause-whole
unfolding root_of
returns-clause-whole c = λ i. omega arith

pub returns-clause-above : goal.returns-clause-above
returns-clause-above c = λ i. root_above i

pub returns-clause-least : goal.returns-clause-least
returns-clause-least c = λ i k above. root_least i k above
