use Rattle.convex_region.proofs.BoxLemmas.{lies_in_box}
use Rattle.convex_region.proofs.laws.a_polygon_lies_in_its_box.Goals as goal

pub returns : goal.returns
returns c = λ vs p polygon covered. lies_in_box vs p polygon covered
