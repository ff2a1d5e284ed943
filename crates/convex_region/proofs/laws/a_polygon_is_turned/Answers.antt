use Rattle.convex_region.proofs.AreaLemmas.{turned_is}
use Rattle.convex_region.proofs.laws.a_polygon_is_turned.Goals as goal

pub returns : goal.returns
returns c = λ vs polygon. turned_is vs polygon
