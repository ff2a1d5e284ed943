use Rattle.dyadic_square.proofs.Trees.{leaves-tile}
use Rattle.dyadic_square.proofs.laws.leaves_tile.Goals as goal

pub returns : goal.returns
returns c = leaves-tile
