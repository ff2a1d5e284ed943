use Rattle.siting_definitions.specs.Square.{IsSquare}
use Rattle.dyadic_square.specs.Within.{LiesWithin}
use Rattle.dyadic_square.proofs.Tiling.{quarters-tile}
use Rattle.dyadic_square.proofs.Within.{quarter-within, quarter-lawful, quarters-all}
use Rattle.dyadic_square.proofs.laws.quarters_tile.Goals as goal

pub returns-clause-tile : goal.returns-clause-tile
returns-clause-tile c = quarters-tile

pub returns-clause-limits : goal.returns-clause-limits
returns-clause-limits c = λ s above limits. quarters-all IsSquare s (λ i. quarter-lawful s i above limits)

pub returns-clause-within : goal.returns-clause-within
returns-clause-within c = λ s above. quarters-all (LiesWithin s) s (λ i. quarter-within s i above)
