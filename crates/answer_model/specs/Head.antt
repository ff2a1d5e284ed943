-- A site with its costs, as two options and as one.
use Rattle.std.specs.Prelude.{ℤ, Option, Some, None}
use Rattle.siting_definitions.specs.Point.{Pt}
use Rattle.siting_definitions.specs.Answer.{Best}

-- a site with its two costs, if both are there
abbrev pub best_of : Option Pt → Option (ℤ × ℤ) → Option Best
best_of None cost = None
best_of (Some site) None = None
best_of (Some site) (Some cost) = Some (record { site = site; lower = cost.0; upper = cost.1 })

-- the site, its lower and its upper cost
abbrev pub parts_of : Best → Pt × ℤ × ℤ
parts_of b = (b.site, b.lower, b.upper)
