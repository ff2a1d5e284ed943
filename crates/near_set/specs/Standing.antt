-- How a square stands to the near set of c.
use Rattle.std.specs.Prelude.{◌≡◌, ℤ, true, false, ⊤}
use Rattle.siting_definitions.specs.Instance.{Instance}
use Rattle.siting_definitions.specs.Square.{Square}
use Rattle.near_set.specs.Near.{is_near}
use Rattle.near_set.specs.Ceiling.{NoneCostsMore}
use Rattle.near_set.specs.declared.standing.Standing.{Standing}
use Rattle.near_set.specs.declared.standing.Standing.TheVariants.{Far, Near, Inside}

-- s has this standing
abbrev pub StandsAs : Instance → ℤ → Square → Standing → Type 0
StandsAs i c s Far = is_near i c s ≡ false
StandsAs i c s Near = is_near i c s ≡ true
StandsAs i c s Inside = (is_near i c s ≡ true) × NoneCostsMore i s c

-- what the standing of a square above s tells of s
abbrev pub FitsBelow : Instance → ℤ → Square → Standing → Type 0
FitsBelow i c s Far = ⊤
FitsBelow i c s Near = ⊤
FitsBelow i c s Inside = NoneCostsMore i s c
