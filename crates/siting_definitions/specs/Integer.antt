-- Whole numbers: squares, the least and the greatest of a list, and quotients by UNIT.
use Rattle.std.specs.Prelude.{ℕ, ◌*◌, ◌/◌, ℤ, pos, negsuc, neg_ℤ, List, [], ◌∷◌, fold, unsigned_abs}
use Rattle.std.specs.Int.{int_max, int_min}
use Rattle.siting_definitions.specs.declared.TheConstants.{UNIT}

-- z times z
abbrev pub square_of : ℤ → ℕ
square_of z = unsigned_abs z * unsigned_abs z

-- the least number of a list, and 0 of an empty one
abbrev pub least : List ℤ → ℤ
least [] = pos 0
least (z ∷ zs) = fold int_min z zs

-- the greatest number of a list, and 0 of an empty one
abbrev pub greatest : List ℤ → ℤ
greatest [] = pos 0
greatest (z ∷ zs) = fold int_max z zs

-- z divided by UNIT, rounded towards the lesser number
abbrev pub round_down : ℤ → ℤ
round_down (pos n) = pos (n / UNIT)
round_down (negsuc n) = negsuc (n / UNIT)

-- z divided by UNIT, rounded towards the greater number
abbrev pub round_up : ℤ → ℤ
round_up z = neg_ℤ (round_down (neg_ℤ z))
