-- Made instances: the numbers that are drawn, and the instance that they make.
use Rattle.std.specs.Prelude.{ℕ, zero, suc, ◌+◌, ◌*◌, ◌/◌, ◌%◌, pos, List, [], ◌∷◌, map, None}
use Rattle.std.specs.List.{range_with_len}
use Rattle.siting_definitions.specs.declared.Kind.TheVariants.{Sum}
use Rattle.siting_definitions.specs.Point.{Place}
use Rattle.siting_definitions.specs.Instance.{DemandPt, Instance}

-- the state of a linear congruential generator after n draws, where it begins as the seed
unfoldable pub state : ℕ → ℕ → ℕ
state seed zero = seed
state seed (suc n) = (1103515245 * state seed n + 12345) % 2147483648

-- draw n, counted from 1, which is 0 to 32767: the state without its 16 low digits
abbrev pub draw : ℕ → ℕ → ℕ
draw seed n = state seed n / 65536

-- the point that three draws make
abbrev pub point_of_draws : ℕ → ℕ → ℕ → DemandPt
point_of_draws a b c =
    record { x = pos (3 * a); y = pos (3 * b); w = pos (1 + c % 1000); cutoff = None }

-- point k, counted from 0: three draws make a point
abbrev pub made_point : ℕ → ℕ → DemandPt
made_point seed k =
    point_of_draws (draw seed (3 * k + 1)) (draw seed (3 * k + 2)) (draw seed (3 * k + 3))

-- the square from (low, low) to (high, high), in lengths, counter-clockwise
abbrev pub square : ℕ → ℕ → List Place
square low high =
    record { x = pos low; y = pos low }
    ∷ record { x = pos high; y = pos low }
    ∷ record { x = pos high; y = pos high }
    ∷ record { x = pos low; y = pos high }
    ∷ []

-- so many points that are drawn from a seed, with a large square permitted and a small one in its
-- middle forbidden
unfoldable pub made : ℕ → ℕ → Instance
made seed points =
    record {
      kind = Sum;
      points = map (made_point seed) (range_with_len 0 points);
      permitted = square 0 100000 ∷ [];
      forbidden = square 40000 60000 ∷ [];
    }

-- one town of weight 1 in the middle of a permitted square with a side of 4 lengths
unfoldable pub one_town : Instance
one_town =
    record {
      kind = Sum;
      points = record { x = pos 2; y = pos 2; w = pos 1; cutoff = None } ∷ [];
      permitted = square 0 4 ∷ [];
      forbidden = [];
    }
