-- Tallies of marks that stand one after the other.
use Rattle.std.specs.Prelude.{◌+◌, ◌<◌, ◌^◌}
use Rattle.siting_definitions.specs.Marks.{Tally, lesser}

-- the tally of two lists, of the tally of each
abbrev pub tally_sum : Tally → Tally → Tally
tally_sum a b =
    record {
      nodes = a.nodes + b.nodes;
      splits = a.splits + b.splits;
      leaves = a.leaves + b.leaves;
      open_leaves = a.open_leaves + b.open_leaves;
      floor_leaves = a.floor_leaves + b.floor_leaves;
      least = lesser a.least b.least;
    }

-- each count is below 2 ^ 40
pub record AreSmall (t : Tally) : Type 0 where
  pub nodes : t.nodes < 2 ^ 40
  pub splits : t.splits < 2 ^ 40
  pub leaves : t.leaves < 2 ^ 40
  pub open_leaves : t.open_leaves < 2 ^ 40
  pub floor_leaves : t.floor_leaves < 2 ^ 40
