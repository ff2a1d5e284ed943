use Rattle.std.proofs.Common.{◌≤◌, sym, subst, FitsSigned, w64}
use Rattle.std.proofs.lemmas.Int.{to_z-of_z}
use Rattle.siting_definitions.specs.Square.{Square}
use Rattle.near_set.specs.Near.{near_list}
use Rattle.near_set.proofs.NearLemmas.{root_deep}
use Rattle.near_set.proofs.near.write_near.Goals as goal

pub write_below-requires-clause-depth : goal.write_below-requires-clause-depth
write_below-requires-clause-depth g c =
    subst (λ (s : Square). c.args.depth ≤ s.level) (sym c.root.ensures) (root_deep c.args.instance.now c.args.depth c.requires.depth)

pub returns : goal.returns
unfolding near_list
returns g c =
    let fits : FitsSigned w64 c.args.cost = c.ranges.cost in
    simp (to_z-of_z, c.root.ensures) at c.write_below.ensures
