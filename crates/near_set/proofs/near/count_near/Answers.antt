use Rattle.std.proofs.Common.{◌≤◌, sym, subst, FitsSigned, w64, arith}
use Rattle.std.proofs.lemmas.Int.{to_z-of_z}
use Rattle.siting_definitions.specs.Square.{Square}
use Rattle.near_set.specs.Near.{near_list}
use Rattle.near_set.proofs.NearLemmas.{root_deep}
use Rattle.near_set.proofs.near.count_near.Goals as goal

pub count_below-count-requires-clause-depth : goal.count_below-count-requires-clause-depth
count_below-count-requires-clause-depth c =
    subst (λ (s : Square). c.args.depth ≤ s.level) (sym c.root.ensures) (root_deep c.args.instance.now c.args.depth c.requires)

pub returns-then-count-most : goal.returns-then-count-most
unfolding near_list
returns-then-count-most c =
    let fits : FitsSigned w64 c.args.cost = c.ranges.cost in
    let counted = simp (to_z-of_z, c.root.ensures) at c.count_below-count.ensures in
    (omega (arith, counted), omega (arith, counted))

pub returns-else-count-most : goal.returns-else-count-most
unfolding near_list
returns-else-count-most c =
    let fits : FitsSigned w64 c.args.cost = c.ranges.cost in
    let counted = simp (to_z-of_z, c.root.ensures) at c.count_below-count.ensures in
    omega (arith, counted)
