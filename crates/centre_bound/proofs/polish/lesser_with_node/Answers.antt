use Rattle.std.proofs.Common.{sym, arith}
use borrow.Author.Differences.{ints, same_in}
use Rattle.siting_definitions.proofs.MarkLemmas.{lesser-none}
use Rattle.centre_bound.proofs.polish.lesser_with_node.Goals as goal

pub lesser_with_leaf-requires : goal.lesser_with_leaf-requires
lesser_with_leaf-requires c =
    let e = rw (← c.in-Some.ensures) at c.requires in
    same_in _ _ (omega (arith, ints, e))

pub returns-in-Some : goal.returns-in-Some
returns-in-Some c = rw (← c.in-Some.ensures) c.lesser_with_leaf.ensures

pub returns-in-None : goal.returns-in-None
returns-in-None c = rw (← c.in-None.ensures) (sym (lesser-none c.args.least))
