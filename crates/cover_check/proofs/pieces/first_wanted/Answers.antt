use Rattle.std.proofs.Common.{List, take_all, subst}
use Rattle.std.specs.List.{All}
use Rattle.std.proofs.lemmas.List.Elements.{All-more}
use Rattle.siting_definitions.specs.Point.{Place}
use Rattle.edge_chain.specs.Wanted.{IsUnwanted}
use Rattle.cover_check.proofs.pieces.first_wanted.Goals as goal

pub loop-i-preserved : goal.loop-i-preserved
loop-i-preserved c =
    let P : List Place → Type 0 = λ vs. IsUnwanted c.args.region.now c.args.forbidden.now vs in
    All-more P c.args.pieces.now c.loop-i.i c.index-pieces-i.result c.loop-i-test.true c.loop-i.invariant
    (subst P c.index-pieces-i.is (subst P c.vertices.ensures (c.in_ok-is_unwanted.ensures.0 c.if-not-branch.false)))

pub returns : goal.returns
returns c =
    let P : List Place → Type 0 = λ vs. IsUnwanted c.args.region.now c.args.forbidden.now vs in
    subst (λ (vss : List (List Place)). All P vss) (take_all c.loop-i.i c.args.pieces.now c.loop-i-test.false) c.loop-i.invariant
