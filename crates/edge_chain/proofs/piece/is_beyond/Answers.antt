use Rattle.std.proofs.Common.{Bool, ◌&&◌, sym, ◌∙◌, ap}
use Rattle.edge_chain.specs.Chain.{Edge}
use Rattle.edge_chain.specs.Piece.{at, is_right}
use Rattle.edge_chain.proofs.EdgeLoops.{some_edge, none_more, none_at_all}
use Rattle.edge_chain.proofs.piece.is_beyond.Goals as goal

test : Edge → Edge → Bool
test e k = is_right k (at e.0) && is_right k (at e.1)

pub returns-then-lies_right : goal.returns-then-lies_right
unfolding test
returns-then-lies_right c =
    sym (some_edge (test c.args.e) c.args.piece.now c.loop-i.i c.loop-i-test.true (ap (test c.args.e) (sym c.edge_at.ensures) ∙ sym c.lies_right.ensures ∙ c.if-lies_right.true))

pub loop-i-preserved : goal.loop-i-preserved
unfolding test
loop-i-preserved c =
    none_more (test c.args.e) c.args.piece.now c.loop-i.i c.loop-i-test.true c.loop-i.invariant (ap (test c.args.e) (sym c.edge_at.ensures) ∙ sym c.lies_right.ensures ∙ c.if-lies_right.false)

pub returns : goal.returns
unfolding test
returns c = sym (none_at_all (test c.args.e) c.args.piece.now c.loop-i.i c.loop-i-test.false c.loop-i.invariant)
